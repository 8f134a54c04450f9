-- What a host reads of a record, and the sizes that it needs.
use Rattle.std.specs.Prelude.{cond, ◌&&◌, List, ℕ, ◌*◌, ◌/◌, ◌≤◌, eqb, leb, Float, length, get_or, replicate}
use Rattle.std.specs.Float.{nan}
use Rattle.bits.specs.Bounds.{last_position}
use Rattle.bits.specs.Programs.{when◌then◌else◌}
use Rattle.prediction.specs.declared.planes.Plane.{Plane}
use Rattle.prediction.specs.declared.planes.Plane.TheVariants.{Y, Cr, Cb}
use Rattle.prediction.specs.Planes.{block_size, plane_length, plane_start, stores_bytes}
use Rattle.header.specs.declared.state.Sequence.{Sequence}
use Rattle.header.specs.State.{zero_float, fresh_sequence}
use Rattle.header.specs.Possible.{sizes_of, possible_sequence}
use Rattle.memory.specs.Fields.{number, sequence_in, number_count, matrix_count, clock_count}

-- the version of the calls and of the record: a later one has more fields, numbers or calls
abbrev pub version : ℕ
version = 1

-- what numbers 1 to 6 say of the sequence; no view reads a matrix
abbrev pub sequence_unchecked : List ℕ → Sequence
sequence_unchecked n = sequence_in n (replicate matrix_count 0)

-- RULES Q2: that, if it is possible; else the fresh one, whose sizes are 0
unfoldable pub seen : List ℕ → Sequence
seen n =
    let q = sequence_unchecked n in
    when leb number_count (length n) && leb (number n 1) 1 then (when possible_sequence q then q else fresh_sequence) else fresh_sequence

-- the macroblocks of a picture are few
pub record MacroblockBounds (q : Sequence) : Type 0 where
  pub across : q.sizes.mb_width ≤ 256
  pub size : q.sizes.mb_size ≤ 65536

-- number k if it is at most m, else 0
abbrev pub number_view : List ℕ → ℕ → ℕ → ℕ
number_view n k m = when leb number_count (length n) && leb (number n k) m then number n k else 0

-- RULES Q2: the type read last, and the whole bytes read so far
abbrev pub type_seen : List ℕ → ℕ
type_seen n = number_view n 7 7

abbrev pub bytes_read : List ℕ → ℕ
bytes_read n = number_view n 0 last_position / 8

-- the plane of a number: Y, Cr, Cb
abbrev pub plane_number : ℕ → Plane
plane_number p = cond (eqb p 0) Y (cond (eqb p 1) Cr Cb)

-- RULES 6.11: bytes in a row of a plane; bytes of a plane; where the plane of the store number k begins. 0 for another number of a plane or a store
abbrev pub row_bytes : List ℕ → ℕ → ℕ
row_bytes n p = when leb p 2 then (seen n).sizes.mb_width * block_size (plane_number p) else 0

abbrev pub plane_bytes : List ℕ → ℕ → ℕ
plane_bytes n p = when leb p 2 then plane_length (plane_number p) (seen n).sizes.mb_size else 0

abbrev pub plane_begin : List ℕ → ℕ → ℕ → ℕ
plane_begin n k p = when leb k 2 && leb p 2 then plane_start k (plane_number p) (seen n).sizes.mb_size else 0

-- number k of a clock; 0.0 where the memory is too short
abbrev pub clock_number : List Float → ℕ → Float
clock_number c k = when leb clock_count (length c) then get_or c k nan else zero_float

-- RULES 6.11, O.4: bytes of the three stores of a picture; 0 for a size that no header may have
abbrev pub store_bytes_of : ℕ → ℕ → ℕ
store_bytes_of w h = when leb 1 w && leb w 4095 && leb 1 h && leb h 4095 then stores_bytes (sizes_of w h).mb_size else 0
