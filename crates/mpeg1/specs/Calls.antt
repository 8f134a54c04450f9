-- The calls of `decoder` on memory that a host owns. An answer is 0 or the number of a refusal (RULES Q).
use Rattle.std.specs.Prelude.{◌≡◌, true, not, ◌&&◌, List, [], ◌∷◌, ℕ, leb, Float, ℤ, length, replicate}
use Rattle.bits.specs.Bounds.{longest_stream}
use Rattle.bits.specs.Programs.{when◌then◌else◌}
use Rattle.header.specs.State.{zero_float}
use Rattle.playback.specs.declared.outcome.{Outcome.Outcome, Shown.Shown}
use Rattle.decoder.specs.Record.{CallResult}
use Rattle.decoder.specs.Answers.{result, number, decode_answer, opening_error_code, conversion_error_code}
use Rattle.decoder.specs.Opening.{opening}
use Rattle.decoder.specs.Decode.{decode}
use Rattle.decoder.specs.Conversion as Conversion
use Rattle.memory.specs.Fields.{clock_count}
use Rattle.memory.specs.Memory.{Memory, memory, over, written, record_of, has_room, is_record, HoldsRecord}

-- what a call leaves: its answer and all of the memory that a host has lent
pub record HostResult : Type 0 where
  pub answer : ℕ
  pub store : List ℕ
  pub memory : Memory

abbrev pub host_result : ℕ → List ℕ → Memory → HostResult
host_result answer store x = record { answer = answer; store = store; memory = x }

-- beside it what a host is told of a picture: numbers, and its time
pub record HostOutput : Type 0 where
  pub kept : HostResult
  pub picture : List ℕ
  pub time : Float

abbrev pub host_output : HostResult → List ℕ → Float → HostOutput
host_output x picture time = record { kept = x; picture = picture; time = time }

-- RULES 8.9: the numbers: its store. A number is added at the end
abbrev pub picture_numbers : Shown → List ℕ
picture_numbers p = p.store ∷ []

abbrev pub picture_count : ℕ
picture_count = 1

-- the record that a call of `decoder` leaves, over the beginning of the memory
abbrev pub saved : {A : Type 0} → ℕ → CallResult A → Memory → HostResult
saved answer y x = host_result answer y.store (written y.decoder x)

-- RULES O: opening; 2 where there is no room for the record, which a refused opening gives too
unfoldable pub host_open : List ℕ → List ℕ → Memory → HostResult
host_open s l x = when not (has_room x) then host_result 2 l x else saved (opening_error_code (opening s l).answer) (opening s l) x

-- contract of `mpeg1_open`: given the stream s, the store l and the memory x it left y; with room for a record the memory holds that of the opening
pub record HostOpens (s l : List ℕ) (x : Memory) (y : HostResult) : Type 0 where
  pub left : y ≡ host_open s l x
  pub held : has_room x ≡ true → HoldsRecord y.memory (opening s l).decoder

-- what a hand-out leaves where the memory holds a record
pub record RefinesDecode (answer : Outcome) (store : List ℕ) (z : Memory) (y : CallResult Outcome) (x : Memory) : Type 0 where
  pub answered : answer ≡ y.answer
  pub stored : store ≡ y.store
  pub wrote : z ≡ written y.decoder x
  pub holds : HoldsRecord z y.decoder

-- RULES 8.9: a picture's numbers, over the beginning of what is lent, and its time; or those from before
abbrev pub decode_output : CallResult Outcome → Memory → List ℕ → Float → HostOutput
decode_output y x k t = elim (decode_answer y.answer) [
  | result p ↦ host_output (saved 0 y x) (over (picture_numbers p) k) p.time
  | number m ↦ host_output (saved m y x) k t
]

-- RULES Q: question 1, then whether the memory holds a record and there is room for a picture's numbers, which is part of question 2, and the
-- hand-out of that record
unfoldable pub host_decode : List ℕ → List ℕ → Memory → List ℕ → Float → HostOutput
host_decode s l x k t =
    when not (leb (length s) longest_stream) then host_output (host_result 1 l x) k t
    else when not (is_record x && leb picture_count (length k)) then host_output (host_result 2 l x) k t
    else decode_output (decode (record_of x) s l) x k t

-- contract of `mpeg1_decode`: given the stream s, the store l, the memory x, room k for a picture's numbers and its time t it left y; where the memory
-- held a record that was asked for, it holds the one that `decode` leaves
pub record HostDecodes (s l : List ℕ) (x : Memory) (k : List ℕ) (t : Float) (y : HostOutput) : Type 0 where
  pub left : y ≡ host_decode s l x k t
  pub held : is_record x ≡ true → leb (length s) longest_stream ≡ true → leb picture_count (length k) ≡ true
      → HoldsRecord y.kept.memory (decode (record_of x) s l).decoder

-- a conversion reads no clock, so a host lends none: the record has one of 0.0
abbrev pub zero_clock : List Float
zero_clock = replicate clock_count zero_float

abbrev pub without_clock : List ℕ → List ℤ → List ℕ → Memory
without_clock n i m = memory n i m zero_clock

-- what a conversion leaves: its answer and the whole area
pub record Converts : Type 0 where
  pub answer : ℕ
  pub area : List ℕ

abbrev pub converts : ℕ → List ℕ → Converts
converts answer area = record { answer = answer; area = area }

-- RULES Q: the conversion: 2 where the memory holds no record
unfoldable pub host_convert : List ℕ → Memory → ℕ → List ℕ → ℕ → ℕ → Converts
host_convert l x k a w h =
    when not (is_record x) then converts 2 a
    else let y = Conversion.converted (record_of x) l k a w h in converts (conversion_error_code y.answer) y.area

-- contract of `mpeg1_write_rgb_scaled`: given the store l, the memory x, the store number k, the area a and the sizes w and h it left y
abbrev pub HostConverts : List ℕ → Memory → ℕ → List ℕ → ℕ → ℕ → Converts → Type 0
HostConverts l x k a w h y = y ≡ host_convert l x k a w h
