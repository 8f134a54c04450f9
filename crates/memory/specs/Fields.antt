-- The fields of the record: what lies where in memory, how long its parts are and what each number may be.
use Rattle.std.specs.Prelude.{◌≡◌, Bool, true, cond, List, [], ◌∷◌, ◌++◌, map, ℕ, ◌+◌, ◌≤◌, eqb, leb, Float, ℤ, pos, length, get_or}
use Rattle.std.specs.Float.{nan}
use borrow.Rule.Slice.PartMut.{mid_of}
use Rattle.picture_state.specs.declared.types.{Motion.Motion, Picture.Picture}
use Rattle.header.specs.declared.state.Sequence.{Sequence}
use Rattle.playback.specs.declared.state.Clock.{Clock}
use Rattle.playback.specs.State.{has_reference_frame, frames, next_time, shown_time}
use Rattle.decoder.specs.declared.record.Decoder.{Decoder}
use Rattle.decoder.specs.Record.{position}

-- a number is a flag, one of 32 bits or one of 64
pub data Number : Type 0 where
  flag : (Decoder → Bool) → Number
  word32 : (Decoder → ℕ) → Number
  size : (Decoder → ℕ) → Number

-- so many elements of another part; one
pub record Entry (A : Type 0) : Type 0 where
  pub count : ℕ
  pub get : Decoder → List A

abbrev pub many : {A : Type 0} → ℕ → (Decoder → List A) → Entry A
many n f = record { count = n; get = f }

abbrev pub one : {A : Type 0} → (Decoder → A) → Entry A
one f = many 1 (λ d. f d ∷ [])

pub record Fields : Type 0 where
  pub numbers : List Number
  pub integers : List (Entry ℤ)
  pub matrices : List (Entry ℕ)
  pub clock : List (Entry Float)

-- each field of the record at its place, one behind the other in its part. A field is added at the end.
abbrev pub fields : Fields
fields = record {
  numbers =
      size position
      ∷ flag (λ d. d.sequence.has_sequence_header)
      ∷ size (λ d. d.sequence.width)
      ∷ size (λ d. d.sequence.height)
      ∷ size (λ d. d.sequence.sizes.mb_width)
      ∷ size (λ d. d.sequence.sizes.mb_height)
      ∷ size (λ d. d.sequence.sizes.mb_size)
      ∷ word32 (λ d. d.state.picture.picture_type)
      ∷ size (λ d. d.state.picture.stores.cur)
      ∷ size (λ d. d.state.picture.stores.fwd)
      ∷ size (λ d. d.state.picture.stores.bwd)
      ∷ word32 (λ d. d.state.picture.slice.quantizer_scale)
      ∷ flag (λ d. d.state.picture.slice.motion_forward.full_px)
      ∷ flag (λ d. d.state.picture.slice.motion_forward.is_set)
      ∷ word32 (λ d. d.state.picture.slice.motion_forward.r_size)
      ∷ flag (λ d. d.state.picture.slice.motion_backward.full_px)
      ∷ flag (λ d. d.state.picture.slice.motion_backward.is_set)
      ∷ word32 (λ d. d.state.picture.slice.motion_backward.r_size)
      ∷ flag (λ d. has_reference_frame d.state)
      ∷ word32 (λ d. frames d.state)
      ∷ word32 (λ d. d.stop)
      ∷ [];
  integers =
      one (λ d. d.state.picture.start_code)
      ∷ one (λ d. d.state.picture.slice.macroblock_address)
      ∷ one (λ d. d.state.picture.slice.motion_forward.h)
      ∷ one (λ d. d.state.picture.slice.motion_forward.v)
      ∷ one (λ d. d.state.picture.slice.motion_backward.h)
      ∷ one (λ d. d.state.picture.slice.motion_backward.v)
      ∷ many 3 (λ d. d.state.picture.slice.dc_predictor)
      ∷ many 64 (λ d. d.block_data)
      ∷ [];
  matrices =
      many 64 (λ d. d.sequence.matrices.intra_quant_matrix)
      ∷ many 64 (λ d. d.sequence.matrices.non_intra_quant_matrix)
      ∷ [];
  clock =
      one (λ d. d.state.display.clock.framerate)
      ∷ one (λ d. d.state.display.clock.pixel_aspect_ratio)
      ∷ one (λ d. next_time d.state)
      ∷ one (λ d. shown_time d.state)
      ∷ [];
}

-- ---- the record of these values: each field at its place, as RoundTrip proves

abbrev pub number : List ℕ → ℕ → ℕ
number n k = get_or n k 0

abbrev pub integer : List ℤ → ℕ → ℤ
integer i k = get_or i k (pos 0)

abbrev pub flag_of : ℕ → Bool
flag_of x = eqb x 1

-- a motion, of the numbers from k on and the integers from j on
abbrev pub motion_in : List ℕ → ℕ → List ℤ → ℕ → Motion
motion_in n k i j = record {
  full_px = flag_of (number n k);
  is_set = flag_of (number n (k + 1));
  r_size = number n (k + 2);
  h = integer i j;
  v = integer i (j + 1);
}

abbrev pub sequence_in : List ℕ → List ℕ → Sequence
sequence_in n m = record {
  has_sequence_header = flag_of (number n 1);
  width = number n 2;
  height = number n 3;
  sizes = record { mb_width = number n 4; mb_height = number n 5; mb_size = number n 6 };
  matrices = record { intra_quant_matrix = mid_of 0 64 m; non_intra_quant_matrix = mid_of 64 64 m };
}

abbrev pub picture_in : List ℕ → List ℤ → Picture
picture_in n i = record {
  picture_type = number n 7;
  start_code = integer i 0;
  stores = record { cur = number n 8; fwd = number n 9; bwd = number n 10 };
  slice = record {
    quantizer_scale = number n 11;
    macroblock_address = integer i 1;
    motion_forward = motion_in n 12 i 2;
    motion_backward = motion_in n 15 i 4;
    dc_predictor = mid_of 6 3 i;
  };
}

abbrev pub clock_in : List Float → Clock
clock_in c = record {
  framerate = get_or c 0 nan;
  pixel_aspect_ratio = get_or c 1 nan;
  time = get_or c 2 nan;
  last_frame_time = get_or c 3 nan;
}

abbrev pub record_in : List ℕ → List ℤ → List ℕ → List Float → Decoder
record_in n i m c = record {
  sequence = sequence_in n m;
  state = record {
    position = record { 0 = number n 0 };
    picture = picture_in n i;
    display = record { clock = clock_in c; has_reference_frame = flag_of (number n 18); frames_decoded = number n 19 };
  };
  block_data = mid_of 9 64 i;
  stop = number n 20;
}

-- ---- what follows from the kinds

-- a flag as a number
abbrev pub flag_number : Bool → ℕ
flag_number x = cond x 1 0

-- a number of a record, and the most that its type holds
abbrev pub value : Decoder → Number → ℕ
value d (flag f) = flag_number (f d)
value d (word32 f) = f d
value d (size f) = f d

abbrev pub most : Number → ℕ
most (flag f) = 1
most (word32 f) = 4294967295
most (size f) = 18446744073709551615

-- is a number of 64 bits a value of that type?
abbrev pub fits : Number → ℕ → Bool
fits (flag f) x = leb x 1
fits (word32 f) x = leb x 4294967295
fits (size f) x = true

-- the elements of a record, and how many there are
abbrev pub elements : {A : Type 0} → List (Entry A) → Decoder → List A
elements [] d = []
elements (e ∷ es) d = e.get d ++ elements es d

abbrev pub count : {A : Type 0} → List (Entry A) → ℕ
count [] = 0
count (e ∷ es) = e.count + count es

-- the values of a record's parts
abbrev pub numbers_of : Decoder → List ℕ
numbers_of d = map (value d) fields.numbers

abbrev pub integers_of : Decoder → List ℤ
integers_of d = elements fields.integers d

abbrev pub matrices_of : Decoder → List ℕ
matrices_of d = elements fields.matrices d

abbrev pub clock_of : Decoder → List Float
clock_of d = elements fields.clock d

-- how many elements they have
abbrev pub number_count : ℕ
number_count = length fields.numbers

abbrev pub integer_count : ℕ
integer_count = count fields.integers

abbrev pub matrix_count : ℕ
matrix_count = count fields.matrices

abbrev pub clock_count : ℕ
clock_count = count fields.clock

-- ---- what the types of a record's fields hold: every record that a call gives has these values

abbrev pub TypedNumbers : List Number → Decoder → Type 0
TypedNumbers [] d = Unit {0}
TypedNumbers (flag f ∷ fs) d = TypedNumbers fs d
TypedNumbers (word32 f ∷ fs) d = (f d ≤ 4294967295) × TypedNumbers fs d
TypedNumbers (size f ∷ fs) d = TypedNumbers fs d

pub record Sized {A : Type 0} (x : List A) (n : ℕ) : Type 0 where
  pub is : length x ≡ n

abbrev pub TypedEntries : {A : Type 0} → List (Entry A) → Decoder → Type 0
TypedEntries [] d = Unit {0}
TypedEntries (e ∷ es) d = Sized (e.get d) e.count × TypedEntries es d

pub record Typed (d : Decoder) : Type 0 where
  pub numbers : TypedNumbers fields.numbers d
  pub integers : TypedEntries fields.integers d
  pub matrices : TypedEntries fields.matrices d
