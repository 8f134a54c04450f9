-- The record in memory that a host owns: four parts, each of its fields' own type. What lies behind a record is not part of it.
use Rattle.std.specs.Prelude.{◌≡◌, Bool, true, false, ◌&&◌, List, [], ◌∷◌, ◌++◌, ℕ, leb, Float, ℤ, length, drop}
use Rattle.decoder.specs.declared.record.Decoder.{Decoder}
use Rattle.memory.specs.Fields.{Number, fields, record_in, fits, numbers_of, integers_of, matrices_of, clock_of}
use Rattle.memory.specs.Fields.{number_count, integer_count, matrix_count, clock_count}

pub record Memory : Type 0 where
  pub numbers : List ℕ
  pub integers : List ℤ
  pub matrices : List ℕ
  pub clock : List Float

abbrev pub memory : List ℕ → List ℤ → List ℕ → List Float → Memory
memory n i m c = record { numbers = n; integers = i; matrices = m; clock = c }

-- ---- what is written

-- a part written over the beginning of a memory: what lies behind it stays
abbrev pub over : {A : Type 0} → List A → List A → List A
over x l = x ++ drop (length x) l

unfoldable pub written : Decoder → Memory → Memory
written d x =
    memory (over (numbers_of d) x.numbers) (over (integers_of d) x.integers) (over (matrices_of d) x.matrices) (over (clock_of d) x.clock)

-- ---- what is read

unfoldable pub record_of : Memory → Decoder
record_of x = record_in x.numbers x.integers x.matrices x.clock

-- ---- does a memory hold a record?

-- is there room for one?
abbrev pub has_room : Memory → Bool
has_room x =
    leb number_count (length x.numbers) && leb integer_count (length x.integers) && leb matrix_count (length x.matrices)
    && leb clock_count (length x.clock)

-- is each number a value of its field's type?
unfoldable pub within : List Number → List ℕ → Bool
within [] n = true
within (f ∷ fs) [] = false
within (f ∷ fs) (x ∷ n) = fits f x && within fs n

abbrev pub in_range : List ℕ → Bool
in_range n = within fields.numbers n

-- every other element is a value of its field's type
unfoldable pub is_record : Memory → Bool
is_record x = has_room x && in_range x.numbers

-- it holds the record d
pub record HoldsRecord (x : Memory) (d : Decoder) : Type 0 where
  pub is : is_record x ≡ true
  pub record_is : record_of x ≡ d
