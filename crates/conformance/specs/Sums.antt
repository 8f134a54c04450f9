-- A checksum of numbers below 2^32, which the maker of the answers computes, too.
use Rattle.std.specs.Prelude.{List, [], ◌∷◌, ◌++◌, ℕ, ◌+◌, ◌*◌, ◌/◌, ◌%◌, Float, ℤ}
use Rattle.std.specs.Int.{w32}
use Rattle.std.proofs.Common.{of_z}
use Rattle.conformance.specs.Floats.{bits}

-- one number more; the modulus is a prime
unfoldable pub mixed : ℕ → ℕ → ℕ
mixed sum n = (sum * 2654435761 + n) % 4294967311

unfoldable pub summed : ℕ → List ℕ → ℕ
summed sum [] = sum
summed sum (n ∷ ns) = summed (mixed sum n) ns

-- what the elements of a part are summed as, one after the other
unfoldable pub words : {A : Type 0} → (A → List ℕ) → List A → List ℕ
words f [] = []
words f (x ∷ xs) = f x ++ words f xs

-- a number below 2^32
abbrev pub single : ℕ → List ℕ
single n = n ∷ []

-- a number of 64 bits: its high half, then its low one
abbrev pub halves : ℕ → List ℕ
halves n = n / 4294967296 ∷ n % 4294967296 ∷ []

abbrev pub signed_word : ℤ → List ℕ
signed_word z = of_z w32 z ∷ []

abbrev pub float_words : Float → List ℕ
float_words x = halves (bits x)

-- a record, as it lies in memory
abbrev pub record_sum : List ℕ → List ℤ → List ℕ → List Float → ℕ
record_sum n i m c = summed (summed (summed (summed 1 (words halves n)) (words signed_word i)) m) (words float_words c)
