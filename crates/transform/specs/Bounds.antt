-- RULES 4.4: the sizes at which no step of the transform leaves 32 bits.
use Rattle.std.specs.Prelude.{ℕ, ◌+◌, ◌*◌, ◌/◌, ◌%◌, ◌≤◌, ◌<◌, List, [], ◌∷◌, ℤ, pos, nat_abs, ◌+ℤ◌, get_or}
use Rattle.laws.specs.Sizes.{AtMost}
use Rattle.transform.specs.Steps.{Expression, input, ◌⊕◌, ◌⊖◌, neg, ◌⊗◌, nearest, value, output}
use Rattle.transform.specs.Butterfly.{nth}
use Rattle.transform.specs.Idct.{at, lane, columns}

-- the eight inputs of the step. Columns of coefficients keep to these sizes, and so do the rows between the passes
abbrev pub input_size : ℕ → ℕ
input_size k = get_or (1500000 ∷ 2100000 ∷ 2000000 ∷ 1800000 ∷ 1500000 ∷ 1200000 ∷ 800000 ∷ 400000 ∷ []) k 0

-- its outputs on such inputs
abbrev pub output_size : ℕ → ℕ
output_size k = 33500000

-- a block between the passes
abbrev pub BetweenPasses : List ℤ → Type 0
BetweenPasses l = AtMost 64 (λ k. input_size (k % 8)) (at l)

-- ---- each number on the way

-- how large a step can be whose inputs keep to these sizes
abbrev pub size_of : (ℕ → ℕ) → Expression → ℕ
size_of size (input k) = size k
size_of size (a ⊕ b) = size_of size a + size_of size b
size_of size (a ⊖ b) = size_of size a + size_of size b
size_of size (neg a) = size_of size a
size_of size (a ⊗ n) = size_of size a * n
size_of size (nearest a) = (size_of size a + 128 + 255) / 256

-- z keeps to the size n, which 32 bits with a sign hold
pub record Sized (n : ℕ) (z : ℤ) : Type 0 where
  pub most : nat_abs z ≤ n
  pub small : n < 2147483648

-- every sum, difference and product on the way to a step does, also the sum that is divided
abbrev pub InBounds : (ℕ → ℕ) → (ℕ → ℤ) → Expression → Type 0
InBounds size s (input k) = Sized (size k) (s k)
InBounds size s (a ⊕ b) = InBounds size s a × InBounds size s b × Sized (size_of size (a ⊕ b)) (value s (a ⊕ b))
InBounds size s (a ⊖ b) = InBounds size s a × InBounds size s b × Sized (size_of size (a ⊖ b)) (value s (a ⊖ b))
InBounds size s (neg a) = InBounds size s a × Sized (size_of size (neg a)) (value s (neg a))
InBounds size s (a ⊗ n) = InBounds size s a × Sized (size_of size (a ⊗ n)) (value s (a ⊗ n))
InBounds size s (nearest a) =
    InBounds size s a × Sized (size_of size a + 128) (value s a +ℤ pos 128) × Sized (size_of size (nearest a)) (value s (nearest a))

-- in both passes, of which the second rounds its outputs
pub record NoOverflow (l : List ℤ) : Type 0 where
  pub column : (x k : ℕ) → x < 8 → k < 8 → InBounds input_size (nth (lane l x 8)) (output k)
  pub row : (y k : ℕ) → y < 8 → k < 8 → InBounds input_size (nth (lane (columns l) (y * 8) 1)) (nearest (output k))
