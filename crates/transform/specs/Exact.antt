-- The transform's steps in exact fractions: 362/256, 473/256 and 196/256 are kept, and nothing is rounded. A fraction is its numerator over a power of 256.
use Rattle.std.specs.Prelude.{ℕ, zero, suc, ◌+◌, ◌*◌, ◌^◌, ◌<◌, ◌≤◌, List, ℤ, pos, neg_ℤ, nat_abs, ◌+ℤ◌, ◌-ℤ◌, ◌*ℤ◌}
use Rattle.transform.specs.Steps.{Expression, input, ◌⊕◌, ◌⊖◌, neg, ◌⊗◌, nearest, output}
use Rattle.transform.specs.Butterfly.{nth}
use Rattle.transform.specs.Idct.{at, lane, idct, dc_only}

-- 256 ^ d times the exact number of a step in which at most d divisions stand within one another; input k is s k
abbrev pub exact : ℕ → (ℕ → ℤ) → Expression → ℤ
exact d s (input k) = s k *ℤ pos (256 ^ d)
exact d s (a ⊕ b) = exact d s a +ℤ exact d s b
exact d s (a ⊖ b) = exact d s a -ℤ exact d s b
exact d s (neg a) = neg_ℤ (exact d s a)
exact d s (a ⊗ n) = exact d s a *ℤ pos n
exact zero s (nearest a) = pos 0
exact (suc d) s (nearest a) = exact d s a

-- 256 times the exact output y of column x
abbrev pub exact_column : List ℤ → ℕ → ℕ → ℤ
exact_column l x y = exact 1 (nth (lane l x 8)) (output y)

-- 256 ^ 3 times the exact result in row y, column x: the inputs of row y are 256 times the exact numbers, and the last division is one more
abbrev pub exact_result : List ℤ → ℕ → ℕ → ℤ
exact_result l y x = exact 2 (λ k. exact_column l k y) (nearest (output x))

-- how far apart the two can be, over 256 ^ 3: 21205 / 32768, the sum of what all roundings on the way can add
abbrev pub error_bound : ℕ
error_bound = 10856960

-- each result of the transform is no farther from the exact one, so less than 1 away
pub record NearExact (l : List ℤ) : Type 0 where
  pub most : (y x : ℕ) → y < 8 → x < 8 → nat_abs (at (idct l) (y * 8 + x) *ℤ pos 16777216 -ℤ exact_result l y x) ≤ error_bound
  pub less : (y x : ℕ) → y < 8 → x < 8 → nat_abs (at (idct l) (y * 8 + x) *ℤ pos 16777216 -ℤ exact_result l y x) < 16777216

-- the same of the short way for a block that has no coefficient but that at place 0
pub record DcOnlyNearExact (l : List ℤ) : Type 0 where
  pub most : (y x : ℕ) → y < 8 → x < 8 → nat_abs (dc_only (at l 0) *ℤ pos 16777216 -ℤ exact_result l y x) ≤ error_bound
  pub less : (y x : ℕ) → y < 8 → x < 8 → nat_abs (dc_only (at l 0) *ℤ pos 16777216 -ℤ exact_result l y x) < 16777216
