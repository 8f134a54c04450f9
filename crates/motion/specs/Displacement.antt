-- RULES part 5: a component of a motion vector, the displacement that a code and its residual say, and the correction. Plain functions on numbers.
use Rattle.std.specs.Prelude.{cond, ℕ, zero, suc, ◌+◌, ◌*◌, ℤ, pos, negsuc, neg_ℤ, ◌+ℤ◌, ◌-ℤ◌, ◌≤ℤ◌, ◌<ℤ◌}
use Rattle.std.specs.Int.Signed.{lt_z}

-- RULES D3: -16 f ≤ x ≤ 16 f - 1
pub record InRange (f : ℕ) (x : ℤ) : Type 0 where
  pub low : neg_ℤ (pos (16 * f)) ≤ℤ x
  pub high : x <ℤ pos (16 * f)

-- RULES 5.4: (|m| - 1) × f + R + 1 with the sign of m; 0 for m = 0
unfoldable pub displacement_from : ℕ → ℤ → ℕ → ℤ
displacement_from f (pos zero) R = pos 0
displacement_from f (pos (suc k)) R = pos (k * f + R + 1)
displacement_from f (negsuc k) R = neg_ℤ (pos (k * f + R + 1))

-- RULES 5.5: a sum above 16 f - 1 loses 32 f, one below -16 f gains 32 f
unfoldable pub corrected : ℕ → ℤ → ℤ
corrected f x =
    cond (lt_z (pos (16 * f) -ℤ pos 1) x) (x -ℤ pos (32 * f)) (cond (lt_z x (neg_ℤ (pos (16 * f)))) (x +ℤ pos (32 * f)) x)
