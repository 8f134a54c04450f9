-- RULES 5.6, D3.8: which displacements lead from one component to another.
use Rattle.std.specs.Prelude.{◌≡◌, ℕ, ◌*◌, ℤ, pos, neg_ℤ, ◌+ℤ◌, ◌≤ℤ◌}
use Rattle.motion.specs.Displacement.{corrected}

-- d is a displacement from -16 f to 16 f, and leads from the component a to b
pub record Displaces (f : ℕ) (a b d : ℤ) : Type 0 where
  pub low : neg_ℤ (pos (16 * f)) ≤ℤ d
  pub high : d ≤ℤ pos (16 * f)
  pub there : corrected f (a +ℤ d) ≡ b
