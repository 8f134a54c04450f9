-- RULES 2.3: the rule that every code table keeps.
use Rattle.std.specs.Prelude.{ℕ, ◌+◌, ◌%◌, ◌<◌, ◌≡◌, List, length, get_or, ℤ, pos}

-- a positive index is even, greater than its own place, and inside with its successor
pub record ValidIndices (ix : List ℤ) : Type 0 where
  pub two : 1 < length ix
  pub rule : (k n : ℕ) → k < length ix → get_or ix k (pos 0) ≡ pos n → 0 < n → (n % 2 ≡ 0) × (k < n) × (n + 1 < length ix)
