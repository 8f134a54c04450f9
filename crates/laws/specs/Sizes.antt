-- How large numbers are, in absolute value.
use Rattle.std.specs.Prelude.{ℕ, ◌≤◌, ◌<◌, List, ℤ, pos, nat_abs, get_or}

-- the absolute value of each f k, k below n, is at most size k
pub record AtMost (n : ℕ) (size : ℕ → ℕ) (f : ℕ → ℤ) : Type 0 where
  pub entry : (k : ℕ) → k < n → nat_abs (f k) ≤ size k

-- RULES 4.4, 6.13: 64 results, to each of which a byte can be added in 32 bits
abbrev pub ResultsInBounds : List ℤ → Type 0
ResultsInBounds s = AtMost 64 (λ k. 131072) (λ k. get_or s k (pos 0))
