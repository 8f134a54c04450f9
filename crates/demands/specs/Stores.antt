-- RULES D2.3: what of the store stays as it was.
use Rattle.std.specs.Prelude.{◌≡◌, List, ◌⊎◌, ℕ, ◌+◌, ◌*◌, ◌≤◌, ◌<◌, length, get_or}

-- all bytes but those of the picture number k, where a picture has n macroblocks (RULES 6.11)
pub record SameBut (n k : ℕ) (l m : List ℕ) : Type 0 where
  pub long : length m ≡ length l
  pub same : (i : ℕ) → (i < k * (384 * n)) ⊎ (k * (384 * n) + 384 * n ≤ i) → get_or m i 0 ≡ get_or l i 0

-- all bytes from the n-th on
pub record SameFrom (n : ℕ) (l m : List ℕ) : Type 0 where
  pub long : length m ≡ length l
  pub same : (i : ℕ) → n ≤ i → get_or m i 0 ≡ get_or l i 0
