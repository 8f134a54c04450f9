-- RULES D3.4, D3.6: two numbers that differ by a multiple, and the remainder on division.
use Rattle.std.specs.Prelude.{◌≡◌, ℕ, ◌-◌, ◌%◌, ℤ, pos, negsuc, ◌-ℤ◌, ◌*ℤ◌}

-- x and y differ by a multiple of m
pub record Congruent (m : ℕ) (x y : ℤ) : Type 0 where
  pub times : ℤ
  pub is : x -ℤ y ≡ pos m *ℤ times

-- what is left of x on division by m, from 0 to m - 1: -1 leaves m - 1
unfoldable pub remainder : ℤ → ℕ → ℕ
remainder (pos n) m = n % m
remainder (negsuc n) m = m - 1 - n % m
