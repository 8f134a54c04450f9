-- Start codes as signed numbers: their range, and tests of them for equality. Assumes nothing.
use mathlib.Core.Path.{◌≡◌, refl, ap}
use mathlib.Core.Bool.{true, false}
use Prim.Native.Nat.{◌≤◌}
use native.Mathlib.Omega.{arith}
use lib.IntN.{ℤ, pos, negsuc, nat_abs}
use mir.Syntax.{w32}
use mir.Val.{SFits}
use borrow.Author.Tests.{eq-eqb, ne_eqb}
use Rattle.bits.specs.Programs.{eq_z}

pub eq_z-yes : (k c : ℤ) → k ≡ c → eq_z k c ≡ true
eq_z-yes k c e = rw e (same c)
  where
    same : (c : ℤ) → eq_z c c ≡ true
    same (pos n) = eq-eqb n n refl
    same (negsuc n) = eq-eqb n n refl

pub eq_z-no : (k c : ℤ) → (k ≡ c → ⊥) → eq_z k c ≡ false
eq_z-no (pos m) (pos n) g = ne_eqb m n (λ e. g (ap pos e))
eq_z-no (pos m) (negsuc n) g = refl
eq_z-no (negsuc m) (pos n) g = refl
eq_z-no (negsuc m) (negsuc n) g = ne_eqb m n (λ e. g (ap negsuc e))

-- a start code fits 32 bits
pub code_fits : (k : ℤ) → nat_abs k ≤ 255 → SFits w32 k
code_fits (pos n) h = record { sfits = omega arith }
code_fits (negsuc n) h = record { sfits = omega arith }
