-- The displacement of RULES 5.4. Assumes nothing.
use mathlib.Core.Path.{◌≡◌, refl, ap}
use Prim.Native.Nat.{ℕ, zero, suc, ◌+◌, ◌*◌, ◌≤◌, ◌<◌}
use native.Mathlib.Nat.{mul-le-mul_right}
use native.Mathlib.Omega.{arith}
use lib.IntN.{ℤ, pos, negsuc, neg_ℤ, nat_abs}
use Rattle.laws.proofs.Ints.{Dif, up, dn, lit, neg, as-dif}
use Rattle.laws.proofs.Nums.{neg_abs}
use Rattle.motion.specs.Displacement.{displacement_from}

-- it is at most 16 f
pub displace-small : (f : ℕ) (m : ℤ) (R : ℕ) → nat_abs m ≤ 16 → R < f → nat_abs (displacement_from f m R) ≤ 16 * f
unfolding displacement_from
displace-small f (pos zero) R h r = omega arith
displace-small f (pos (suc k)) R h r = omega (arith, mul-le-mul_right f h)
displace-small f (negsuc k) R h r = omega (arith, mul-le-mul_right f h, neg_abs (pos (k * f + R + 1)))

-- by the sign of the code: m f - f + R + 1, or m f + f - R - 1
pub displace-up : (f : ℕ) (m : ℤ) (R : ℕ) → 0 < up m → Dif (displacement_from f m R) (up m * f + R + 1) f
unfolding displacement_from
displace-up f (pos zero) R h = let z : ⊥ = omega arith in absurd z
displace-up f (pos (suc k)) R h = as-dif (suc k * f + R + 1) f (lit (k * f + R + 1)) (omega arith)
displace-up f (negsuc k) R h = let z : ⊥ = omega arith in absurd z

pub displace-down : (f : ℕ) (m : ℤ) (R : ℕ) → 0 < dn m → Dif (displacement_from f m R) f (dn m * f + R + 1)
unfolding displacement_from
displace-down f (pos k) R h = let z : ⊥ = omega arith in absurd z
displace-down f (negsuc k) R h = as-dif f (suc k * f + R + 1) (neg (lit (k * f + R + 1))) (omega arith)

-- it is the code itself where that is 0, and where f is 1
pub displace-none : (f R : ℕ) (m : ℤ) → m ≡ pos 0 → displacement_from f m R ≡ m
unfolding displacement_from
displace-none f R m e = rw e

pub displace-one : (f : ℕ) (m : ℤ) → f ≡ 1 → displacement_from f m 0 ≡ m
unfolding displacement_from
displace-one f (pos zero) e = refl
displace-one f (pos (suc k)) e = ap pos (omega (arith, ap (λ (n : ℕ). k * n) e))
displace-one f (negsuc k) e =
    let p : k * f + 0 + 1 ≡ suc k = omega (arith, ap (λ (n : ℕ). k * n) e) in
    ap (λ (n : ℕ). neg_ℤ (pos n)) p
