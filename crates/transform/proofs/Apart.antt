-- How far apart two numbers are, one of them over a unit: `Within m e z y` says that z is at most e / m from y / m.
use mathlib.Core.Path.{ap}
use Prim.Native.Nat.{ℕ, ◌+◌, ◌*◌, ◌≤◌}
use native.Mathlib.Nat.{mul-le-mul_right}
use native.Mathlib.Omega.{arith}
use lib.Dec.{lit<}
use lib.IntN.{ℤ, pos, neg_ℤ, nat_abs, ◌+ℤ◌, ◌-ℤ◌, ◌*ℤ◌}
use Rattle.laws.proofs.Ints.{up, dn, v, lit, shr, neg, ◌⊕◌, ◌⊖◌, ◌⊗◌, abs-by}
use Rattle.transform.specs.Steps.{over256}

pub record Within (m e : ℕ) (z y : ℤ) : Type 0 where
  pub below : up z * m + dn y ≤ dn z * m + up y + e
  pub above : dn z * m + up y ≤ up z * m + dn y + e

-- the difference that the theorems state
pub within_abs : {m e : ℕ} {z y : ℤ} → Within m e z y → nat_abs (z *ℤ pos m -ℤ y) ≤ e
within_abs {m} {e} {z} {y} h = abs-by e ((v z ⊗ lit m) ⊖ v y) (omega (arith, h.below)) (omega (arith, h.above))

pub itself : (z : ℤ) → Within 1 0 z z
itself z = record { below = omega arith; above = omega arith }

pub weaken : {m e n : ℕ} {z y : ℤ} → e ≤ n → Within m e z y → Within m n z y
weaken q h = record { below = omega (arith, h.below); above = omega (arith, h.above) }

-- ---- the operations

module _ {m a b : ℕ} {x y X Y : ℤ} (h : Within m a x X) (k : Within m b y Y) where
  pub plus : Within m (a + b) (x +ℤ y) (X +ℤ Y)
  plus =
      let d = ap (λ (n : ℕ). n * m) (v x ⊕ v y).dif in
      let e = (v X ⊕ v Y).dif in
      record {
        below = omega (arith, d, e, h.below, k.below);
        above = omega (arith, d, e, h.above, k.above);
      }

  pub less : Within m (a + b) (x -ℤ y) (X -ℤ Y)
  less =
      let d = ap (λ (n : ℕ). n * m) (v x ⊖ v y).dif in
      let e = (v X ⊖ v Y).dif in
      record {
        below = omega (arith, d, e, h.below, k.above);
        above = omega (arith, d, e, h.above, k.below);
      }

module _ {m a : ℕ} {x X : ℤ} (h : Within m a x X) where
  pub minus : Within m a (neg_ℤ x) (neg_ℤ X)
  minus =
      let d = ap (λ (n : ℕ). n * m) (neg (v x)).dif in
      let e = (neg (v X)).dif in
      record { below = omega (arith, d, e, h.above); above = omega (arith, d, e, h.below) }

  pub times : (n : ℕ) → Within m (a * n) (x *ℤ pos n) (X *ℤ pos n)
  times n =
      let d = ap (λ (t : ℕ). t * m) (v x ⊗ lit n).dif in
      let e = (v X ⊗ lit n).dif in
      record {
        below = omega (arith, d, e, mul-le-mul_right n h.below);
        above = omega (arith, d, e, mul-le-mul_right n h.above);
      }

  -- over a finer unit
  pub finer : (n : ℕ) → Within (m * n) (a * n) x (X *ℤ pos n)
  finer n =
      let e = (v X ⊗ lit n).dif in
      record {
        below = omega (arith, e, mul-le-mul_right n h.below);
        above = omega (arith, e, mul-le-mul_right n h.above);
      }

  -- the division goes into the unit, and the rounding is at most 128 of 256
  pub round : Within (m * 256) (128 * m + a) (over256 x) X
  round =
      let r = shr 256 (lit< tt) (v x ⊕ lit 128) in
      record {
        below = omega (arith, mul-le-mul_right m r.0, h.below);
        above = omega (arith, mul-le-mul_right m r.1, h.above);
      }
