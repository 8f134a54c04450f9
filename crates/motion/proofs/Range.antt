-- The range -16 f .. 16 f - 1: of all numbers that differ by a multiple of 32 f exactly one lies in it. Assumes nothing.
use mathlib.Core.Path.{◌≡◌}
use Prim.Native.Nat.{ℕ, zero, suc, ◌*◌, ◌<◌}
use native.Mathlib.Omega.{arith}
use lib.IntN.{ℤ, pos, negsuc, ◌+ℤ◌, ◌-ℤ◌, ◌*ℤ◌}
use Rattle.laws.proofs.Ints.{v, lit, neg, ◌⊕◌, ◌⊖◌, ◌⊛◌, eq-by, le-by, lt_by, eq_of, le_of, lt_of}
use Rattle.motion.specs.Congruence.{Congruent, remainder}
use Rattle.motion.specs.Displacement.{InRange}
use Rattle.motion.proofs.Congruence.{remainder-below, remainder-congruent}

-- at most one
pub at_most_one : (f : ℕ) {x y : ℤ} → InRange f x → InRange f y → Congruent (32 * f) x y → x ≡ y
at_most_one f {x} {y} i j c = go c.times c.is
  where
    go : (k : ℤ) → x -ℤ y ≡ pos (32 * f) *ℤ k → x ≡ y
    go (pos zero) e = eq-by (v x) (v y) (omega (arith, eq_of (v x ⊖ v y) ((32 * f) ⊛ lit 0) e))
    go (pos (suc n)) e =
        let hi = lt_of (v x) (lit (16 * f)) i.high in
        let lo = le_of (neg (lit (16 * f))) (v y) j.low in
        let z : ⊥ = omega (arith, eq_of (v x ⊖ v y) ((32 * f) ⊛ lit (suc n)) e) in
        absurd z
    go (negsuc n) e =
        let hi = lt_of (v y) (lit (16 * f)) j.high in
        let lo = le_of (neg (lit (16 * f))) (v x) i.low in
        let z : ⊥ = omega (arith, eq_of (v x ⊖ v y) ((32 * f) ⊛ v (negsuc n)) e) in
        absurd z

-- and one: the remainder of z + 16 f on division by 32 f, less 16 f
abbrev pub middle : ℕ → ℤ → ℤ
middle f z = pos (remainder (z +ℤ pos (16 * f)) (32 * f)) -ℤ pos (16 * f)

pub middle_in : (f : ℕ) (z : ℤ) → 0 < f → InRange f (middle f z)
middle_in f z h =
    let r = remainder (z +ℤ pos (16 * f)) (32 * f) in
    let b = remainder-below (z +ℤ pos (16 * f)) (32 * f) (omega arith) in
    record { low = le-by (neg (lit (16 * f))) (lit r ⊖ lit (16 * f)) (omega arith); high = lt_by (lit r ⊖ lit (16 * f)) (lit (16 * f)) (omega arith) }

pub middle-congruent : (f : ℕ) (z : ℤ) → 0 < f → Congruent (32 * f) (middle f z) z
middle-congruent f z h =
    let r = remainder (z +ℤ pos (16 * f)) (32 * f) in
    let c = remainder-congruent (z +ℤ pos (16 * f)) (32 * f) (omega arith) in
    record {
      times = c.times;
      is = eq-by ((lit r ⊖ lit (16 * f)) ⊖ v z) ((32 * f) ⊛ v c.times)
          (omega (arith, eq_of (lit r ⊖ (v z ⊕ lit (16 * f))) ((32 * f) ⊛ v c.times) c.is));
    }
