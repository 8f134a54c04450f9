-- The correction of RULES 5.5 by its three cases. Assumes nothing.
use mathlib.Core.Path.{◌≡◌, refl}
use mathlib.Core.Bool.{Bool, true, false, cond}
use Prim.Native.Nat.{ℕ, ◌+◌, ◌*◌, ◌≤◌, ◌<◌}
use native.Mathlib.Omega.{arith}
use lib.IntN.{ℤ, pos, negsuc, neg_ℤ, nat_abs, ◌+ℤ◌, ◌-ℤ◌}
use lib.Signed.{lt_z}
use Rattle.laws.proofs.Ints.{up, dn, v, lit, neg, ◌⊕◌, ◌⊖◌, ◌⊛◌, eq-by, le-by, lt_by, le_of, lt_of, lt_yes, lt_no, abs-of}
use Rattle.motion.specs.Congruence.{Congruent}
use Rattle.motion.specs.Displacement.{InRange, corrected}
use Rattle.motion.proofs.Congruence.{congruent_refl}

-- what holds in each case holds of the correction: the sum is above the range, below it, or inside
pub corrected-by : (f : ℕ) (z : ℤ) (P : ℤ → Type 0) → (16 * f + dn z ≤ up z → P (z -ℤ pos (32 * f)))
    → (up z + 16 * f < dn z → P (z +ℤ pos (32 * f)))
    → ((up z < 16 * f + dn z) × (dn z ≤ up z + 16 * f) → P z) → P (corrected f z)
unfolding corrected
corrected-by f z P above below inside = over (lt_z (pos (16 * f) -ℤ pos 1) z) refl
  where
    under : (t : Bool) → lt_z z (neg_ℤ (pos (16 * f))) ≡ t → up z < 16 * f + dn z → P (cond t (z +ℤ pos (32 * f)) z)
    under true e h = below (omega (arith, lt_yes (v z) (neg (lit (16 * f))) e))
    under false e h = inside (h, omega (arith, lt_no (v z) (neg (lit (16 * f))) e))

    over : (t : Bool) → lt_z (pos (16 * f) -ℤ pos 1) z ≡ t
        → P (cond t (z -ℤ pos (32 * f)) (cond (lt_z z (neg_ℤ (pos (16 * f)))) (z +ℤ pos (32 * f)) z))
    over true e = above (omega (arith, lt_yes (lit (16 * f) ⊖ lit 1) (v z) e))
    over false e = under (lt_z z (neg_ℤ (pos (16 * f)))) refl (omega (arith, lt_no (lit (16 * f) ⊖ lit 1) (v z) e))

-- it changes the number by a multiple of 32 f
pub corrected-congruent : (f : ℕ) (z : ℤ) → Congruent (32 * f) (corrected f z) z
corrected-congruent f z =
    corrected-by f z (λ x. Congruent (32 * f) x z)
    (λ h. record { times = negsuc 0; is = eq-by ((v z ⊖ lit (32 * f)) ⊖ v z) ((32 * f) ⊛ v (negsuc 0)) (omega arith) })
    (λ h. record { times = pos 1; is = eq-by ((v z ⊕ lit (32 * f)) ⊖ v z) ((32 * f) ⊛ lit 1) (omega arith) })
    (λ h. congruent_refl (32 * f) z)

-- From a component of the range of n, which is as wide as that of f or wider, a displacement of at most 16 f leads into the range of n. With n = f this is
-- demand 3's range, with n = 64 that of the record (RULES Q2).
pub corrected_in : {f n : ℕ} {a : ℤ} (d : ℤ) → f ≤ n → nat_abs d ≤ 16 * f → InRange n a → InRange n (corrected f (a +ℤ d))
corrected_in {f} {n} {a} d w b i =
    let z = v a ⊕ v d in
    let e = z.dif in
    let lo = le_of (neg (lit (16 * n))) (v a) i.low in
    let hi = lt_of (v a) (lit (16 * n)) i.high in
    let s = abs-of (v d) b in
    corrected-by f (a +ℤ d) (InRange n)
    (λ h. record { low = le-by (neg (lit (16 * n))) (z ⊖ lit (32 * f)) (omega arith); high = lt_by (z ⊖ lit (32 * f)) (lit (16 * n)) (omega arith) })
    (λ h. record { low = le-by (neg (lit (16 * n))) (z ⊕ lit (32 * f)) (omega arith); high = lt_by (z ⊕ lit (32 * f)) (lit (16 * n)) (omega arith) })
    (λ h. record { low = le-by (neg (lit (16 * n))) z (omega arith); high = lt_by z (lit (16 * n)) (omega arith) })
