-- RULES D3.8: the displacements from -16 f to 16 f that lead from one component of the range to another. Assumes nothing.
use mathlib.Core.Path.{◌≡◌, refl, sym, subst}
use mathlib.Core.Logic.{◌⊎◌, inl, inr, ◌↔◌, ⊎_elim}
use Prim.Native.Nat.{ℕ, zero, suc, ◌+◌, ◌*◌, ◌≤◌, ◌<◌}
use native.Mathlib.Omega.{arith}
use lib.IntN.{ℤ, pos, negsuc, neg_ℤ, nat_abs, ◌+ℤ◌, ◌-ℤ◌, ◌*ℤ◌}
use Rattle.laws.proofs.Ints.{up, dn, v, lit, neg, ◌⊕◌, ◌⊖◌, ◌⊛◌, eq-by, le-by, lt_by, eq_of, le_of, lt_of, abs-by, nat_abs-is, one_side}
use Rattle.motion.specs.Congruence.{Congruent}
use Rattle.motion.specs.Displacement.{InRange}
use Rattle.motion.specs.Displaces.{Displaces}
use Rattle.motion.proofs.Congruence.{congruent_sym, congruent_trans}
use Rattle.motion.proofs.Correction.{corrected-congruent, corrected_in}
use Rattle.motion.proofs.Range.{at_most_one, middle, middle_in, middle-congruent}

module _ (f : ℕ) (a b : ℤ) where
  -- d leads from a to b exactly where a + d and b differ by a multiple of 32 f
  leads-congruent : {d : ℤ} → Displaces f a b d → Congruent (32 * f) (a +ℤ d) b
  leads-congruent {d} l = rw l.there at (congruent_sym (corrected-congruent f (a +ℤ d)))

  congruent-leads : (d : ℤ) → InRange f a → InRange f b → nat_abs d ≤ 16 * f → Congruent (32 * f) (a +ℤ d) b → Displaces f a b d
  congruent-leads d i j s c =
      record {
        low = le-by (neg (lit (16 * f))) (v d) (omega (arith, nat_abs-is d));
        high = le-by (v d) (lit (16 * f)) (omega (arith, nat_abs-is d));
        there = at_most_one f (corrected_in d (omega arith) s i) j (congruent_trans (corrected-congruent f (a +ℤ d)) c);
      }

  -- 16 f leads from a to b only where they are 16 f apart, and there it does
  apart : InRange f a → InRange f b → Congruent (32 * f) (a +ℤ pos (16 * f)) b → nat_abs (a -ℤ b) ≡ 16 * f
  apart i j c = go c.times c.is
    where
      al : up a + 0 < 16 * f + dn a
      al = lt_of (v a) (lit (16 * f)) i.high

      ah : 0 + dn a ≤ up a + 16 * f
      ah = le_of (neg (lit (16 * f))) (v a) i.low

      bl : up b + 0 < 16 * f + dn b
      bl = lt_of (v b) (lit (16 * f)) j.high

      bh : 0 + dn b ≤ up b + 16 * f
      bh = le_of (neg (lit (16 * f))) (v b) j.low

      d : up (a -ℤ b) + (dn a + up b) ≡ dn (a -ℤ b) + (up a + dn b)
      d = (v a ⊖ v b).dif

      go : (k : ℤ) → (a +ℤ pos (16 * f)) -ℤ b ≡ pos (32 * f) *ℤ k → nat_abs (a -ℤ b) ≡ 16 * f
      go (pos zero) e =
          omega (arith, d, nat_abs-is (a -ℤ b), one_side (a -ℤ b), eq_of ((v a ⊕ lit (16 * f)) ⊖ v b) ((32 * f) ⊛ lit 0) e)
      go (pos (suc zero)) e =
          omega (arith, d, nat_abs-is (a -ℤ b), one_side (a -ℤ b), eq_of ((v a ⊕ lit (16 * f)) ⊖ v b) ((32 * f) ⊛ lit 1) e)
      go (pos (suc (suc n))) e =
          let z : ⊥ = omega (arith, al, bh, eq_of ((v a ⊕ lit (16 * f)) ⊖ v b) ((32 * f) ⊛ lit (suc (suc n))) e) in
          absurd z
      go (negsuc n) e =
          let z : ⊥ = omega (arith, ah, bl, eq_of ((v a ⊕ lit (16 * f)) ⊖ v b) ((32 * f) ⊛ v (negsuc n)) e) in
          absurd z

  apart-leads : nat_abs (a -ℤ b) ≡ 16 * f → Congruent (32 * f) (a +ℤ pos (16 * f)) b
  apart-leads h = go (a -ℤ b) refl h
    where
      go : (z : ℤ) → a -ℤ b ≡ z → nat_abs z ≡ 16 * f → Congruent (32 * f) (a +ℤ pos (16 * f)) b
      go (pos n) e h =
          record { times = pos 1; is = eq-by ((v a ⊕ lit (16 * f)) ⊖ v b) ((32 * f) ⊛ lit 1) (omega (arith, eq_of (v a ⊖ v b) (lit n) e)) }
      go (negsuc n) e h =
          record { times = pos 0; is = eq-by ((v a ⊕ lit (16 * f)) ⊖ v b) ((32 * f) ⊛ lit 0) (omega (arith, eq_of (v a ⊖ v b) (v (negsuc n)) e)) }

  -- 16 f and -16 f lead to the same component
  about : Congruent (32 * f) (a +ℤ pos (16 * f)) b → Congruent (32 * f) (a +ℤ neg_ℤ (pos (16 * f))) b
  about c =
      congruent_trans
      (record { times = negsuc 0; is = eq-by ((v a ⊕ neg (lit (16 * f))) ⊖ (v a ⊕ lit (16 * f))) ((32 * f) ⊛ v (negsuc 0)) (omega arith) })
      c

  -- what leads from a to b lies in the range, unless it is 16 f
  leads_in : {d : ℤ} → InRange f a → InRange f b → (nat_abs (a -ℤ b) ≡ 16 * f → ⊥) → Displaces f a b d → InRange f d
  leads_in {d} i j n l =
      let lo = le_of (neg (lit (16 * f))) (v d) l.low in
      let hi = le_of (v d) (lit (16 * f)) l.high in
      let g : up d + 0 ≡ 16 * f + dn d → ⊥ = λ e. n (apart i j (rw (eq-by (v d) (lit (16 * f)) (omega arith)) at (leads-congruent l))) in
      record { low = l.low; high = lt_by (v d) (lit (16 * f)) (omega (arith, g)) }

  -- two displacements that lead from a to b differ by a multiple of 32 f
  both_lead : {d e : ℤ} → Displaces f a b d → Displaces f a b e → Congruent (32 * f) d e
  both_lead {d} {e} l m =
      let c = congruent_trans (leads-congruent l) (congruent_sym (leads-congruent m)) in
      record {
        times = c.times;
        is = eq-by (v d ⊖ v e) ((32 * f) ⊛ v c.times) (omega (arith, eq_of ((v a ⊕ v d) ⊖ (v a ⊕ v e)) ((32 * f) ⊛ v c.times) c.is));
      }

  pub one_way : 0 < f → InRange f a → InRange f b → (nat_abs (a -ℤ b) ≡ 16 * f → ⊥) → (d : ℤ) × Displaces f a b d
      × ((e : ℤ) → Displaces f a b e → e ≡ d)
  one_way p i j n = (d, l, λ e m. at_most_one f (leads_in i j n m) inside (both_lead m l))
    where
      d : ℤ
      d = middle f (b -ℤ a)

      inside : InRange f d
      inside = middle_in f (b -ℤ a) p

      l : Displaces f a b d
      l =
          let c = middle-congruent f (b -ℤ a) p in
          let lo = le_of (neg (lit (16 * f))) (v d) inside.low in
          let hi = lt_of (v d) (lit (16 * f)) inside.high in
          congruent-leads d i j (abs-by (16 * f) (v d) (omega arith) (omega arith))
          (record {
            times = c.times;
            is = eq-by ((v a ⊕ v d) ⊖ v b) ((32 * f) ⊛ v c.times) (omega (arith, eq_of (v d ⊖ (v b ⊖ v a)) ((32 * f) ⊛ v c.times) c.is));
          })

  pub two_ways : InRange f a → InRange f b → nat_abs (a -ℤ b) ≡ 16 * f → (d : ℤ)
      → Displaces f a b d ↔ (d ≡ neg_ℤ (pos (16 * f))) ⊎ (d ≡ pos (16 * f))
  two_ways i j h d = (
    λ l. go (both_lead l up-leads).times l (both_lead l up-leads).is,
    ⊎_elim (λ e. subst (Displaces f a b) (sym e) down-leads) (λ e. subst (Displaces f a b) (sym e) up-leads),
  )
    where
      up-leads : Displaces f a b (pos (16 * f))
      up-leads = congruent-leads (pos (16 * f)) i j (omega arith) (apart-leads h)

      down-leads : Displaces f a b (neg_ℤ (pos (16 * f)))
      down-leads = congruent-leads (neg_ℤ (pos (16 * f))) i j (abs-by (16 * f) (neg (lit (16 * f))) (omega arith) (omega arith)) (about (apart-leads h))

      go : (k : ℤ) → Displaces f a b d → d -ℤ pos (16 * f) ≡ pos (32 * f) *ℤ k → (d ≡ neg_ℤ (pos (16 * f))) ⊎ (d ≡ pos (16 * f))
      go (pos n) l e =
          inr (eq-by (v d) (lit (16 * f)) (omega (arith, le_of (v d) (lit (16 * f)) l.high, eq_of (v d ⊖ lit (16 * f)) ((32 * f) ⊛ lit n) e)))
      go (negsuc n) l e =
          inl (eq-by (v d) (neg (lit (16 * f)))
          (omega (arith, le_of (neg (lit (16 * f))) (v d) l.low, eq_of (v d ⊖ lit (16 * f)) ((32 * f) ⊛ v (negsuc n)) e)))
