-- The step of RULES 5.4, 5.5 is the reconstruction of ISO/IEC 11172-2, 2.4.4.2, from every component of the range. Assumes nothing.
use mathlib.Core.Path.{◌≡◌, refl, sym, ap, ◌∙◌}
use mathlib.Core.Bool.{Bool, true, false, cond, not, ◌&&◌, ◌||◌, false≢true}
use mathlib.Core.List.{List}
use Prim.Native.Nat.{ℕ, zero, suc, ◌+◌, ◌*◌, ◌^◌, ◌≤◌, ◌<◌}
use native.Mathlib.Nat.{zero-mul, pow-suc}
use native.Mathlib.Omega.{arith}
use lib.Dec.{eqb, eqb-suc-zero}
use lib.IntN.{ℤ, pos, negsuc, neg_ℤ, ◌+ℤ◌, ◌-ℤ◌, ◌*ℤ◌}
use lib.Pow.{pow_pos}
use lib.Signed.{le_z}
use borrow.Author.Tests.{eqb-true, ne_eqb}
use Rattle.laws.proofs.Ints.{Dif, up, dn, v, lit, neg, as-dif, ◌⊕◌, ◌⊖◌, ◌⊗◌, eq-by, eq_of, le_of, lt_of, yes_lt, no_lt, yes_le, no_le}
use Rattle.bits.specs.Bits.{read_at}
use Rattle.bits.specs.Programs.{Prog, RunResult, done, run, bind, bits, eq_z}
use Rattle.bits.proofs.Codes.{eq_z-no}
use Rattle.bits.proofs.Gives.{g-bits}
use Rattle.bits.proofs.Programs.{run_bind}
use Rattle.codes.specs.Codes.{motion}
use Rattle.motion.specs.Displacement.{InRange, displacement_from, corrected}
use Rattle.motion.specs.Standard.{Right, complement, right, recon, reconstructed, residual, standard_vector}
use Rattle.motion.specs.Vector.{displacement, motion_vector}
use Rattle.motion.proofs.Correction.{corrected-by}
use Rattle.motion.proofs.Displacement.{displace-up, displace-down, displace-none, displace-one}

-- right_little and right_big where the code m says the displacement d: right_big is 32 f further to the other side
abbrev sides : ℕ → ℤ → ℤ → Right
sides f (pos n) d = record { little = d; big = d -ℤ pos (32 * f) }
sides f (negsuc n) d = record { little = d; big = d +ℤ pos (32 * f) }

-- the complement is f - 1 - R, also where f is 1
complement-dif : (f : ℕ) (m : ℤ) (R : ℕ) → R < f → (m ≡ pos 0 → ⊥) → Dif (complement f m R) f (R + 1)
unfolding complement
complement-dif f m R below g = go (eqb f 1) refl
  where
    go : (t : Bool) → eqb f 1 ≡ t → Dif (cond (t || eq_z m (pos 0)) (pos 0) (pos f -ℤ pos 1 -ℤ pos R)) f (R + 1)
    go true e = as-dif f (R + 1) (lit 0) (omega (arith, eqb-true f 1 e))
    go false e = rw (eq_z-no m (pos 0) g) (as-dif f (R + 1) (lit f ⊖ lit 1 ⊖ lit R) (omega arith))

-- a difference of two numbers that are not equal is not 0
not-0 : {x : ℤ} {p n : ℕ} → Dif x p n → (p ≡ n → ⊥) → eq_z x (pos 0) ≡ false
not-0 {x} w g = eq_z-no x (pos 0) (λ e. g (omega (arith, eq_of w (lit 0) e)))

-- for a code of either sign, right_little is the displacement
right_is : (f : ℕ) (m : ℤ) (R : ℕ) → R < f → (m ≡ pos 0 → ⊥) → right f (m *ℤ pos f) (complement f m R) ≡ sides f m (displacement_from f m R)
unfolding right displacement_from
right_is f (pos zero) R b g = absurd (g refl)
right_is f (pos (suc k)) R b g =
    let w = v (pos (suc k)) ⊗ lit f in
    rw (not-0 w (λ e. omega arith), yes_lt (lit 0) w (omega arith))
    (ap (sides f (pos 1)) (eq-by (w ⊖ complement-dif f (pos (suc k)) R b g) (lit (k * f + R + 1)) (omega arith)))
right_is f (negsuc k) R b g =
    let w = v (negsuc k) ⊗ lit f in
    rw (not-0 w (λ e. omega arith), no_lt (lit 0) w (omega arith))
    (ap (sides f (negsuc 0)) (eq-by (w ⊕ complement-dif f (negsuc k) R b g) (neg (lit (k * f + R + 1))) (omega arith)))

-- the choice between the two is the correction, where right_big is right for the side on which the sum leaves the range
recon-is : (f : ℕ) (prev d : ℤ) (x : Right) → x.little ≡ d → (16 * f + dn (prev +ℤ d) ≤ up (prev +ℤ d) → x.big ≡ d -ℤ pos (32 * f))
    → (up (prev +ℤ d) + 16 * f < dn (prev +ℤ d) → x.big ≡ d +ℤ pos (32 * f)) → recon f prev x ≡ corrected f (prev +ℤ d)
unfolding recon
recon-is f prev d x e over less =
    let z = prev +ℤ d in
    let max = lit (16 * f) ⊖ lit 1 in
    let min = neg (lit (16 * f)) in
    rw e
    (corrected-by f z (λ y. cond (le_z z (pos (16 * f) -ℤ pos 1) && le_z (neg_ℤ (pos (16 * f))) z) z (prev +ℤ x.big) ≡ y)
    (λ h. rw (no_le (v z) max (omega arith), over h) (eq-by (v prev ⊕ (v d ⊖ lit (32 * f))) (v prev ⊕ v d ⊖ lit (32 * f)) (omega arith)))
    (λ h. rw (yes_le (v z) max (omega arith), no_le min (v z) (omega arith), less h)
    (eq-by (v prev ⊕ (v d ⊕ lit (32 * f))) (v prev ⊕ v d ⊕ lit (32 * f)) (omega arith)))
    (λ h. rw (yes_le (v z) max (omega arith), yes_le min (v z) (omega arith))))

-- for every code m, those from -16 to 16 among them, and every residual
pub standard : (f : ℕ) (prev m : ℤ) (R : ℕ) → InRange f prev → R < f → reconstructed f prev m R ≡ corrected f (prev +ℤ displacement_from f m R)
unfolding reconstructed displacement_from right
standard f prev (pos zero) R i b =
    let lo = le_of (neg (lit (16 * f))) (v prev) i.low in
    let hi = lt_of (v prev) (lit (16 * f)) i.high in
    let e = (v prev ⊕ lit 0).dif in
    rw (zero-mul f)
    (recon-is f prev (pos 0) (record { little = pos 0; big = pos 0 }) refl
    (λ h. let z : ⊥ = omega arith in absurd z)
    (λ h. let z : ⊥ = omega arith in absurd z))
standard f prev (pos (suc k)) R i b =
    let m = pos (suc k) in
    let d = displacement_from f m R in
    let lo = le_of (neg (lit (16 * f))) (v prev) i.low in
    let e = (v prev ⊕ displace-up f m R (omega arith)).dif in
    ap (recon f prev) (right_is f m R b (λ e. omega (arith, ap up e)))
    ∙ recon-is f prev d (sides f m d) refl (λ h. refl) (λ h. let z : ⊥ = omega arith in absurd z)
standard f prev (negsuc k) R i b =
    let m = negsuc k in
    let d = displacement_from f m R in
    let hi = lt_of (v prev) (lit (16 * f)) i.high in
    let e = (v prev ⊕ displace-down f m R (omega arith)).dif in
    ap (recon f prev) (right_is f m R b (λ e. omega (arith, ap dn e)))
    ∙ recon-is f prev d (sides f m d) refl (λ h. let z : ⊥ = omega arith in absurd z) (λ h. refl)

-- ---- the whole step: what it reads, the component that it gives, and the place where it ends

-- forward_f is 1 where r is 0
one-is : (r : ℕ) → eqb (2 ^ r) 1 ≡ eqb r 0
one-is zero = refl
one-is (suc r) = ne_eqb (2 ^ suc r) 1 (λ e. omega (arith, pow-suc 2 r, pow_pos r)) ∙ sym (eqb-suc-zero r)

zero_of : (m : ℤ) → eq_z m (pos 0) ≡ true → m ≡ pos 0
zero_of (pos n) e = ap pos (eqb-true n 0 e)
zero_of (negsuc n) e = absurd (false≢true e)

-- what follows the code m: t says that r is 0, u that m is
abbrev theirs : ℕ → ℤ → Bool → Bool → ℤ → Prog ℤ
theirs r prev t u m = bind (cond (not t && not u) (bits r) (done 0)) (λ R. done (reconstructed (2 ^ r) prev m R))

abbrev ours : ℕ → Bool → Bool → ℤ → Prog ℤ
ours r t u m = cond (u || t) (done m) (bind (bits r) (λ R. done (displacement_from (2 ^ r) m R)))

abbrev corrects : ℕ → ℤ → ℤ → Prog ℤ
corrects r prev d = done (corrected (2 ^ r) (prev +ℤ d))

module _ (r : ℕ) (prev : ℤ) (i : InRange (2 ^ r) prev) (s : List ℕ) where
  plain : (m : ℤ) (a : ℕ) → displacement_from (2 ^ r) m 0 ≡ m → run (done (reconstructed (2 ^ r) prev m 0)) s a ≡ run (corrects r prev m) s a
  plain m a e = rw (standard (2 ^ r) prev m 0 i (pow_pos r), e)

  same : (m : ℤ) (a : ℕ) (t u : Bool) → eqb r 0 ≡ t → eq_z m (pos 0) ≡ u
      → run (theirs r prev t u m) s a ≡ run (bind (ours r t u m) (corrects r prev)) s a
  unfolding run bind
  same m a true true p q = plain m a (displace-none (2 ^ r) 0 m (zero_of m q))
  same m a true false p q = plain m a (displace-one (2 ^ r) m (ap (λ (n : ℕ). 2 ^ n) (eqb-true r 0 p)))
  same m a false true p q = plain m a (displace-none (2 ^ r) 0 m (zero_of m q))
  same m a false false p q = rw (standard (2 ^ r) prev m (read_at s a r) i ((g-bits r).value a))

  pub standard-step : (a : ℕ) → run (standard_vector r prev) s a ≡ run (motion_vector r prev) s a
  unfolding standard_vector residual motion_vector displacement
  standard-step a =
      let m = (run motion s a).value in
      let e = (run motion s a).at in
      let k : ℤ → Prog ℤ = λ n. ours r (eqb r 0) (eq_z n (pos 0)) n in
      rw (one-is r)
      (run_bind motion (λ n. theirs r prev (eqb r 0) (eq_z n (pos 0)) n) s a
      ∙ same m e (eqb r 0) (eq_z m (pos 0)) refl refl
      ∙ run_bind (k m) (corrects r prev) s e
      ∙ sym (run_bind (bind motion k) (corrects r prev) s a ∙ ap (λ (o : RunResult ℤ). run (corrects r prev o.value) s o.at) (run_bind motion k s a)))
