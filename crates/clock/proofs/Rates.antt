-- RULES 8.9 by the codes of RULES 2.9: 1 to 8 are rates, every other code gives the rate 0.0. Assumes nothing.
use mathlib.Core.Path.{◌≡◌, refl, sym, ap, ◌∙◌, subst}
use mathlib.Core.Bool.{Bool, true, false, not, true≢false}
use mathlib.Core.List.{List, [], ◌∷◌, map}
use mathlib.Core.Logic.{◌⊎◌, inl, inr}
use Prim.Native.Nat.{ℕ, zero, suc, ◌+◌, ◌-◌, ◌≤◌, ◌<◌}
use native.Mathlib.Omega.{arith}
use lib.Dec.{T, eqb, eqb-suc-zero, leb, leb→le, nleb→lt, lit≤}
use lib.ListN.{get_or-eq_default}
use lib.Ieee.{Float, binary64, round, div, of_int, to_bits}
use lib.Ieee.Positive.{num, den, positive}
use Rattle.laws.proofs.Tests.{by-case, if_no}
use Rattle.codes.specs.Rates.{picture_rate}
use Rattle.header.specs.State.{zero_float}
use Rattle.header.specs.Sequences.{rate_of}
use Rattle.playback.specs.Display.{time_of}
use Rattle.clock.specs.Times.{time_at, times_from, counted_in, EachCounted, IsNearestTime, IsInfinite}
use Rattle.clock.proofs.Times.{most, time-nearest, time-of-none, time-at-rate-zero}

-- ---- the codes with no rate: 0, and from 9 on

no-rate : (code : ℕ) → (code ≡ 0) ⊎ (8 < code) → rate_of code ≡ zero_float
unfolding picture_rate div of_int
no-rate code (inl e) = ap rate_of e
no-rate code (inr h) = go (leb 16 code) (leb→le 16 code) (nleb→lt 16 code)
  where
    table : (k : ℕ) → k < 7 → rate_of (k + 9) ≡ zero_float
    table zero h = refl
    table (suc zero) h = refl
    table (suc (suc zero)) h = refl
    table (suc (suc (suc zero))) h = refl
    table (suc (suc (suc (suc zero)))) h = refl
    table (suc (suc (suc (suc (suc zero))))) h = refl
    table (suc (suc (suc (suc (suc (suc zero)))))) h = refl
    table (suc (suc (suc (suc (suc (suc (suc k))))))) h = absurd (omega arith)

    back : (code : ℕ) → 8 < code → code - 9 + 9 ≡ code
    back code h = omega arith

    go : (b : Bool) → (T b → 16 ≤ code) → (T (not b) → code < 16) → rate_of code ≡ zero_float
    go true far near = get_or-eq_default picture_rate zero_float (far tt)
    go false far near = subst (λ (c : ℕ). rate_of c ≡ zero_float) (back code h) (table (code - 9) (omega (arith, near tt)))

-- then every time but the first is +∞
pub code_infinite : (code : ℕ) → (code ≡ 0) ⊎ (8 < code) → (k : ℕ) → k ≤ most → IsInfinite k (time_at (rate_of code) k)
unfolding time_at
code_infinite code c k h g = if_no _ (no_zero k g) (ap (time_of k) (no-rate code c) ∙ time-at-rate-zero k g h)
  where
    no_zero : (k : ℕ) → 0 < k → eqb k 0 ≡ false
    no_zero zero g = absurd (omega arith)
    no_zero (suc k) g = eqb-suc-zero k

-- ---- the codes 1 to 8

-- the rate is 1 or more
is-rate : (code : ℕ) → 0 < code → code ≤ 8 → T (positive (rate_of code)) × (den (rate_of code) ≤ num (rate_of code))
unfolding picture_rate div of_int
is-rate zero g h = absurd (omega arith)
is-rate (suc zero) g h = (tt, lit≤ tt)
is-rate (suc (suc zero)) g h = (tt, lit≤ tt)
is-rate (suc (suc (suc zero))) g h = (tt, lit≤ tt)
is-rate (suc (suc (suc (suc zero)))) g h = (tt, lit≤ tt)
is-rate (suc (suc (suc (suc (suc zero))))) g h = (tt, lit≤ tt)
is-rate (suc (suc (suc (suc (suc (suc zero)))))) g h = (tt, lit≤ tt)
is-rate (suc (suc (suc (suc (suc (suc (suc zero))))))) g h = (tt, lit≤ tt)
is-rate (suc (suc (suc (suc (suc (suc (suc (suc zero)))))))) g h = (tt, lit≤ tt)
is-rate (suc (suc (suc (suc (suc (suc (suc (suc (suc code))))))))) g h = absurd (omega arith)

module _ (code : ℕ) (g : 0 < code) (c : code ≤ 8) where
  abbrev table_rate : Float
  table_rate = rate_of code

  zero-time : (k : ℕ) → eqb k 0 ≡ true → time_of k table_rate ≡ zero_float
  zero-time zero e = let r = is-rate code g c in time-of-none table_rate r.0 r.1
  zero-time (suc k) e = absurd (true≢false (sym e ∙ eqb-suc-zero k))

  -- every time is the double nearest to k ÷ rate, the rate being the double of the table
  pub code-nearest : (k : ℕ) → k ≤ most → IsNearestTime table_rate k (time_at table_rate k)
  unfolding time_at
  code-nearest k h =
      let r = is-rate code g c in
      let n = time-nearest table_rate r.0 r.1 k h in
      by-case (IsNearestTime table_rate k) (eqb k 0) (λ e. subst (IsNearestTime table_rate k) (zero-time k e) n) (λ e. n)

-- ---- of the times of pictures

pub each-counted : (P : ℕ → Float → Type 0) (rate : Float) → ((k : ℕ) → k ≤ most → P k (time_at rate k)) → (k : ℕ) (t : Float) (fs : List Bool)
    → k + counted_in fs ≤ most → EachCounted P k fs (times_from rate k t fs)
unfolding EachCounted times_from counted_in
each-counted P rate p k t [] h = tt
each-counted P rate p k t (true ∷ fs) h = each-counted P rate p k t fs h
each-counted P rate p k t (false ∷ fs) h = (p k (omega arith), each-counted P rate p (k + 1) (time_at rate k) fs (omega arith))

-- ---- values, as bits

-- at the code 4 the third of four pictures is flushed: it shows what the second showed, and is not counted
pub flush-computed : map (to_bits binary64) (times_from (rate_of 4) 0 zero_float (false ∷ false ∷ true ∷ false ∷ []))
    ≡ 0 ∷ 0x3fa11570aad666ad ∷ 0x3fa11570aad666ad ∷ 0x3fb11570aad666ad ∷ []
unfolding times_from time_at time_of picture_rate div of_int to_bits
flush-computed = refl

-- the rate of the code 1 is the double nearest to 23.976: 1 ÷ this double, rounded, is not the double nearest to 1000 / 23976, but the next one
pub first-at-1 : to_bits binary64 (time_at (rate_of 1) 1) ≡ 0x3fa55accd58c0058
unfolding time_at time_of picture_rate div of_int to_bits
first-at-1 = refl

pub nearest-at-1 : to_bits binary64 (round binary64 false 1000 23976) ≡ 0x3fa55accd58c0057
unfolding round to_bits
nearest-at-1 = refl
