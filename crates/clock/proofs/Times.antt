-- RULES 8.9: a count of pictures is a double exactly, so that a time is one rounding of count ÷ rate, and the double nearest to it; at the rate 0.0 it is +∞.
-- Assumes nothing.
use mathlib.Core.Path.{◌≡◌, refl, sym, ap, ap₂, ◌∙◌, subst}
use mathlib.Core.Bool.{Bool, true, false, cond, true≢false}
use Prim.Native.Nat.{ℕ, zero, suc, ◌*◌, ◌^◌, ◌≤◌, ◌<◌}
use native.Mathlib.Nat.{lt_of_lt_of_le, lt_of_le_of_lt, mul-one, zero-mul, mul_comm, mul-mul-mul_comm, mul-le-mul, mul-lt-mul_of_pos_right, mul-pos}
use native.Mathlib.Omega.{arith}
use lib.IntN.{pos}
use lib.Dec.{T, eqb, eqb-suc-zero, le→leb, lit<, lit≤}
use lib.Pow.{pow_pos}
use lib.Ieee.{Float, nan, inf, fin, Format, binary64, up, down, round, div, of_int, to_unsigned, in_float}
use lib.Ieee.Exact.{HasValue}
use lib.Ieee.Back.{round_whole, unsigned_back}
use lib.Ieee.Positive.{num, den, den_pos, own_value, positive, positive_of_value, value→cross, value_pos}
use lib.Ieee.Scale.{grid, overflow, round_same}
use Rattle.header.specs.State.{zero_float}
use Rattle.playback.specs.Display.{time_of}
use Rattle.clock.specs.Nearest.{Nearest}
use Rattle.clock.proofs.Rounded.{round-nearest, stays_finite}

-- the largest count that a time is taken of: that of a record is at most 134217728 (RULES Q2), and its next time is of one more (RULES 8.10)
abbrev pub most : ℕ
most = 134217729

-- ---- a count is a double

-- its value is n / 1, with the sign +; the same holds up to 2 ^ 53
pub count-exact : (n : ℕ) → n ≤ most → HasValue (of_int binary64 (pos n)) false n 1
unfolding of_int
count-exact n h = round_whole binary64 false n (omega arith)

-- cast back it is n
pub count-back : (n : ℕ) → n ≤ most → to_unsigned 64 (of_int binary64 (pos n)) ≡ n
unfolding in_float
count-back n h = (unsigned_back binary64 64 n (le→leb n (2 ^ 53) (omega arith)) (omega arith)).1

-- ---- the rate 0

over_zero : (x : Float) → T (positive x) → div binary64 x (of_int binary64 (pos 0)) ≡ inf false
unfolding div of_int
over_zero nan p = absurd p
over_zero (inf s) p = absurd p
over_zero (fin true m e) p = absurd p
over_zero (fin false zero e) p = absurd p
over_zero (fin false (suc m) e) p = ap (λ (b : Bool). cond b nan (inf false)) (eqb-suc-zero m)

pub time-at-rate-zero : (n : ℕ) → 0 < n → n ≤ most → time_of n (of_int binary64 (pos 0)) ≡ inf false
unfolding time_of
time-at-rate-zero n g h = over_zero (of_int binary64 (pos n)) (positive_of_value (of_int binary64 (pos n)) n 1 (count-exact n h) g)

-- of no picture it would be a NaN; `counted` takes the time of 1 at least
pub no-time-at-rate-zero : time_of 0 (of_int binary64 (pos 0)) ≡ nan
unfolding time_of div of_int
no-time-at-rate-zero = refl

-- ---- a quotient is one rounding of the exact quotient

div_is : (f : Format) (x y : Float) (a c : ℕ) → HasValue x false a c → T (positive y) → div f x y ≡ round f false (num x * den y) (num y * den x)
unfolding div
div_is f nan y a c v p = absurd v
div_is f (inf s) y a c v p = absurd v
div_is f (fin true m e) y a c v p = absurd (true≢false v.0)
div_is f (fin false m e) nan a c v p = absurd p
div_is f (fin false m e) (inf s) a c v p = absurd p
div_is f (fin false m e) (fin true n d) a c v p = absurd p
div_is f (fin false m e) (fin false zero d) a c v p = absurd p
div_is f (fin false m e) (fin false (suc n) d) a c v p =
    ap (λ (b : Bool). cond b (cond (eqb m 0) nan (inf false)) (round f false (m * up e * down d) (suc n * up d * down e))) (eqb-suc-zero n)

-- by any fractions a / c and b / d that the two equal
pub div-at : (f : Format) (x y : Float) (a c b d : ℕ) → 0 < c → 0 < d → HasValue x false a c → T (positive y)
    → HasValue y false b d → div f x y ≡ round f false (a * d) (b * c)
div-at f x y a c b d C D v p w =
    let B = value_pos y b d p D w in
    let Y = value_pos y (num y) (den y) p (den_pos y) (own_value y p) in
    div_is f x y a c v p
    ∙ round_same f false (num x * den y) (num y * den x) (a * d) (b * c) (mul-pos Y (den_pos x)) (mul-pos B C)
    (ap (λ (z : ℕ). num x * den y * z) (mul_comm b c)
    ∙ mul-mul-mul_comm (num x) (den y) c b
    ∙ ap₂ ◌*◌ (value→cross x a c v) (mul_comm (den y) b ∙ sym (value→cross y b d w) ∙ mul_comm (num y) d)
    ∙ mul-mul-mul_comm a (den x) d (num y)
    ∙ ap (λ (z : ℕ). a * d * z) (mul_comm (den x) (num y)))

-- ---- at a rate of 1 or more

module _ (rate : Float) (above : T (positive rate)) (least : den rate ≤ num rate) where
  over : 0 < num rate
  over = lt_of_lt_of_le (den_pos rate) least

  -- the time is one rounding of n ÷ rate
  pub time-is : (n : ℕ) → n ≤ most → time_of n rate ≡ round binary64 false (n * den rate) (num rate)
  unfolding time_of
  time-is n h =
      div-at binary64 (of_int binary64 (pos n)) rate n 1 (num rate) (den rate) (pow_pos 0) (den_pos rate) (count-exact n h) above (own_value rate above)
      ∙ ap (λ (x : ℕ). round binary64 false (n * den rate) x) (mul-one (num rate))

  in-range : (n : ℕ) → n ≤ most → grid binary64 (n * den rate) (num rate) < overflow binary64
  in-range n h =
      stays_finite binary64 (n * den rate) (num rate) over (lt_of_le_of_lt (mul-le-mul h least) (mul-lt-mul_of_pos_right (lit< tt) over))

  -- which is the nearest double
  pub time-nearest : (n : ℕ) → n ≤ most → Nearest binary64 (time_of n rate) (n * den rate) (num rate)
  time-nearest n h =
      subst (λ (x : Float). Nearest binary64 x (n * den rate) (num rate)) (sym (time-is n h))
      (round-nearest binary64 (n * den rate) (num rate) over (in-range n h))

  -- of no picture it is 0.0
  pub time-of-none : time_of 0 rate ≡ zero_float
  unfolding of_int
  time-of-none =
      time-is 0 (lit≤ tt)
      ∙ round_same binary64 false (0 * den rate) (num rate) 0 1 over (pow_pos 0)
      (mul-one (0 * den rate) ∙ zero-mul (den rate) ∙ sym (zero-mul (num rate)))
