-- The size is (|m| - 1) f + residual + 1, and has the sign of m.
use Rattle.std.proofs.Common.{◌≡◌, ℕ, ◌+◌, ◌-◌, ◌*◌, ◌^◌, ◌%◌, ◌≤◌, ◌<◌, ℤ, pos, nat_abs, ap, ◌∙◌, arith}
use lib.IntN.{◌-ℤ◌}
use lib.Pow.{pow_mono}
use lib.Signed.{lt_z}
use mathlib.Core.Bool.{true, false}
use mir.Facts.{to_z-of_z}
use mir.Syntax.{w32}
use mir.Val.{SFits, to_z}
use native.Mathlib.Nat.{mod-eq_of_lt, mul-le-mul_right}
use Rattle.laws.proofs.Ints.{Dif, reread, up, dn, v, lit, ◌⊖◌, back, low, eq-by, lt_yes, lt_no, fits_by, nat_abs-is, one_side}
use Rattle.motion.specs.Displacement.{displacement_from}
use Rattle.motion.proofs.Displacement.{displace-up, displace-down}
use Rattle.motion.proofs.vector.displacement.Goals as goal

module _ (r : ℕ) (m : ℤ) (residual a : ℕ) (h : r ≤ 6) (k : (0 < nat_abs m) × (nat_abs m ≤ 16)) (l : residual < 2 ^ r) (fit : SFits w32 m)
    (e : a ≡ nat_abs m) where
  abbrev f : ℕ
  f = 2 ^ r

  -- what the code computes, and what it is
  abbrev size : ℕ
  size = (a - 1) * f % 4294967296 + residual + 1

  abbrev rule : ℕ
  rule = (nat_abs m - 1) * f + residual + 1

  size_small : rule ≤ 1024
  size_small =
      let b : nat_abs m - 1 ≤ 15 = omega arith in
      let g : f ≤ 64 = pow_mono h in
      omega (arith, mul-le-mul_right f b)

  size_is : size ≡ rule
  size_is =
      let g = mod-eq_of_lt {n = (nat_abs m - 1) * f} {m = 4294967296} (omega (arith, size_small)) in
      ap (λ (n : ℕ). (n - 1) * f % 4294967296 + residual + 1) e ∙ omega (arith, g)

  held : Dif (to_z w32 size) rule 0
  held = low w32 size rule size_is (omega (arith, size_small))

  code : Dif (reread w32 m) (up m) (dn m)
  code = back fit (v m)

  -- (|m| - 1) f + f = |m| f, one of whose parts is 0
  whole : rule + f ≡ up m * f + dn m * f + residual + 1
  whole =
      let b : nat_abs m - 1 + 1 ≡ up m + dn m = omega (arith, nat_abs-is m) in
      omega (arith, ap (λ (n : ℕ). n * f) b)

  above : lt_z (reread w32 m) (pos 0) ≡ false → to_z w32 size ≡ displacement_from f m residual
  above q =
      let b = lt_no code (lit 0) q in
      let z : dn m ≡ 0 = omega (arith, one_side m) in
      eq-by held (displace-up f m residual (omega (arith, nat_abs-is m))) (omega (arith, whole, ap (λ (n : ℕ). n * f) z))

  below : lt_z (reread w32 m) (pos 0) ≡ true → reread w32 (pos 0 -ℤ to_z w32 size) ≡ displacement_from f m residual
  below q =
      let b = lt_yes code (lit 0) q in
      let z : up m ≡ 0 = omega (arith, one_side m) in
      let fits : SFits w32 (pos 0 -ℤ to_z w32 size) = fits_by (lit 0 ⊖ held) (omega arith) (omega (arith, size_small)) in
      eq-by (back fits (lit 0 ⊖ held)) (displace-down f m residual (omega arith)) (omega (arith, whole, ap (λ (n : ℕ). n * f) z))

pub returns-then-m_code-lt0 : goal.returns-then-m_code-lt0
returns-then-m_code-lt0 c =
    let q = c.requires in
    below c.args.r c.args.m_code c.args.residual _ q.r_bound q.m_code_nonzero q.residual_bound c.ranges.m_code
    (c.unsigned_abs.ensures.value ∙ ap nat_abs (to_z-of_z c.ranges.m_code)) c.if-m_code-lt0.true

pub returns : goal.returns
returns c =
    let q = c.requires in
    above c.args.r c.args.m_code c.args.residual _ q.r_bound q.m_code_nonzero q.residual_bound c.ranges.m_code
    (c.unsigned_abs.ensures.value ∙ ap nat_abs (to_z-of_z c.ranges.m_code)) c.if-m_code-lt0.false
