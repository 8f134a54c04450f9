-- The formula that the code computes is the table's.
use Rattle.std.proofs.Common.{◌≡◌, ℕ, ◌+◌, ◌-◌, ◌*◌, ◌%◌, ◌^◌, ◌≤◌, ◌<◌, pos, nat_abs, List, [], ◌∷◌, sym, ap, ◌∙◌, arith}
use lib.Bits.{bit_and}
use lib.IntN.{◌-ℤ◌}
use lib.Pow.{pow_mono}
use mir.Syntax.{w32}
use Rattle.laws.proofs.Bytes.{shl_one, bit-yes, bit-no}
use Rattle.laws.proofs.Exprs.{Exp, var, cst, ◌⊹◌, ◌∸◌, Input, local, natural, need, value}
use Rattle.laws.proofs.Ints.{lit, ◌⊖◌, abs-by}
use Rattle.coefficients.specs.Dcs.{added, by_top_bit}
use Rattle.coefficients.proofs.DcTable.{added_is}
use Rattle.coefficients.proofs.dc.added.Goals as goal

abbrev less : Exp
less = var 0 ⊹ cst 1 ∸ var 1

module _ (size d : ℕ) (h : (0 < size) × (size ≤ 8) × (d < 2 ^ size)) where
  power : 2 ^ size ≤ 256
  power = pow_mono h.1

  small : d ≤ 255
  small = omega (arith, power)

  abbrev ρ : List (Input w32)
  ρ = natural w32 d 255 small
      ∷ local w32 (1 * 2 ^ size % 4294967296) (pos (2 ^ size)) 256 (record { is = shl_one w32 size (omega arith); bound = power })
      ∷ []

  -- the bit that the code tests
  mask : bit_and d (1 * 2 ^ (size - 1) % 4294967296) ≡ bit_and d (2 ^ (size - 1))
  mask = ap (bit_and d) (shl_one w32 (size - 1) (omega arith))

  as-formula : by_top_bit size d ≡ added size d
  as-formula = sym (added_is size d h.0 h.1 h.2)

pub returns-then-differential-size-ne0 : goal.returns-then-differential-size-ne0
unfolding by_top_bit
returns-then-differential-size-ne0 c =
    let size = c.args.size in
    let d = c.args.differential in
    let h = c.requires in
    let e = value (ρ size d h) (var 0) tt in
    let b = bit-yes d (size - 1) (λ z. c.if-differential-size-ne0.true (mask size d h ∙ z)) in
    let r : pos d ≡ by_top_bit size d = rw b in
    (e ∙ r ∙ as-formula size d h, omega (arith, ap nat_abs e, small size d h))

pub overflow_add-result : goal.overflow_add-result
overflow_add-result c = need (ρ c.args.size c.args.differential c.requires) (var 0 ⊹ cst 1) tt

pub overflow_sub-result : goal.overflow_sub-result
overflow_sub-result c = need (ρ c.args.size c.args.differential c.requires) less tt

pub returns : goal.returns
unfolding by_top_bit
returns c =
    let size = c.args.size in
    let d = c.args.differential in
    let h = c.requires in
    let e = value (ρ size d h) less tt in
    let b = bit-no d (size - 1) (sym (mask size d h) ∙ c.if-differential-size-ne0.false) in
    let n : nat_abs (pos (d + 1) -ℤ pos (2 ^ size)) ≤ 255 = abs-by 255 (lit (d + 1) ⊖ lit (2 ^ size)) (omega arith) (omega (arith, power size d h)) in
    let r : pos (d + 1) -ℤ pos (2 ^ size) ≡ by_top_bit size d = rw b in
    (e ∙ r ∙ as-formula size d h, omega (arith, ap nat_abs e))
