-- The product keeps to 513 × 31 × 255.
use Rattle.std.proofs.Common.{◌≡◌, ℕ, ◌≤◌, ℤ, pos, nat_abs, List, [], ◌∷◌, ap, ◌∙◌, arith}
use borrow.Author.Rules.{sfits_of}
use mir.Facts.{to_z-of_z}
use mir.Syntax.{w32}
use Rattle.laws.proofs.Exprs.{Exp, var, ◌×̇◌, shr, Input, signed, natural, need, num_of, value}
use Rattle.coefficients.specs.Dequantise.{dequantised, made_odd, clipped}
use Rattle.coefficients.proofs.dequantise.dequantise.Goals as goal

abbrev product : Exp
product = var 0 ×̇ var 1 ×̇ var 2

-- twice the level, the scale, and the entry
abbrev ρ : (d e : ℤ) {s n : ℕ} → nat_abs d ≤ 513 → s ≤ 31 → e ≡ pos n → n ≤ 255 → List (Input w32)
ρ d e {s} h k l m = signed w32 d 513 h ∷ natural w32 s 31 k ∷ signed w32 e 255 (rw l m) ∷ []

pub overflow_mul-product-2 : goal.overflow_mul-product-2
overflow_mul-product-2 c = need (ρ c.doubled.result c.from.result c.doubled.ensures.1 c.requires.1 c.from.ensures (omega arith)) product tt

pub made_odd-requires : goal.made_odd-requires
made_odd-requires c =
    let x = num_of (ρ c.doubled.result c.from.result c.doubled.ensures.1 c.requires.1 c.from.ensures (omega arith)) (shr 4 product) tt in
    omega (arith, ap nat_abs x.is, x.bound)

pub returns : goal.returns
unfolding dequantised
returns c =
    let inputs = ρ c.doubled.result c.from.result c.doubled.ensures.1 c.requires.1 c.from.ensures (omega arith) in
    rw (to_z-of_z (sfits_of {w = w32} c.clipped.type_inv)) (
      c.clipped.ensures.0
          ∙ ap clipped (to_z-of_z (sfits_of {w = w32} c.made_odd.type_inv) ∙ c.made_odd.ensures ∙ ap made_odd (value inputs (shr 4 product) tt))
          ∙ rw (c.doubled.ensures.0, c.from.ensures, to_z-of_z c.ranges.level),
      c.clipped.ensures.1,
    )
