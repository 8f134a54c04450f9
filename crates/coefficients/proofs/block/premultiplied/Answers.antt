-- The product keeps to 2048 × 62.
use Rattle.std.proofs.Common.{◌≤◌, ℤ, pos, nat_abs, get_or, List, [], ◌∷◌, ◌*ℤ◌, ap}
use mir.Facts.{to_z-of_z}
use mir.Syntax.{w32}
use Rattle.laws.proofs.Exprs.{Exp, var, ◌×̇◌, Input, signed, need, value}
use Rattle.codes.specs.Matrices.{premultiplier_matrix}
use Rattle.codes.proofs.Bounds.{premultiplier-small}
use Rattle.coefficients.proofs.block.premultiplied.Goals as goal

abbrev whole : Exp
whole = var 0 ×̇ var 1

abbrev ρ : (x f : ℤ) → nat_abs x ≤ 2048 → nat_abs f ≤ 62 → List (Input w32)
ρ x f h k = signed w32 x 2048 h ∷ signed w32 f 62 k ∷ []

pub overflow_mul-result : goal.overflow_mul-result
overflow_mul-result c =
    let factor : nat_abs c.premultiplier-factor.result ≤ 62 = rw c.premultiplier-factor.ensures (premultiplier-small c.args.position) in
    need (ρ c.dequantise.result c.premultiplier-factor.result c.dequantise.ensures.1 factor) whole tt

pub returns : goal.returns
returns c =
    let factor : nat_abs c.premultiplier-factor.result ≤ 62 = rw c.premultiplier-factor.ensures (premultiplier-small c.args.position) in
    let inputs = ρ c.dequantise.result c.premultiplier-factor.result c.dequantise.ensures.1 factor in
    let e = rw (to_z-of_z c.ranges.level, c.entry-weight.ensures) at c.dequantise.ensures.0 in
    rw (value inputs whole tt, c.premultiplier-factor.ensures) (ap (λ (x : ℤ). x *ℤ get_or premultiplier_matrix c.args.position (pos 0)) e)
