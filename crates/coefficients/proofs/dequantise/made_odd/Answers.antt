-- Each of the three values, by the tests that choose it.
use Rattle.std.proofs.Common.{◌≤◌, ℤ, nat_abs, List, [], ◌∷◌, ◌∙◌}
use mir.Syntax.{w32}
use Rattle.laws.proofs.Bytes.{odd-yes, odd-no}
use Rattle.laws.proofs.Exprs.{var, cst, ◌⊹◌, ◌∸◌, Input, signed, value, test}
use Rattle.coefficients.proofs.dequantise.made_odd.Goals as goal

abbrev ρ : (x : ℤ) → nat_abs x ≤ 300000 → List (Input w32)
ρ x h = signed w32 x 300000 h ∷ []

pub returns-then-x-ne0 : goal.returns-then-x-ne0
returns-then-x-ne0 c = value (ρ c.args.x c.requires) (var 0) tt ∙ rw (odd-yes w32 c.ranges.x c.if-x-ne0.true)

pub returns-then-x-gt0 : goal.returns-then-x-gt0
returns-then-x-gt0 c =
    let i = ρ c.args.x c.requires in
    value i (var 0 ∸ cst 1) tt ∙ rw (odd-no w32 c.ranges.x c.if-x-ne0.false, test i (cst 0) (var 0) tt tt c.if-x-gt0.true)

pub returns : goal.returns
returns c =
    let i = ρ c.args.x c.requires in
    value i (var 0 ⊹ cst 1) tt ∙ rw (odd-no w32 c.ranges.x c.if-x-ne0.false, test i (cst 0) (var 0) tt tt c.if-x-gt0.false)
