-- Each of the three values, by the tests that choose it.
use Rattle.std.proofs.Common.{◌≤◌, ℤ, nat_abs, List, [], ◌∷◌, ap, ◌∙◌, arith}
use mir.Syntax.{w32}
use Rattle.laws.proofs.Exprs.{Exp, var, cst, ◌⊹◌, ◌∸◌, ◌×̇◌, Input, signed, num_of, test}
use Rattle.coefficients.proofs.dequantise.doubled.Goals as goal

abbrev twice : Exp
twice = var 0 ×̇ cst 2

abbrev less : Exp
less = twice ∸ cst 1

abbrev more : Exp
more = twice ⊹ cst 1

abbrev ρ : (level : ℤ) → nat_abs level ≤ 256 → List (Input w32)
ρ level h = signed w32 level 256 h ∷ []

pub returns-then-intra : goal.returns-then-intra
returns-then-intra c =
    let x = num_of (ρ c.args.level c.requires) twice tt in
    (x.is ∙ rw c.if-intra.true, omega (arith, ap nat_abs x.is, x.bound))

pub returns-then-twice-lt0 : goal.returns-then-twice-lt0
returns-then-twice-lt0 c =
    let i = ρ c.args.level c.requires in
    let x = num_of i less tt in
    (x.is ∙ rw (c.if-intra.false, test i twice (cst 0) tt tt c.if-twice-lt0.true), omega (arith, ap nat_abs x.is, x.bound))

pub returns : goal.returns
returns c =
    let i = ρ c.args.level c.requires in
    let x = num_of i more tt in
    (x.is ∙ rw (c.if-intra.false, test i twice (cst 0) tt tt c.if-twice-lt0.false), omega (arith, ap nat_abs x.is, x.bound))
