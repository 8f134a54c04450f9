use Rattle.std.proofs.Common.{◌≡◌, arith}
use borrow.Author.Tests.{eq-eqb, ne_eqb}
use Rattle.bits.proofs.Rules.{r-yes, r-no}
use Rattle.macroblock_head.specs.Heads.{macroblock_type}
use Rattle.macroblock_head.proofs.heads.read_macroblock_type.Goals as goal

pub returns-in-1 : goal.returns-in-1
unfolding macroblock_type
returns-in-1 c =
    let r = c.read_macroblock_type_intra.ensures in
    record { runs = r-yes _ (eq-eqb _ 1 c.in-1.is) r.runs; inside = r.inside }

pub returns-in-2 : goal.returns-in-2
unfolding macroblock_type
returns-in-2 c =
    let r = c.read_macroblock_type_predictive.ensures in
    record { runs = r-no _ (ne_eqb c.args.picture_type 1 (λ e. omega arith)) (r-yes _ (eq-eqb _ 2 c.in-2.is) r.runs); inside = r.inside }

pub returns-in_default : goal.returns-in_default
unfolding macroblock_type
returns-in_default c =
    let r = c.read_macroblock_type_b.ensures in
    let not-1 : c.args.picture_type ≡ 1 → ⊥ = grind arith in
    let not-2 : c.args.picture_type ≡ 2 → ⊥ = grind arith in
    record { runs = r-no _ (ne_eqb _ 1 not-1) (r-no _ (ne_eqb _ 2 not-2) r.runs); inside = r.inside }
