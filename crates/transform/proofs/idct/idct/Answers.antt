-- What the first pass leaves is within the bounds of the second.
use Rattle.std.proofs.Common.{sym, ap, subst, ◌∙◌}
use Rattle.laws.specs.Sizes.{ResultsInBounds}
use Rattle.transform.specs.Bounds.{BetweenPasses}
use Rattle.transform.specs.Idct.{rows, idct}
use Rattle.transform.proofs.Sizes.{middle, idct-narrow}
use Rattle.transform.proofs.idct.idct.Goals as goal

pub rows-requires : goal.rows-requires
rows-requires c = subst BetweenPasses (sym c.columns.ensures) (middle c.args.block.now c.requires)

pub returns-clause-is : goal.returns-clause-is
unfolding idct
returns-clause-is c = c.rows.ensures ∙ ap rows c.columns.ensures

pub returns-clause-narrow : goal.returns-clause-narrow
unfolding idct
returns-clause-narrow c =
    subst ResultsInBounds (sym (c.rows.ensures ∙ ap rows c.columns.ensures)) (idct-narrow c.args.block.now c.requires)
