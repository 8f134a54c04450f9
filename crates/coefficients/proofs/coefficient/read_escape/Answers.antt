use Rattle.std.proofs.Common.{w32}
use Rattle.laws.proofs.Nums.{num, rd}
use Rattle.bits.proofs.Gives.{given_by}
use Rattle.bits.proofs.Rules.{r-call, r-done, reading}
use Rattle.coefficients.specs.Coefficients.{escape}
use Rattle.coefficients.proofs.Sizes.{escape-level-small}
use Rattle.coefficients.proofs.coefficient.read_escape.Goals as goal

pub returns : goal.returns
unfolding escape
returns c =
    let level = c.read_escape_level-level.ensures in
    rw (rd w32 (num (given_by escape-level-small level.runs)) tt).is
    (reading c.requires (r-call _ c.read-run.ensures.runs (r-call _ level.runs r-done)))
