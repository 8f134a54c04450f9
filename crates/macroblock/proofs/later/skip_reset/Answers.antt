-- By the picture's type; the address is read back from 32 bits.
use Rattle.std.proofs.Common.{w32, to_z-of_z, eq-eqb, ne_eqb}
use borrow.Author.Rules.{rules}
use mir.Val.{SFits}
use Rattle.macroblock.specs.Macroblocks.{skip_reset}
use Rattle.macroblock.proofs.later.skip_reset.Goals as goal

pub returns-then-g-eq2 : goal.returns-then-g-eq2
unfolding skip_reset
returns-then-g-eq2 c =
    let fits : SFits w32 c.reset-fresh.result.macroblock_address = search rules in
    rw (to_z-of_z fits, eq-eqb c.args.g.picture_type 2 c.if-g-eq2.true, c.zeroed.ensures, c.reset-fresh.ensures)

pub returns : goal.returns
unfolding skip_reset
returns c = rw (ne_eqb c.args.g.picture_type 2 c.if-g-eq2.false, c.reset-fresh.ensures)
