-- One byte more.
use Rattle.laws.proofs.Lists.{none-stored, stored-first, all-stored}
use Rattle.answer_lists.specs.Blocks.{matrix_of}
use Rattle.answer_lists.proofs.block.matrix_of.Goals as goal

pub loop-i-init : goal.loop-i-init
loop-i-init c = none-stored

pub loop-i-preserved : goal.loop-i-preserved
loop-i-preserved c = stored-first c.loop-i.invariant c.loop-i-test.true c.byte_at.ensures.0

pub returns : goal.returns
unfolding matrix_of
returns c = all-stored c.loop-i.invariant c.loop-i-test.false
