-- One byte more.
use Rattle.laws.proofs.Lists.{none-stored, stored-first}
use Rattle.answer_lists.proofs.noise.fill.Goals as goal

pub loop-i-init : goal.loop-i-init
loop-i-init c = none-stored

pub loop-i-preserved : goal.loop-i-preserved
loop-i-preserved c = stored-first c.loop-i.invariant c.loop-i-test.true c.noise.ensures
