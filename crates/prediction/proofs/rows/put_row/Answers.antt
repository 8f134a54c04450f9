-- Each turn of the loop writes a byte more of the row.
use Rattle.std.proofs.Common.{refl}
use Rattle.laws.proofs.Lists.{none-stored, stored_on, all-stored}
use Rattle.prediction.proofs.rows.put_row.Goals as goal

pub loop-x-init : goal.loop-x-init
loop-x-init g c = none-stored

pub loop-x-preserved : goal.loop-x-preserved
loop-x-preserved g c = stored_on c.loop-x.invariant c.loop-x-test.true refl

pub returns : goal.returns
returns g c = all-stored c.loop-x.invariant c.loop-x-test.false
