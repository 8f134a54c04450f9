-- One byte more.
use Rattle.std.proofs.Common.{arith, rules}
use Rattle.tables.proofs.Made.{pasted-on}
use Rattle.tables.proofs.tables.put_bytes.Goals as goal

pub loop-k-preserved : goal.loop-k-preserved
loop-k-preserved c = pasted-on c.loop-k.invariant (omega arith) (search rules)
