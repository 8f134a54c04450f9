use Rattle.bits.proofs.Rules.{is-non_zero, reading}
use Rattle.bits.proofs.reader.Reader.peek_non_zero.Goals as goal

pub returns-clause-runs_in_bounds : goal.returns-clause-runs_in_bounds
returns-clause-runs_in_bounds c = reading c.requires (is-non_zero c.args.count c.read-peeked.ensures.runs)
