use Rattle.std.proofs.Common.{◌+◌, get_or, rules}
use Rattle.conformance.specs.Records.{matrices_at, matrices_in}
use Rattle.conformance.proofs.Reading.{row_made}
use Rattle.conformance.proofs.records.matrices_in.Goals as goal

pub returns : goal.returns
unfolding matrices_in
returns c = row_made _ _ (λ k. get_or c.args.list.now (matrices_at + k) 0) 0 _ _ (λ k y q r. search rules) c.from_fn.ensures.items
