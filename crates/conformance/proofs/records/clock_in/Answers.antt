use Rattle.std.proofs.Common.{rules}
use lib.Ieee.{binary64, of_bits}
use Rattle.conformance.specs.Records.{clock_in, float_at}
use Rattle.conformance.proofs.Reading.{row_made}
use Rattle.conformance.proofs.records.clock_in.Goals as goal

pub returns : goal.returns
unfolding clock_in
returns c = row_made _ _ (float_at c.args.list.now) (of_bits binary64 0) _ _ (λ k y q r. search rules) c.from_fn.ensures.items
