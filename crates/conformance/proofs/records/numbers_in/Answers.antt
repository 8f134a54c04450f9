use Rattle.std.proofs.Common.{◌*◌, rules}
use Rattle.answer_lists.specs.Numbers.{number_at}
use Rattle.conformance.specs.Records.{numbers_in}
use Rattle.conformance.proofs.Reading.{row_made}
use Rattle.conformance.proofs.records.numbers_in.Goals as goal

pub returns : goal.returns
unfolding numbers_in
returns c = row_made _ _ (λ k. number_at c.args.list.now (4 * k)) 0 _ _ (λ k y q r. search rules) c.from_fn.ensures.items
