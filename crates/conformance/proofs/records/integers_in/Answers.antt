use Rattle.std.proofs.Common.{◌+◌, ◌*◌, pos, to_z, rules}
use Rattle.std.specs.Int.{w32}
use Rattle.answer_lists.specs.Numbers.{number_at}
use Rattle.memory.specs.Fields.{number_count}
use Rattle.conformance.specs.Records.{integers_in}
use Rattle.conformance.proofs.Reading.{row_made}
use Rattle.conformance.proofs.records.integers_in.Goals as goal

pub returns : goal.returns
unfolding integers_in
returns c =
    row_made _ _ (λ k. to_z w32 (number_at c.args.list.now (4 * (number_count + k)))) (pos 0) _ _ (λ k y q r. search rules) c.from_fn.ensures.items
