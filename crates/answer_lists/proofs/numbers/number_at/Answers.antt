-- Four bytes, of which those past the end are 0.
use Rattle.std.proofs.Common.{◌+◌, arith}
use lib.ListN.{get_or-eq_default}
use Rattle.answer_lists.specs.Numbers.{number_at}
use Rattle.answer_lists.proofs.numbers.number_at.Goals as goal

pub returns-then-list-at : goal.returns-then-list-at
unfolding number_at
returns-then-list-at c =
    let x = c.args in
    rw (
      get_or-eq_default x.list.now 0 {n = x.at} c.if-list-at.true,
      get_or-eq_default x.list.now 0 {n = x.at + 1} (omega arith),
      get_or-eq_default x.list.now 0 {n = x.at + 2} (omega arith),
      get_or-eq_default x.list.now 0 {n = x.at + 3} (omega arith),
    )

pub returns : goal.returns
unfolding number_at
returns c = omega arith
