use Rattle.std.proofs.Common.{sym, ap, ◌∙◌}
use Rattle.header.specs.Possible.{possible_sequence}
use Rattle.mpeg1.proofs.Seen.{few, none_seen, seen-short, seen-flag, seen-impossible, seen-is}
use Rattle.mpeg1.proofs.views.seen.Goals as goal
use Rattle.mpeg1.proofs.views.seen.Goals.{then-numbers-lt-NUMBERS-via-then-numbers-lt-NUMBERS}
use Rattle.mpeg1.proofs.views.seen.Goals.{then-numbers-lt-NUMBERS-via-else-numbers-lt-NUMBERS+then-numbers-gt1}

pub returns-then-numbers-lt-NUMBERS : goal.returns-then-numbers-lt-NUMBERS
returns-then-numbers-lt-NUMBERS c =
    let n = c.args.numbers.now in
    none_seen n c.fresh_sequence.ensures
    (elim c.then-numbers-lt-NUMBERS.branch [
      | then-numbers-lt-NUMBERS-via-then-numbers-lt-NUMBERS w ↦ seen-short n w.if-numbers-lt-NUMBERS.true
      | then-numbers-lt-NUMBERS-via-else-numbers-lt-NUMBERS+then-numbers-gt1 w ↦ seen-flag n w.if-numbers-lt-NUMBERS.false w.if-numbers-gt1.true
    ])

pub returns-then-not-possible_sequence : goal.returns-then-not-possible_sequence
returns-then-not-possible_sequence c =
    let n = c.args.numbers.now in
    none_seen n c.fresh_sequence-then-not-possible_sequence.ensures
    (seen-impossible n c.if-numbers-lt-NUMBERS.false c.if-numbers-gt1.false
    (sym (c.possible_sequence.ensures ∙ ap possible_sequence c.sequence_in-q.ensures) ∙ c.if-not-possible_sequence.true))

pub returns : goal.returns
returns c =
    let yes = c.if-not-possible_sequence.false in (
      c.sequence_in-q.ensures
          ∙ seen-is c.args.numbers.now c.if-numbers-lt-NUMBERS.false c.if-numbers-gt1.false
          (sym (c.possible_sequence.ensures ∙ ap possible_sequence c.sequence_in-q.ensures) ∙ yes),
      few (sym c.possible_sequence.ensures ∙ yes),
    )
