use Rattle.std.proofs.Common.{◌+◌, ap, ◌∙◌}
use Rattle.answer_lists.specs.Bytes.{part}
use Rattle.conformance.specs.Cases.{text_at}
use Rattle.conformance.proofs.Reading.{past_end}
use Rattle.conformance.proofs.texts.text_at.Goals as goal

pub returns-then-list-at : goal.returns-then-list-at
unfolding text_at
returns-then-list-at c = c.part.ensures ∙ past_end _ _ _ c.if-list-at.true

pub returns : goal.returns
unfolding text_at
returns c = c.part-2.ensures ∙ ap (part c.args.list.now (c.args.at + 4)) c.number_at.ensures
