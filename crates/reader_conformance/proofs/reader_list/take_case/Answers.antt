-- A case that is cut off, and a whole one.
use Rattle.std.proofs.Common.{◌∙◌}
use Rattle.reader_conformance.proofs.Steps.{no-case, cut-case, whole-case}
use Rattle.reader_conformance.proofs.reader_list.take_case.Goals as goal

pub returns-then-list-at-lt13-clause-value : goal.returns-then-list-at-lt13-clause-value
returns-then-list-at-lt13-clause-value c = c.cut.ensures ∙ no-case _ _ c.if-list-at-lt13.true

pub returns-then-list-start-clause-value : goal.returns-then-list-start-clause-value
returns-then-list-start-clause-value c =
    c.cut-then-list-start.ensures
    ∙ cut-case _ _ _ _ _ _ c.if-list-at-lt13.false c.number_at-argument.ensures c.number_at-answer.ensures c.operation_of-op.ensures
    c.bytes_after-more.ensures c.if-list-start.true

pub returns-clause-value : goal.returns-clause-value
returns-clause-value c =
    whole-case _ _ _ _ _ _ c.if-list-at-lt13.false c.number_at-argument.ensures c.number_at-answer.ensures c.operation_of-op.ensures
    c.bytes_after-more.ensures _ _ _ _ _ _ c.number_at-position.ensures c.if-list-start.false c.operate-ours.ensures.value
    c.bytes_agree-same.ensures c.eight_agrees-eight.ensures c.agrees.ensures c.next.ensures
