-- The tests before the cases, the cases, and what is left over behind them.
use native.Mathlib.Nat.{sub-zero}
use Rattle.std.proofs.Common.{◌≡◌, ◌∙◌, ◌+◌, ◌-◌, arith, lt-ltb, le-ltb}
use Rattle.reader_conformance.specs.ReaderList.{scored}
use Rattle.reader_conformance.proofs.Scores.{scoring-start, scoring-on, scoring-over, scoring-end, whole, too_many}
use Rattle.reader_conformance.proofs.reader_list.score.Goals as goal

pub returns-then-list-lt4 : goal.returns-then-list-lt4
unfolding scored
returns-then-list-lt4 c = rw (c.counted.ensures, c.new-none.ensures, lt-ltb _ _ c.if-list-lt4.true)

pub returns-then-list-gt-LONGEST_STREAM : goal.returns-then-list-gt-LONGEST_STREAM
unfolding scored
returns-then-list-gt-LONGEST_STREAM c =
    rw (
      c.counted-then-list-gt-LONGEST_STREAM.ensures,
      c.new-none.ensures,
      le-ltb _ _ c.if-list-lt4.false,
      lt-ltb _ _ c.if-list-gt-LONGEST_STREAM.true,
    )

pub returns-then-list-cases : goal.returns-then-list-cases
returns-then-list-cases c = too_many _ _ c.if-list-lt4.false c.if-list-gt-LONGEST_STREAM.false c.number_at-cases.ensures c.if-list-cases.true

pub loop-init : goal.loop-init
loop-init c = rw sub-zero (scoring-start _ _ _ _ c.if-list-lt4.false (rw (← c.new.ensures)) c.new-none.ensures)

pub take_case-case-requires : goal.take_case-case-requires
take_case-case-requires c = (omega arith, c.loop.invariant.inside)

pub loop-preserved : goal.loop-preserved
loop-preserved c =
    let n = c.number_at-cases.result in
    let less : n - (c.loop.counter + 1) ≡ n - c.loop.counter - 1 = omega arith in
    rw less (scoring-on _ _ _ _ _ _ _ c.loop.invariant (omega arith) c.take_case-case.ensures.value c.take_case-case.ensures.cursor_in_list
    c.counted-tally.ensures)

pub returns-then-along-list : goal.returns-then-along-list
returns-then-along-list c =
    c.counted-then-along-list.ensures ∙ scoring-over _ _ _ _ _ c.loop.invariant (omega arith) c.if-along-list.true
    ∙ whole _ _ c.if-list-lt4.false c.if-list-gt-LONGEST_STREAM.false c.number_at-cases.ensures c.if-list-cases.false

pub returns : goal.returns
returns c =
    scoring-end _ _ _ _ _ c.loop.invariant (omega arith) c.if-along-list.false
    ∙ whole _ _ c.if-list-lt4.false c.if-list-gt-LONGEST_STREAM.false c.number_at-cases.ensures c.if-list-cases.false
