-- The reference picture that waits, or none.
use Rattle.std.proofs.Common.{ap}
use Rattle.laws.specs.Loops.{Step, finish}
use Rattle.playback.specs.declared.state.State.{State}
use Rattle.playback.specs.Display.{OutcomeState}
use Rattle.playback.proofs.Showing.{steps_as, flush-yes, flush-no}
use Rattle.playback.proofs.display.flushed.Goals as goal

abbrev ends : OutcomeState → Step State OutcomeState
ends g = finish g

pub returns-then-held-ended : goal.returns-then-held-ended
returns-then-held-ended c =
    let e = c.has_ended-ended.ensures in
    steps_as (rw (c.shown_picture.ensures, c.has_reference_frame_as-x.ensures) at c.finished.ensures)
    (ap ends (flush-yes _ c.args.d (rw (e.0, c.from_position.ensures) at c.if-held-ended.true)))

pub returns : goal.returns
returns c =
    let e = c.has_ended-ended.ensures in
    steps_as c.finished-2.ensures (ap ends (flush-no _ c.args.d (rw (e.0, c.from_position.ensures) at c.if-held-ended.false)))
