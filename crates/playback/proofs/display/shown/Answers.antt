use Rattle.std.proofs.Common.{ap}
use Rattle.std.specs.Prelude.{Some}
use borrow.Author.Tests.{ne_eqb}
use Rattle.playback.proofs.Showing.{steps_as, shown_b, shown-held, shown-first}
use Rattle.playback.proofs.display.shown.Goals as goal

pub returns-then-d-eq3 : goal.returns-then-d-eq3
returns-then-d-eq3 c = steps_as c.output_picture.ensures (shown_b c.args.d c.if-d-eq3.true)

pub returns-then-held : goal.returns-then-held
returns-then-held c = steps_as c.output_picture-then-held.ensures (shown-held c.args.d (ne_eqb _ _ c.if-d-eq3.false) c.if-held.true)

pub returns : goal.returns
returns c =
    record { is = rw c.has_reference_frame_as.ensures (ap Some (shown-first c.args.d (ne_eqb _ _ c.if-d-eq3.false) c.if-held.false)) }
