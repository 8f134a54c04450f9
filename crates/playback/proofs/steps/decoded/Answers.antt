-- The picture stops, or the state behind it is shown.
use Rattle.std.proofs.Common.{refl, ◌∙◌}
use Rattle.playback.specs.Steps.{decoding_state}
use Rattle.picture_state.specs.Stop.{stop_number}
use Rattle.picture_state.proofs.Results.{t-from_reader}
use Rattle.playback.proofs.Showing.{step-of}
use Rattle.playback.proofs.PictureStep.{without_stop, decoded-stop, decoded-on}
use Rattle.playback.proofs.steps.decoded.Goals as goal

pub returns-in-Some : goal.returns-in-Some
returns-in-Some c =
    let a = c.args in
    let p = c.read_picture-p in
    decoded-stop a.s.now a.sizes a.matrices.now (decoding_state a.d a.values.now a.store.now)
    p.result.picture p.new.values p.new.store (stop_number p.result.stop) (t-from_reader c.from_position-reader.ensures p.ensures.runs)
    c.in-Some.is refl

pub returns : goal.returns
returns c =
    let a = c.args in
    let p = c.read_picture-p in
    step-of p.new.values p.new.store (rw c.position-d.ensures at c.shown.ensures)
    ∙ decoded-on a.s.now a.sizes a.matrices.now (decoding_state a.d a.values.now a.store.now)
    p.result.picture p.new.values p.new.store (stop_number p.result.stop) (t-from_reader c.from_position-reader.ensures p.ensures.runs)
    (without_stop _ c.in_default.not-Some)
