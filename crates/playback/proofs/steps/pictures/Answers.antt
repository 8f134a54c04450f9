-- The first turn ends the call, or it leaves what the second needs.
use Rattle.std.proofs.Common.{arith}
use Rattle.playback.specs.Steps.{decoding_state}
use Rattle.playback.proofs.Fits.{turn-fits}
use Rattle.playback.proofs.PictureStep.{step-again, pictures-first, pictures-second}
use Rattle.playback.proofs.steps.pictures.Goals as goal

pub picture_step-requires-clause-fit_state : goal.picture_step-requires-clause-fit_state
picture_step-requires-clause-fit_state c =
    let a = c.args in
    let p = c.picture_step-t in
    turn-fits a.s.now a.sizes a.matrices.now c.requires.s_len_bound (λ j. omega (arith, c.type_inv.s j))
    (decoding_state a.d a.values.now a.store.now) c.requires.fit_state
    (step-again p.result p.new.values p.new.store p.ensures c.in-Continues.is)

pub returns-in-Continues : goal.returns-in-Continues
returns-in-Continues c =
    let a = c.args in
    let p = c.picture_step-t in
    let q = c.picture_step in
    pictures-second a.s.now a.sizes a.matrices.now (decoding_state a.d a.values.now a.store.now)
    p.result p.new.values p.new.store p.ensures c.in-Continues.is q.result q.new.values q.new.store q.ensures

pub returns : goal.returns
returns c =
    let a = c.args in
    let p = c.picture_step-t in
    pictures-first a.s.now a.sizes a.matrices.now (decoding_state a.d a.values.now a.store.now)
    p.result p.new.values p.new.store p.ensures c.in_default.not-Continues
