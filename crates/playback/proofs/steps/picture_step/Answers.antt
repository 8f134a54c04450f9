-- None is found, or the last one is not followed, or it is decoded.
use Rattle.std.proofs.Common.{refl, sym, ◌∙◌, pos}
use Rattle.playback.specs.Steps.{decoding_state}
use Rattle.playback.proofs.Fits.{next_fits}
use Rattle.playback.proofs.Showing.{step-of}
use Rattle.playback.proofs.PictureStep.{step-none, step-last, step-decoded}
use Rattle.playback.proofs.steps.picture_step.Goals as goal

pub returns-then-has_code : goal.returns-then-has_code
returns-then-has_code c =
    let a = c.args in
    step-of a.values.now a.store.now c.flushed.ensures
    ∙ step-none a.s.now a.sizes a.matrices.now (decoding_state a.before a.values.now a.store.now) c.next_code-d.ensures
    (sym c.has_code.ensures ∙ c.if-has_code.true)

pub is_followed-requires : goal.is_followed-requires
is_followed-requires c =
    let k = next_fits c.args.before c.requires.fit_state (pos 0) refl c.args.s.now c.requires.s_len_bound _ c.next_code-d.ensures in
    rw c.from_position.ensures (record { position = k.position; stream = c.requires.s_len_bound })

pub returns-then-not-is_followed : goal.returns-then-not-is_followed
returns-then-not-is_followed c =
    let a = c.args in
    step-of a.values.now a.store.now c.finished.ensures
    ∙ step-last a.s.now a.sizes a.matrices.now (decoding_state a.before a.values.now a.store.now) c.next_code-d.ensures
    (sym c.has_code.ensures ∙ c.if-has_code.false) (sym (rw c.from_position.ensures at c.is_followed.ensures) ∙ c.if-not-is_followed.true)

pub decoded-requires-clause-fit_state : goal.decoded-requires-clause-fit_state
decoded-requires-clause-fit_state c =
    next_fits c.args.before c.requires.fit_state (pos 0) refl c.args.s.now c.requires.s_len_bound _ c.next_code-d.ensures

pub returns : goal.returns
returns c =
    let a = c.args in
    c.decoded.ensures
    ∙ step-decoded a.s.now a.sizes a.matrices.now (decoding_state a.before a.values.now a.store.now) c.next_code-d.ensures
    (sym c.has_code.ensures ∙ c.if-has_code.false) (sym (rw c.from_position.ensures at c.is_followed.ensures) ∙ c.if-not-is_followed.false)
