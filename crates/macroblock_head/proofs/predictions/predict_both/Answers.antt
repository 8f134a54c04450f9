-- The forward prediction, and the backward one where its flag is set.
use Rattle.macroblock_head.proofs.Foretelling.{both-refused, both-forward, both-both}
use Rattle.macroblock_head.proofs.predictions.predict_both.Goals as goal

pub returns-in_err-predict_from : goal.returns-in_err-predict_from
returns-in_err-predict_from c =
    let a = c.args in
    both-refused a.g a.address a.state a.store.now c.in_err-predict_from.ensures c.from_residual.ensures.0

pub returns-then-state : goal.returns-then-state
returns-then-state c =
    let a = c.args in
    both-both a.g a.address a.state a.store.now c.in_ok-predict_from.ensures c.if-state.true c.predict_from-then-state.ensures

pub returns : goal.returns
returns c =
    let a = c.args in
    both-forward a.g a.address a.state a.store.now c.in_ok-predict_from.ensures c.if-state.false
