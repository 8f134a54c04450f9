-- By the picture's type and the forward flag.
use Rattle.macroblock_head.proofs.Foretelling.{predict-forward, predict-both, predict-backward}
use Rattle.macroblock_head.proofs.predictions.predict.Goals as goal

pub returns-then-g-ne3 : goal.returns-then-g-ne3
returns-then-g-ne3 c = let a = c.args in predict-forward a.g a.address a.state a.store.now c.predict_from.ensures c.if-g-ne3.true

pub returns-then-state : goal.returns-then-state
returns-then-state c =
    let a = c.args in
    predict-both a.g a.address a.state a.store.now c.if-g-ne3.false c.if-state.true c.predict_both.ensures

pub returns : goal.returns
returns c =
    let a = c.args in
    predict-backward a.g a.address a.state a.store.now c.if-g-ne3.false c.if-state.false c.predict_from-2.ensures
