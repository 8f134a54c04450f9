-- Each turn predicts one macroblock more, or ends with the refusal.
use Rattle.macroblock_head.proofs.Skips.{skip-end, skip-refused, skip-on}
use Rattle.macroblock_head.proofs.predictions.predict_skipped.Goals as goal

pub returns-in_err-predict : goal.returns-in_err-predict
returns-in_err-predict c = skip-refused c.loop-k.invariant c.loop-k-test.true c.in_err-predict.ensures c.from_residual.ensures.0

pub loop-k-preserved : goal.loop-k-preserved
loop-k-preserved c = skip-on c.loop-k.invariant c.loop-k-test.true c.in_ok-predict.ensures c.predict.auto.store

pub returns : goal.returns
returns c = skip-end c.loop-k.invariant c.loop-k-test.false
