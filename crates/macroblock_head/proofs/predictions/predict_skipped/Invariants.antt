use Rattle.macroblock_head.proofs.Skips.{AtSkip}
use Rattle.macroblock_head.proofs.predictions.predict_skipped.Given as goal

abbrev pub invariant-loop-k : goal.invariant-loop-k
invariant-loop-k l = AtSkip l.g l.state l.address l.n l.fn.store l.store l.k
