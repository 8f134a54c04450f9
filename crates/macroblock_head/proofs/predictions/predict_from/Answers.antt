-- The planes by the components in half samples.
use Rattle.std.proofs.Common.{arith}
use Rattle.macroblock_head.specs.Predictions.{predict_from}
use Rattle.macroblock_head.proofs.Foretelling.{foretold}
use Rattle.macroblock_head.proofs.Headings.{range-read}
use Rattle.macroblock_head.proofs.predictions.predict_from.Goals as goal

pub returns : goal.returns
unfolding predict_from
returns c = grind (arith, range-read, foretold)
