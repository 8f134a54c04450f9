-- Which of the two addresses it is.
use Rattle.std.proofs.Common.{◌∙◌, lt-ltb, le-ltb}
use Rattle.prediction.specs.Writers.{block_address}
use Rattle.prediction.proofs.Macroblocks.{chroma-width}
use Rattle.prediction.proofs.writers.block_address.Goals as goal

pub returns-then-number-lt4-clause-is : goal.returns-then-number-lt4-clause-is
unfolding block_address
returns-then-number-lt4-clause-is c = rw (lt-ltb c.args.number 4 c.if-number-lt4.true) c.luma_address.ensures.is

pub returns-clause-is : goal.returns-clause-is
unfolding block_address
returns-clause-is c =
    let h = c.if-number-lt4.false in
    c.chroma_address.ensures.is ∙ rw (chroma-width c.args.m c.args.number h, le-ltb c.args.number 4 h)
