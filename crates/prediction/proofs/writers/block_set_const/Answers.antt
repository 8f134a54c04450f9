use Rattle.std.proofs.Common.{rules}
use Rattle.prediction.specs.Writers.{set_const}
use Rattle.prediction.proofs.writers.block_set_const.Goals as goal

pub returns : goal.returns
unfolding set_const
returns c = c.write_block.ensures (λ old k. c.args.value) (λ old k r low few p. search rules)
