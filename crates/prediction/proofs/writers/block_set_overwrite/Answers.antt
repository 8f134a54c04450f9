use Rattle.std.proofs.Common.{pos, get_or, rules}
use Rattle.laws.specs.Signed.{clamp255}
use Rattle.prediction.specs.Writers.{overwrite}
use Rattle.prediction.proofs.writers.block_set_overwrite.Goals as goal

pub returns : goal.returns
unfolding overwrite
returns c = c.write_block.ensures (λ old k. clamp255 (get_or c.args.s.now k (pos 0))) (λ old k r low few p. search rules)
