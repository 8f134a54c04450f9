use Rattle.std.proofs.Common.{pos, ◌+ℤ◌, rules, to_z-of_z}
use Rattle.laws.specs.Signed.{clamp255}
use Rattle.prediction.specs.Writers.{add_const}
use Rattle.prediction.proofs.writers.block_set_add_const.Goals as goal

pub returns : goal.returns
unfolding add_const
returns c = c.write_block.ensures (λ old k. clamp255 (pos old +ℤ c.args.value)) (λ old k r low few p. search (rules, to_z-of_z, clamp255))
