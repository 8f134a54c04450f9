use Rattle.std.proofs.Common.{pos, ◌+ℤ◌, get_or, rules, to_z-of_z}
use Rattle.laws.specs.Signed.{clamp255}
use Rattle.prediction.specs.Writers.{add_block}
use Rattle.prediction.proofs.writers.block_set_add.Goals as goal

pub returns : goal.returns
unfolding add_block
returns c = c.write_block.ensures (λ old k. clamp255 (pos old +ℤ get_or c.args.s.now k (pos 0))) (λ old k r low few p. search (rules, to_z-of_z, clamp255))
