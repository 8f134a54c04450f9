-- By the ways a block ends.
use Rattle.std.proofs.Common.{nat_abs, to_z-of_z}
use Rattle.coefficients.specs.Blocks.{block_coefficients, block_data_after}
use Rattle.blocks.specs.Promises.{store_after}
use Rattle.blocks.proofs.BlockEnds.{not-whole}
use Rattle.blocks.proofs.writes.write_block.Goals as goal

pub returns-in-Complete-clause-store_after : goal.returns-in-Complete-clause-store_after
unfolding store_after
returns-in-Complete-clause-store_after c = rw c.in-Complete.is (rw (to_z-of_z c.ranges.address) at c.write_results.ensures)

pub returns-in-Complete-clause-values_after : goal.returns-in-Complete-clause-values_after
unfolding block_data_after
returns-in-Complete-clause-values_after c = rw c.in-Complete.is (rw c.in-Complete.is at c.block_data_after.ensures)

pub returns-in_default : goal.returns-in_default
returns-in_default c =
    let a = c.args in
    let f = block_coefficients a.values.now a.r.n in
    let kept = not-whole a.g a.q a.number (nat_abs a.address) f a.r.predictor a.r.end a.store.now c.in_default.not-Complete in
    record { store_after = kept.0; values_after = kept.1 }
