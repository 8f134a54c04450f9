-- The part of the store that is lent is the block's plane, and the block lies in it.
use Rattle.std.proofs.Common.{ℤ, nat_abs, ap, ◌∙◌, arith, to_z-of_z}
use Rattle.coefficients.specs.Blocks.{block_coefficients}
use Rattle.prediction.specs.Predict.{macroblock_at}
use Rattle.blocks.proofs.Stores.{plane-most, in-store}
use Rattle.blocks.proofs.writes.write_results.Goals as goal

pub overflow_add-end : goal.overflow_add-end
overflow_add-end c = omega (arith, plane-most c.requires.store_fits _ c.plane_start-start.ensures c.plane_length.ensures)

pub slice_bounds-results-end : goal.slice_bounds-results-end
slice_bounds-results-end c = omega (arith, plane-most c.requires.store_fits _ c.plane_start-start.ensures c.plane_length.ensures)

pub returns : goal.returns
returns c =
    let a = c.args in
    let m = c.macroblock_at-m.ensures.is ∙ ap (λ (z : ℤ). macroblock_at a.g.sizes.mb_width a.g.sizes.mb_height (nat_abs z)) (to_z-of_z c.ranges.address) in
    let start = rw c.plane_of-plane.ensures at c.plane_start-start.ensures in
    let size = rw c.plane_of-plane.ensures at c.plane_length.ensures in
    in-store c.requires.store_fits _ a.number (nat_abs a.address) m start size c.block_width-dw.ensures.is c.block_address-di.ensures.is a.q
    (block_coefficients a.values.now a.n) c.results.ensures
