-- What the rows ask, and what they make, by the numbers that the code has for the block's place and the half samples.
use Rattle.std.proofs.Common.{ap, ◌∙◌, to_z-of_z}
use Rattle.laws.specs.Signed.{odd}
use Rattle.prediction.proofs.Copies.{apart_fits, apart-copied}
use Rattle.prediction.proofs.predict.copy_block.Goals as goal

pub predict_disjoint-requires-clause-disjoint : goal.predict_disjoint-requires-clause-disjoint
predict_disjoint-requires-clause-disjoint c =
    let a = c.args in
    let r = c.requires in
    let right = c.half_sample-right.ensures in
    let below = c.half_sample-below.ensures in
    apart_fits r.block_in_plane a.store.now a.from a.to a.at a.h a.v c.width-dw.ensures c.address-di.ensures
    (right.0, right.1 ∙ ap odd (to_z-of_z c.ranges.h)) (below.0, below.1 ∙ ap odd (to_z-of_z c.ranges.v)) r.p_in_bounds.0 r.p_in_bounds.1 r.v_bound r.fact

pub returns : goal.returns
returns c =
    let a = c.args in
    let r = c.requires in
    let right = c.half_sample-right.ensures in
    let below = c.half_sample-below.ensures in
    apart-copied r.block_in_plane a.store.now a.from a.to a.at a.h a.v c.width-dw.ensures c.address-di.ensures
    (right.0, right.1 ∙ ap odd (to_z-of_z c.ranges.h)) (below.0, below.1 ∙ ap odd (to_z-of_z c.ranges.v)) r.p_in_bounds.0 r.p_in_bounds.1 r.v_bound
    a.interpolate c.predict_disjoint.ensures
