-- The answers by where the start stands, which is read back from 32 bits.
use Rattle.std.proofs.Common.{arith}
use Rattle.prediction.proofs.Fetches.{starts_at, reach_read, below, beyond, past, inside}
use Rattle.prediction.proofs.Places.{bytes_most, max-to, reach-most}
use Rattle.prediction.proofs.position.BlockPosition.prediction_source.Goals as goal

pub returns-in_default : goal.returns-in_default
returns-in_default c =
    let a = c.args in
    below a.self a.vector.h a.vector.v c.start.type_inv c.start.ensures c.in_default.ensures

pub returns-then-max-at : goal.returns-then-max-at
returns-then-max-at c =
    let a = c.args in
    let starts = starts_at a.self a.vector.h a.vector.v c.start.type_inv c.start.ensures c.in-Ok.ensures in
    beyond a.self a.vector.h a.vector.v starts c.max_address-max.ensures c.if-max-at.true

pub overflow_add-at : goal.overflow_add-at
overflow_add-at c =
    let a = c.args in
    let k = c.requires.block_in_plane in
    let far = reach_read a.self a.vector.h a.vector.v a.vector.in_reach c.reach.ensures in
    omega (arith, max-to k, bytes_most k, c.max_address-max.ensures, reach-most k a.vector.h a.vector.v)

pub returns-then-max-at-2 : goal.returns-then-max-at-2
returns-then-max-at-2 c =
    let a = c.args in
    let starts = starts_at a.self a.vector.h a.vector.v c.start.type_inv c.start.ensures c.in-Ok.ensures in
    let far = reach_read a.self a.vector.h a.vector.v a.vector.in_reach c.reach.ensures in
    past a.self a.vector.h a.vector.v starts c.max_address-max.ensures far c.if-max-at.false c.if-max-at-2.true

pub returns : goal.returns
returns c =
    let a = c.args in
    let starts = starts_at a.self a.vector.h a.vector.v c.start.type_inv c.start.ensures c.in-Ok.ensures in
    let far = reach_read a.self a.vector.h a.vector.v a.vector.in_reach c.reach.ensures in
    inside a.self a.vector.h a.vector.v starts c.max_address-max.ensures far c.if-max-at.false c.if-max-at-2.false
