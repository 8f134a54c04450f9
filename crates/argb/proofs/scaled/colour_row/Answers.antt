-- The colours of one pair more.
use Rattle.std.proofs.Common.{◌+◌, ◌*◌, ◌/◌, ◌∙◌, arith}
use Rattle.laws.proofs.Lists.{none-stored, all-stored}
use Rattle.argb.specs.Scaled.{Picture, picture, sample_pixel}
use Rattle.argb.proofs.Pairs.{at_pair, pair-on}
use Rattle.argb.proofs.Places.{product-most}
use Rattle.argb.proofs.scaled.colour_row.Goals as goal

pub overflow_mul-y_row : goal.overflow_mul-y_row
overflow_mul-y_row c = omega (arith, product-most c.args.sy c.args.planes.now.luma_width (omega arith) (omega arith))

pub overflow_mul-c_row : goal.overflow_mul-c_row
overflow_mul-c_row c = omega (arith, product-most (c.args.sy / 2) (c.args.planes.now.luma_width / 2) (omega arith) (omega arith))

pub loop-k-init : goal.loop-k-init
loop-k-init c = none-stored

pub loop-k-preserved : goal.loop-k-preserved
loop-k-preserved c =
    let a = c.args in
    let q = a.planes.now in
    let p : Picture = picture 0 0 q.luma_width q.y.now q.cr.now q.cb.now in
    let k = c.loop-k.k in
    pair-on k c.loop-k.invariant (omega arith) (c.pixel.ensures ∙ at_pair p a.sy (2 * k) k (omega arith))
    (c.pixel-in-loop-k.ensures ∙ at_pair p a.sy (2 * k + 1) k (omega arith))

pub returns : goal.returns
unfolding sample_pixel
returns c = all-stored c.loop-k.invariant (omega (arith, c.loop-k-test.false, c.args.planes.now.fit.even))
