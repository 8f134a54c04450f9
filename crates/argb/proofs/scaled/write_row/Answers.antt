-- One pixel more, of the sample at the column that is known.
use Rattle.std.proofs.Common.{◌≡◌, ℕ, ◌*◌, ◌/◌, ◌<◌, ap, ◌∙◌, arith}
use Rattle.laws.proofs.Lists.{none-stored, stored_on, all-stored}
use Rattle.argb.specs.Planes.{picture_of}
use Rattle.argb.specs.Scaled.{Picture, picture, PlanesFit, sample_pixel}
use Rattle.argb.proofs.Columns.{Shows, shows_first, shows-on, column, column-below, further-asks}
use Rattle.argb.proofs.Places.{product-most, Inside, sample-inside}
use Rattle.argb.proofs.scaled.write_row.Goals as goal

-- the places of the sample that is read lie in their planes
inside : {p : Picture} {w x sx rest : ℕ} (sy : ℕ) → PlanesFit p → Shows w p.width x sx rest → x < w → sy < p.height → Inside p sx sy
inside {sx = sx} sy whole s h r = sample-inside whole sx sy (omega (arith, column-below s h whole.wide.0, whole.wide)) r

pub overflow_mul-y_row : goal.overflow_mul-y_row
overflow_mul-y_row c = omega (arith, product-most c.args.sy c.args.planes.now.luma_width (omega arith) (omega arith))

pub overflow_mul-c_row : goal.overflow_mul-c_row
overflow_mul-c_row c = omega (arith, product-most (c.args.sy / 2) (c.args.planes.now.luma_width / 2) (omega arith) (omega arith))

pub loop-tx-init : goal.loop-tx-init
loop-tx-init c = record { pixels = none-stored; next = shows_first (omega arith) }

pub bounds-y-y_row : goal.bounds-y-y_row
bounds-y-y_row c =
    omega (arith, inside c.args.sy c.args.planes.now.fit c.loop-tx.invariant.next c.loop-tx-test.true c.requires.sy_lt_height.0)

pub bounds-cr-ci : goal.bounds-cr-ci
bounds-cr-ci c = omega (arith, inside c.args.sy c.args.planes.now.fit c.loop-tx.invariant.next c.loop-tx-test.true c.requires.sy_lt_height.0)

pub bounds-cb-ci : goal.bounds-cb-ci
bounds-cb-ci c = omega (arith, inside c.args.sy c.args.planes.now.fit c.loop-tx.invariant.next c.loop-tx-test.true c.requires.sy_lt_height.0)

pub further-c-requires : goal.further-c-requires
further-c-requires c =
    let asks = further-asks c.loop-tx.invariant.next c.loop-tx-test.true (c.args.planes.now.fit.wide.0, omega arith) (omega arith) in
    record { rest_lt_dst_w = asks.0; sx_bound = asks.1 }

-- what a turn stores is the pixel of the rule
stored : (c : goal.After-further-c) → let a = c.args in let p = a.planes.now in
    c.pixel.result ≡ sample_pixel (picture p.width 0 p.luma_width p.y.now p.cr.now p.cb.now) (c.loop-tx.tx * p.width / a.dst_w) a.sy
unfolding sample_pixel
stored c =
    let a = c.args in
    c.pixel.ensures ∙ ap (λ (n : ℕ). sample_pixel (picture_of a.planes.now) n a.sy) (column c.loop-tx.invariant.next)

pub loop-tx-preserved : goal.loop-tx-preserved
loop-tx-preserved c =
    record {
      pixels = stored_on c.loop-tx.invariant.pixels c.loop-tx-test.true (stored c);
      next = shows-on c.loop-tx.invariant.next c.further-c.ensures;
    }

pub returns : goal.returns
unfolding sample_pixel
returns c = all-stored c.loop-tx.invariant.pixels (omega (arith, c.loop-tx-test.false))
