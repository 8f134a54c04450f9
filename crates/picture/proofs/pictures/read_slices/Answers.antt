use mir.Facts.{to_z-of_z}
use borrow.Author.Tests.{not-true, not-false}
use Rattle.picture.proofs.PictureLoop.{at-slices, slices-end, slices-less, slices-on}
use Rattle.picture.proofs.pictures.read_slices.Goals as goal

pub loop-g-init : goal.loop-g-init
loop-g-init c = at-slices _ c.requires.read_invariant c.requires.store_fits

pub returns-then-not-t : goal.returns-then-not-t
returns-then-not-t c =
    rw (to_z-of_z c.ranges.before) at (slices-end c.loop-g.invariant c.slices_step-t.ensures (not-true _ c.if-not-t.true))

pub loop-g-smaller : goal.loop-g-smaller
loop-g-smaller c = slices-less c.loop-g.invariant c.slices_step-t.ensures (not-false _ c.if-not-t.false)

pub loop-g-preserved : goal.loop-g-preserved
loop-g-preserved c = slices-on c.loop-g.invariant c.slices_step-t.ensures (not-false _ c.if-not-t.false) c.slices_step-t.auto.store
