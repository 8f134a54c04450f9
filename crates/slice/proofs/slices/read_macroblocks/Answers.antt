use Rattle.slice.proofs.SliceLoop.{at-macroblock, slice-end, slice-less, slice-on}
use Rattle.slice.proofs.slices.read_macroblocks.Goals as goal

pub loop-g-init : goal.loop-g-init
loop-g-init c = at-macroblock c.requires.increment_invariant

pub returns-then-not-goes_on : goal.returns-then-not-goes_on
returns-then-not-goes_on c = slice-end c.loop-g.invariant c.macroblock-m.ensures c.goes_on.ensures c.if-not-goes_on.true

pub loop-g-smaller : goal.loop-g-smaller
loop-g-smaller c = slice-less c.loop-g.invariant c.macroblock-m.ensures c.goes_on.ensures c.if-not-goes_on.false

pub loop-g-preserved : goal.loop-g-preserved
loop-g-preserved c =
    slice-on c.loop-g.invariant c.macroblock-m.ensures c.goes_on.ensures c.if-not-goes_on.false c.macroblock-m.auto.store
