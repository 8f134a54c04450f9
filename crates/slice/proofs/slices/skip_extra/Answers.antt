use Rattle.slice.proofs.SliceLoop.{at-extra, extra-end, extra-less, extra-on}
use Rattle.slice.proofs.slices.skip_extra.Goals as goal

pub loop-from-init : goal.loop-from-init
loop-from-init c = at-extra c.requires

pub returns-then-b-eq0 : goal.returns-then-b-eq0
returns-then-b-eq0 c = extra-end c.loop-from.invariant c.read_bit-b.ensures c.if-b-eq0.true

pub loop-from-smaller : goal.loop-from-smaller
loop-from-smaller c = extra-less c.loop-from.invariant c.read_bit-b.ensures c.if-b-eq0.false c.skip-from.ensures

pub loop-from-preserved : goal.loop-from-preserved
loop-from-preserved c = extra-on c.loop-from.invariant c.read_bit-b.ensures c.if-b-eq0.false c.skip-from.ensures
