-- `AtExtra` holds at each turn.
use Rattle.bits.specs.Runs.{bits_left}
use Rattle.slice.proofs.SliceLoop.{AtExtra}
use Rattle.slice.proofs.slices.skip_extra.Given as goal

abbrev pub invariant-loop-from : goal.invariant-loop-from
invariant-loop-from l = AtExtra l.s l.fn.reader l.from

abbrev pub decreases-loop-from : goal.decreases-loop-from
decreases-loop-from l = bits_left l.s l.from
