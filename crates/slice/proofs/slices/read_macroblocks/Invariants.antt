-- `AtMacroblock` holds at each turn.
use Rattle.bits.specs.Runs.{bits_left}
use Rattle.picture_state.specs.Promises.{matrices_in}
use Rattle.slice.proofs.SliceLoop.{AtMacroblock}
use Rattle.slice.proofs.slices.read_macroblocks.Given as goal

abbrev pub invariant-loop-g : goal.invariant-loop-g
invariant-loop-g l = AtMacroblock l.g (matrices_in l.tables) l.s l.fn.reader l.fn.before l.fn.values l.fn.store l.first l.from l.state l.values l.store

abbrev pub decreases-loop-g : goal.decreases-loop-g
decreases-loop-g l = bits_left l.s l.from
