-- `AtSlices` holds at each turn.
use Rattle.bits.specs.Runs.{bits_left}
use Rattle.picture_state.specs.Promises.{matrices_in}
use Rattle.picture.specs.Promises.{picture_state_of}
use Rattle.picture.proofs.PictureLoop.{AtSlices}
use Rattle.picture.proofs.pictures.read_slices.Given as goal

abbrev pub invariant-loop-g : goal.invariant-loop-g
invariant-loop-g l =
    AtSlices l.g (matrices_in l.tables) l.s l.fn.reader (picture_state_of l.g l.fn.before l.fn.start l.fn.values l.fn.store)
    l.begun l.from l.state l.values l.store

abbrev pub decreases-loop-g : goal.decreases-loop-g
decreases-loop-g l = bits_left l.s l.from
