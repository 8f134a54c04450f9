-- `AtBlock` holds at each turn.
use Rattle.picture_state.specs.State.{slice_state}
use Rattle.blocks.proofs.BlockLoop.{AtBlock}
use Rattle.blocks.proofs.blocks.read_blocks.Given as goal

abbrev pub invariant-loop-number : goal.invariant-loop-number
invariant-loop-number l =
    AtBlock l.coded l.tables l.s l.fn.reader (slice_state l.fn.before l.fn.values l.fn.store) l.from l.state l.values l.store l.number
