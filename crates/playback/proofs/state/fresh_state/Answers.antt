use lib.Ieee.{of_int, of_bits}
use Rattle.playback.specs.State.{fresh_state}
use Rattle.playback.proofs.state.fresh_state.Goals as goal

pub returns : goal.returns
unfolding fresh_state of_int of_bits
returns c = rw c.fresh_picture.ensures
