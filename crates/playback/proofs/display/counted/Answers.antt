use Rattle.std.proofs.Common.{arith}
use Rattle.playback.specs.Display.{counted}
use Rattle.playback.proofs.Displays.{count_of}
use Rattle.playback.proofs.display.counted.Goals as goal

pub overflow_add-n : goal.overflow_add-n
overflow_add-n c = omega (arith, count_of c.args.d.display c.requires)

pub returns : goal.returns
unfolding counted
returns c = rw c.time_of-time.ensures
