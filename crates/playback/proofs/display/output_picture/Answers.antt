use Rattle.playback.specs.Display.{output_picture}
use Rattle.playback.proofs.display.output_picture.Goals as goal

pub returns : goal.returns
unfolding output_picture
returns c = rw (c.shown_picture.ensures, c.counted-x.ensures) at c.finished.ensures
