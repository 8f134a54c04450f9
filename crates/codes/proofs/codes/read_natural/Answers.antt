use Rattle.codes.specs.Walk.{walk, vlc}
use Rattle.codes.proofs.codes.read_natural.Goals as goal

pub returns : goal.returns
unfolding vlc walk
returns c = c.read_natural_from.ensures
