use Rattle.codes.specs.Walk.{walk}
use Rattle.codes.proofs.walk.walk.Goals as goal

pub returns : goal.returns
unfolding walk
returns c = c.walk_from.ensures
