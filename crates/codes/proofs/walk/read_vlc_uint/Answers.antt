-- The value that stands above the indices, as it was before.
use Rattle.bits.proofs.Rules.{reading}
use Rattle.codes.proofs.Parts.{natural-runs}
use Rattle.codes.proofs.walk.read_vlc_uint.Goals as goal

pub returns : goal.returns
returns c ix vs j =
    let leaf = c.walk_from-leaf.ensures in
    rw c.from.ensures
    (reading c.requires.reader_in_bounds
    (natural-runs vs j c.args.pair leaf.runs_in_bounds.runs leaf.position_in_bounds leaf.bound))
