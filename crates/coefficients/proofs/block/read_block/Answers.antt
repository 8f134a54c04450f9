use Rattle.std.proofs.Common.{to_z-of_z}
use Rattle.bits.proofs.Rules.{reading}
use Rattle.coefficients.proofs.Placing.{no-dc}
use Rattle.coefficients.proofs.block.read_block.Goals as goal

pub returns : goal.returns
returns c =
    let a = c.args in
    rw (to_z-of_z c.ranges.predictor)
    (reading c.requires.reader_in_bounds (no-dc _ a.luminance a.predictor a.values.now a.q c.if-q.false c.read_coefficients-last.ensures.runs))
