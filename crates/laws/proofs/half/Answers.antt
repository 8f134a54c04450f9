-- A quotient by 2 fits, and is the half by the rule.
use Rattle.std.proofs.Common.{◌∙◌}
use mir.Facts.{to_z-of_z as reread}
use Rattle.laws.proofs.Bytes.{quot_fits, half_is}
use Rattle.laws.proofs.half.Goals as goal

pub returns : goal.returns
returns c = rw (reread c.ranges.n) (reread (quot_fits 2 c.ranges.n) ∙ half_is c.args.n)
