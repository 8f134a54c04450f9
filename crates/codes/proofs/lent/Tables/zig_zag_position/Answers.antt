use Rattle.std.proofs.Common.{◌∙◌}
use Rattle.codes.proofs.Parts.{position_at}
use Rattle.codes.proofs.lent.Tables.zig_zag_position.Goals as goal

pub returns : goal.returns
returns c = c.from.ensures ∙ position_at c.self.invariant c.args.n c.requires
