use Rattle.std.proofs.Common.{◌∙◌}
use Rattle.argb.proofs.Cases.{near-white, white}
use Rattle.reader_conformance.proofs.worked.whites.Goals as goal

pub returns : goal.returns
returns c = (c.pixel-near_white.ensures ∙ near-white, c.pixel-white.ensures ∙ white)
