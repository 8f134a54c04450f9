use Rattle.macroblock_head.proofs.Headings.{vectors-read}
use Rattle.macroblock_head.proofs.heads.read_vectors.Goals as goal

pub returns : goal.returns
returns c = vectors-read c.args.picture_type c.args.before c.read_motion-f.ensures c.read_motion-b.ensures
