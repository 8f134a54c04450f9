use Rattle.macroblock_head.proofs.Headings.{vector-read}
use Rattle.macroblock_head.proofs.heads.read_vector.Goals as goal

pub returns : goal.returns
returns c = vector-read c.args.m c.requires.possible_motion c.decode_motion_vector-h.ensures c.decode_motion_vector-v.ensures
