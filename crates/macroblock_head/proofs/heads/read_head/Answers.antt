use Rattle.std.proofs.Common.{sym, ◌∙◌}
use Rattle.macroblock_head.proofs.Headings.{scaled-possible, head-still, head-vectors}
use Rattle.macroblock_head.proofs.heads.read_head.Goals as goal

pub returns-then-is_intra : goal.returns-then-is_intra
returns-then-is_intra c =
    let a = c.args in
    head-still a.t.0 a.before c.flagged.ensures c.read_scale-q.ensures a.picture_type (sym c.is_intra.ensures ∙ c.if-is_intra.true) c.vectors_reset.ensures

pub read_vectors-requires-clause-possible_motions : goal.read_vectors-requires-clause-possible_motions
read_vectors-requires-clause-possible_motions c =
    let k = scaled-possible c.args.t.0 c.args.before c.flagged.ensures c.read_scale-q.ensures c.requires.possible_slice in
    rw c.reset.ensures (record { forward = k.forward; backward = k.backward })

pub returns : goal.returns
returns c =
    let a = c.args in
    head-vectors a.t.0 a.before c.flagged.ensures c.read_scale-q.ensures a.picture_type (sym c.is_intra.ensures ∙ c.if-is_intra.false) c.reset.ensures
    c.read_vectors.ensures
