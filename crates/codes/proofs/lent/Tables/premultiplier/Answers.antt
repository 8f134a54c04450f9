-- A premultiplier is laid as a natural number.
use Rattle.std.proofs.Common.{◌≡◌, ◌∙◌, ap, sym, pos, get_or, rules, to_z, of_z, w32}
use Rattle.codes.specs.Matrices.{premultiplier_matrix}
use Rattle.codes.proofs.Bounds.{premultiplier-natural}
use Rattle.codes.proofs.Entries.{natural}
use Rattle.codes.proofs.Parts.{premultiplier-at}
use Rattle.codes.proofs.lent.Tables.premultiplier.Goals as goal

pub returns : goal.returns
returns c =
    let n = c.args.position in
    let kept : to_z w32 (of_z w32 c.from.result) ≡ c.from.result = search rules in
    kept ∙ c.from.ensures ∙ ap pos (premultiplier-at c.self.invariant n c.requires)
    ∙ sym (natural (get_or premultiplier_matrix n (pos 0)) (premultiplier-natural n))
