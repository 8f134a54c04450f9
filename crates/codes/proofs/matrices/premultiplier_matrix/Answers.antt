-- Each entry is the byte of the constant.
use Rattle.std.proofs.Common.{◌≡◌, ℕ, ℤ, List, map, ◌<◌, length, arith, rules, pos, nat_abs, get_or, sym, ◌∙◌}
use lib.Seq.{ext_get_or}
use Rattle.codes.specs.Matrices.{premultiplier_matrix}
use Rattle.codes.proofs.Lists.{map_at, length-map}
use Rattle.codes.proofs.matrices.premultiplier_matrix.Goals as goal

raised : (xs : List ℕ) (ys : List ℤ) → length ys ≡ length xs → ((k : ℕ) → k < length xs → get_or ys k (pos 0) ≡ pos (get_or xs k 0)) → ys ≡ map pos xs
raised xs ys e h = ext_get_or (pos 0) ys (map pos xs) (e ∙ sym (length-map pos xs)) (λ k q. h k (omega arith) ∙ sym (map_at pos xs 0 k))

pub returns : goal.returns
unfolding premultiplier_matrix
returns c =
    let m = c.map.ensures.items in
    raised (map nat_abs premultiplier_matrix) c.map.result m.long (λ k h. let at = m.at k 0 (pos 0) h in search rules)
