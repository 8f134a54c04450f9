-- `all` is the test at the places passed.
use Rattle.std.proofs.Common.{◌≡◌, ◌*◌, leb, nat_abs, pos, get_or}
use Rattle.laws.specs.Each.{all_below}
use Rattle.codes.specs.Matrices.{premultiplier_matrix}
use Rattle.codes.proofs.matrices.bounded.Given as goal

abbrev pub invariant-loop-i : goal.invariant-loop-i
invariant-loop-i l = l.all ≡ all_below l.i (λ k. leb (nat_abs (get_or l.block k (pos 0))) (2048 * nat_abs (get_or premultiplier_matrix k (pos 0))))
