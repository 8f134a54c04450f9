-- The byte that is read at a place is the premultiplier there.
use Rattle.std.proofs.Common.{◌≡◌, ℕ, map, nat_abs, pos, get_or, refl, arith, rules}
use native.Mathlib.Numerals.{add-one}
use Rattle.laws.specs.Each.{all_below}
use Rattle.codes.specs.Matrices.{premultiplier_matrix, bounded}
use Rattle.codes.proofs.Bounds.{premultiplier-small}
use Rattle.codes.proofs.Lists.{map_at}
use Rattle.codes.proofs.matrices.bounded.Goals as goal

byte_is : (k : ℕ) → get_or (map nat_abs premultiplier_matrix) k 0 ≡ nat_abs (get_or premultiplier_matrix k (pos 0))
byte_is = map_at nat_abs premultiplier_matrix (pos 0)

pub loop-i-init : goal.loop-i-init
unfolding all_below
loop-i-init c = refl

pub overflow_mul-all : goal.overflow_mul-all
unfolding premultiplier_matrix
overflow_mul-all c = omega (arith, c.from.ensures, byte_is c.loop-i.i, premultiplier-small c.loop-i.i)

pub loop-i-preserved : goal.loop-i-preserved
unfolding all_below premultiplier_matrix
loop-i-preserved c =
    let size : c.unsigned_abs.result ≡ nat_abs (get_or c.args.block.now c.loop-i.i (pos 0)) = search rules in
    rw (add-one c.loop-i.i, c.loop-i.invariant, size, c.from.ensures, byte_is c.loop-i.i)

pub returns : goal.returns
unfolding bounded
returns c =
    let end : c.loop-i.i ≡ 64 = omega arith in
    rw end at c.loop-i.invariant
