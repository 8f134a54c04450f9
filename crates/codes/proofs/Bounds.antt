-- The sizes of the premultipliers, and the bound of coefficients: the test of it, and the record.
use mathlib.Core.Path.{◌≡◌}
use mathlib.Core.Bool.{true, ◌&&◌}
use mathlib.Core.List.{List}
use Prim.Native.Nat.{ℕ, ◌≤◌, ◌<◌}
use borrow.Author.Tests.{leb-true, le-leb}
use lib.Dec.{T, leb, ltb, leb→le, ltb→lt}
use lib.IntN.{ℤ, pos, nat_abs}
use lib.ListN.{get_or}
use lib.Signed.{non_neg}
use mir.Facts.{and_yes}
use Rattle.laws.proofs.Each.{all-at, all-by}
use Rattle.laws.proofs.Tables.{anywhere}
use Rattle.codes.specs.Matrices.{zig_zag, down_from, diagonals, premultiplier_matrix, Bounded, bounded}

pub zig_zag-inside : (k : ℕ) → get_or zig_zag k 0 < 64
unfolding zig_zag down_from diagonals
zig_zag-inside k = ltb→lt _ _ (anywhere (λ x. ltb x 64) zig_zag 0 tt tt k)

premultiplier_in : (k : ℕ) → let p = get_or premultiplier_matrix k (pos 0) in T (non_neg p && leb (nat_abs p) 62)
unfolding premultiplier_matrix
premultiplier_in = anywhere (λ x. non_neg x && leb (nat_abs x) 62) premultiplier_matrix (pos 0) tt tt

pub premultiplier-natural : (k : ℕ) → T (non_neg (get_or premultiplier_matrix k (pos 0)))
premultiplier-natural k = let p = get_or premultiplier_matrix k (pos 0) in (and_yes (non_neg p) (leb (nat_abs p) 62) (premultiplier_in k)).0

pub premultiplier-small : (k : ℕ) → nat_abs (get_or premultiplier_matrix k (pos 0)) ≤ 62
premultiplier-small k =
    let p = get_or premultiplier_matrix k (pos 0) in
    leb→le (nat_abs p) 62 (and_yes (non_neg p) (leb (nat_abs p) 62) (premultiplier_in k)).1

pub bounded_of : (c : List ℤ) → bounded c ≡ true → Bounded c
unfolding bounded
bounded_of c e = record { each = λ k l. leb-true _ _ (all-at _ 64 e k l) }

pub bounded-by : {c : List ℤ} → Bounded c → bounded c ≡ true
unfolding bounded
bounded-by b = all-by _ 64 (λ k l. le-leb _ _ (b.each k l))
