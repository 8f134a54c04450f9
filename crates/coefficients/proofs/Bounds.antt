-- The places of a block, and how large its coefficients are. Assumes nothing.
use mathlib.Core.Path.{◌≡◌, refl}
use mathlib.Core.Bool.{Bool, true, false}
use mathlib.Core.List.{List}
use Prim.Native.Nat.{ℕ, ◌*◌, ◌≤◌, ◌<◌, zero-le}
use native.Mathlib.Decide.{dec_lt}
use native.Mathlib.Omega.{arith}
use borrow.Author.Tests.{eqb-true, eqb-false}
use lib.Dec.{eqb}
use lib.IntN.{ℤ, pos, nat_abs, ◌*ℤ◌}
use lib.ListN.{length, get_or, set, replicate, get_or-replicate}
use lib.Seq.{set_out, get_or-set_same, get_or-set_other}
use Rattle.laws.proofs.Nums.{mul_abs}
use Rattle.codes.specs.Matrices.{premultiplier_matrix, Bounded}
use Rattle.coefficients.specs.Dcs.{dc_in_range}
use Rattle.coefficients.proofs.Sizes.{inside-small}

-- a store that keeps to the bound at its place
module _ {xs : List ℤ} (p : ℕ) (v : ℤ) (h : nat_abs v ≤ 2048 * nat_abs (get_or premultiplier_matrix p (pos 0))) (b : Bounded xs) where
  at_position : (k : ℕ) → k < 64 → nat_abs (get_or (set xs p v) k (pos 0)) ≤ 2048 * nat_abs (get_or premultiplier_matrix k (pos 0))
  at_position k l = go (eqb k p) refl (dec_lt p (length xs))
    where
      go : (t : Bool) → eqb k p ≡ t → Dec (p < length xs) → nat_abs (get_or (set xs p v) k (pos 0)) ≤ 2048 * nat_abs (get_or premultiplier_matrix k (pos 0))
      go true e (yes q) = rw (eqb-true k p e, get_or-set_same xs p v (pos 0) q) h
      go true e (no q) = rw (set_out xs p v (omega arith)) (b.each k l)
      go false e q = rw (get_or-set_other xs p k v (pos 0) (eqb-false k p e)) (b.each k l)

  pub bounded-set : Bounded (set xs p v)
  bounded-set = record { each = at_position }

-- the coefficient of a DC value
pub bounded-dc : {xs : List ℤ} (x : ℤ) → dc_in_range x ≡ true → Bounded xs → Bounded (set xs 0 (x *ℤ pos 256))
unfolding premultiplier_matrix
bounded-dc x e b = bounded-set 0 (x *ℤ pos 256) (omega (arith, mul_abs x (pos 256), inside-small x e)) b

pub bounded-zero : Bounded (replicate 64 (pos 0))
bounded-zero = record { each = λ k l. rw (get_or-replicate 64 k (pos 0) (pos 0) l) zero-le }
