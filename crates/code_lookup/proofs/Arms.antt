-- The default arm of a `match` over the numbers below n. Assumes nothing.
use mathlib.Core.Path.{◌≡◌}
use mathlib.Core.Bool.{Bool, true, false, true≢false, ◌||◌}
use Prim.Native.Nat.{ℕ, zero, suc, ◌≤◌, ◌<◌}
use native.Mathlib.Omega.{arith}
use borrow.Author.Tests.{le-ltb, eqb-true}
use lib.Dec.{eqb, ltb}
use Rattle.laws.specs.Each.{all_below}
use Rattle.laws.proofs.Each.{all-at}

-- x is none of 0 .. n - 1, as the default arm has it
abbrev pub None : ℕ → ℕ → Type 0
None x zero = Unit {0}
None x (suc n) = None x n × (x ≡ n → ⊥)

-- a number that is none of 0 .. n - 1 is n or more
pub none_below : (x n : ℕ) → None x n → n ≤ x
none_below x zero r = omega arith
none_below x (suc n) r = let h = none_below x n r.0 in let k = r.1 in omega arith

-- the default arm, if f is v from m on
pub rest : (m n v : ℕ) (f : ℕ → ℕ) → all_below n (λ x. ltb x m || eqb v (f x)) ≡ true → {x : ℕ} → None x m → x < n → v ≡ f x
rest m n v f t {x} r h = eqb-true v (f x) (by (ltb x m) (eqb v (f x)) (le-ltb x m (none_below x m r)) (all-at (λ x. ltb x m || eqb v (f x)) n t x h))
  where
    by : (b c : Bool) → b ≡ false → (b || c) ≡ true → c ≡ true
    by true c e u = absurd (true≢false e)
    by false c e u = u
