-- What stands at each place of a plane after a block was written: in the block the value for that place, elsewhere what stood there.
use mathlib.Core.Path.{◌≡◌, refl, sym, ap, ◌∙◌}
use mathlib.Core.Bool.{Bool, true, false, cond, ◌&&◌}
use mathlib.Core.List.{List}
use mathlib.Core.Logic.{◌⊎◌, inl, inr}
use Prim.Native.Nat.{ℕ, ◌+◌, ◌*◌, ◌-◌, ◌≤◌, ◌<◌}
use native.Mathlib.Decide.{dec_lt}
use native.Mathlib.Nat.{div-add-mod, mod-lt, mul-le-mul_left}
use native.Mathlib.Omega.{arith}
use borrow.Author.Tests.{leb-true, leb-false, ltb-true, ltb-false}
use lib.Dec.{leb, ltb}
use lib.IntN.{ℤ}
use lib.ListN.{length, get_or}
use Rattle.laws.specs.Signed.{odd}
use Rattle.laws.specs.Stores.{store_rows}
use Rattle.laws.proofs.Lists.{rows_in, rows_out}
use Rattle.prediction.specs.declared.position.BlockPosition.{BlockPosition}
use Rattle.prediction.specs.Blocks.{row_of, column_of, in_block}
use Rattle.prediction.specs.Predict.{BlockInPlane, width, bytes, address, predicted}
use Rattle.prediction.specs.Samples.{sample, stored_sample}
use Rattle.prediction.proofs.Places.{size-from, column_in, block_in}

-- k is at the row and column that are counted of it
split : (at dw k : ℕ) → at ≤ k → k ≡ at + row_of at dw k * dw + column_of at dw k
split at dw k h = omega (arith, div-add-mod (k - at) dw)

-- a place past the block's rows, or past its columns
past-rows : (at dw b k y x z : ℕ) → b ≤ dw → k ≡ at + y * dw + x → b ≤ y → z < b → (k < at + z * dw) ⊎ (at + z * dw + b ≤ k)
past-rows at dw b k y x z h e q r = let s : z + 1 ≤ y = omega arith in inr (omega (arith, mul-le-mul_left dw s))

past-columns : (at dw b k y x z : ℕ) → b ≤ dw → k ≡ at + y * dw + x → x < dw → b ≤ x → (k < at + z * dw) ⊎ (at + z * dw + b ≤ k)
past-columns at dw b k y x z h e l q = go (dec_lt y z) (dec_lt z y)
  where
    go : Dec (y < z) → Dec (z < y) → (k < at + z * dw) ⊎ (at + z * dw + b ≤ k)
    go (yes g) t = inl (omega (arith, mul-le-mul_left dw g))
    go (no g) (yes t) = inr (omega (arith, mul-le-mul_left dw t))
    go (no g) (no t) = let s : z ≡ y = omega arith in inr (omega (arith, ap (λ (n : ℕ). n * dw) s))

-- every block write is this one, with its f
pub block_at : {A : Type 0} (l : List A) (at dw b : ℕ) (f : ℕ → ℕ → A) (k : ℕ) (d : A) → 0 < b → b ≤ dw → at + (b - 1) * dw + b ≤ length l
    → get_or (store_rows l at dw b f b) k d ≡ cond (in_block at dw b k) (f (row_of at dw k) (column_of at dw k)) (get_or l k d)
block_at {A} l at dw b f k d s h fit = go (leb at k) (ltb y b) (ltb x b) refl refl refl
  where
    y : ℕ
    y = row_of at dw k

    x : ℕ
    x = column_of at dw k

    go : (t u w : Bool) → leb at k ≡ t → ltb y b ≡ u → ltb x b ≡ w → get_or (store_rows l at dw b f b) k d ≡ cond (t && (u && w)) (f y x) (get_or l k d)
    go true true true e g q = rows_in l at dw b f b y x k d h fit (ltb-true y b g) (ltb-true x b q) (split at dw k (leb-true at k e))
    go false u w e g q = rows_out l at dw b f b k d (λ z r. inl (omega (arith, leb-false at k e)))
    go true false w e g q = rows_out l at dw b f b k d (λ z r. past-rows at dw b k y x z h (split at dw k (leb-true at k e)) (ltb-false y b g) r)
    go true true false e g q =
        rows_out l at dw b f b k d
        (λ z r. past-columns at dw b k y x z h (split at dw k (leb-true at k e)) (mod-lt (k - at) (omega arith)) (ltb-false x b q))

-- what stood at the row and column of k is what stood at k
old-at : (d : List ℕ) (at dw b k : ℕ) (g : ℕ → ℕ)
    → cond (in_block at dw b k) (g (get_or d (at + row_of at dw k * dw + column_of at dw k) 0)) (get_or d k 0)
    ≡ cond (in_block at dw b k) (g (get_or d k 0)) (get_or d k 0)
old-at d at dw b k g = go (leb at k) refl
  where
    rest : Bool
    rest = ltb (row_of at dw k) b && ltb (column_of at dw k) b

    go : (t : Bool) → leb at k ≡ t
        → cond (t && rest) (g (get_or d (at + row_of at dw k * dw + column_of at dw k) 0)) (get_or d k 0) ≡ cond (t && rest) (g (get_or d k 0)) (get_or d k 0)
    go true e = ap (λ (n : ℕ). cond rest (g (get_or d n 0)) (get_or d k 0)) (sym (split at dw k (leb-true at k e)))
    go false e = refl

-- a prediction is such a write
pub predicted-at : {p : BlockPosition} → BlockInPlane p → (s d : List ℕ) (h v : ℤ) (interpolate : Bool) (from k : ℕ) → bytes p ≤ length d
    → get_or (predicted p s d h v interpolate from) k 0
    ≡ cond (in_block (address p) (width p) p.size k)
    (stored_sample interpolate (get_or d k 0)
    (sample s (width p) (odd h) (odd v) (from + row_of (address p) (width p) k * width p + column_of (address p) (width p) k)))
    (get_or d k 0)
unfolding predicted
predicted-at {p} q s d h v interpolate from k fit =
    block_at d (address p) (width p) p.size
    (λ y x. stored_sample interpolate (get_or d (address p + y * width p + x) 0) (sample s (width p) (odd h) (odd v) (from + y * width p + x))) k 0
    (omega (arith, size-from q)) (omega (arith, column_in q)) (omega (arith, block_in q))
    ∙ old-at d (address p) (width p) p.size k
    (λ n. stored_sample interpolate n
    (sample s (width p) (odd h) (odd v) (from + row_of (address p) (width p) k * width p + column_of (address p) (width p) k)))
