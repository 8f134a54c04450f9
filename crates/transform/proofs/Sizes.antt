-- RULES 4.4: the sizes of the numbers that the passes take and give.
use mathlib.Core.Path.{◌≡◌, sym, subst}
use mathlib.Core.Bool.{Bool}
use mathlib.Core.List.{List}
use Prim.Native.Nat.{ℕ, zero, suc, ◌+◌, ◌*◌, ◌/◌, ◌%◌, ◌≤◌, ◌<◌}
use native.Mathlib.Nat.{le_trans}
use native.Mathlib.Omega.{arith}
use lib.Dec.{T, leb, leb→le, lit≤}
use lib.IntN.{ℤ, pos, nat_abs}
use Rattle.codes.specs.Matrices.{premultiplier_matrix, Bounded}
use Rattle.laws.proofs.Nums.{num, con, shift-right, ◌⊞◌}
use Rattle.laws.proofs.Tables as Tables
use Rattle.laws.proofs.Tables.{every}
use Rattle.transform.specs.declared.butterfly.Eight.{Eight}
use Rattle.transform.specs.Butterfly.{nth, butterfly}
use Rattle.transform.specs.Steps.{over256, outputs}
use Rattle.transform.specs.Idct.{at, lane, columns, rows, idct}
use Rattle.laws.specs.Sizes.{AtMost, ResultsInBounds}
use Rattle.transform.specs.Bounds.{BetweenPasses, input_size, output_size}
use Rattle.transform.proofs.Eights.{nth-eight}
use Rattle.transform.proofs.Blocks.{block_at}
use Rattle.transform.proofs.Steps.{good, outs-within}

-- the step's outputs
pub outputs-within : (a : Eight) → AtMost 8 input_size (nth a) → AtMost 8 output_size (nth (butterfly a))
outputs-within a h = record { entry = outs-within input_size a h 33500000 tt }

-- a number over 256
over256-within : (t : ℤ) {B : ℕ} → nat_abs t ≤ B → nat_abs (over256 t) ≤ (B + 128 + 255) / 256
over256-within t h = (shift-right 8 (num {s = t} h ⊞ con 128)).bound

-- a lane's numbers are those of the block
lane-within : (size : ℕ → ℕ) (l : List ℤ) (start step : ℕ) → ((k : ℕ) → k < 8 → nat_abs (at l (start + k * step)) ≤ size k)
    → AtMost 8 size (nth (lane l start step))
lane-within size l start step h =
    record { entry = λ k q. subst (λ (z : ℤ). nat_abs z ≤ size k) (sym (nth-eight (λ j. at l (start + j * step)) k q)) (h k q) }

-- ---- the columns of coefficients

-- the bound of coefficient k is at most the size of the input that its row is
small : ℕ → ℤ → Bool
small k m = leb (2048 * nat_abs m) (input_size (k / 8))

small_all : T (every small 0 premultiplier_matrix)
unfolding small premultiplier_matrix
small_all = tt

small_at : (k : ℕ) → k < 64 → 2048 * nat_abs (at premultiplier_matrix k) ≤ input_size (k / 8)
unfolding small premultiplier_matrix
small_at k h = leb→le (2048 * nat_abs (at premultiplier_matrix k)) (input_size (k / 8)) (Tables.at small premultiplier_matrix (pos 0) small_all k h)

-- the sizes of column x
abbrev down : ℕ → ℕ → ℕ
down x k = 2048 * nat_abs (at premultiplier_matrix (x + k * 8))

module _ (l : List ℤ) (h : Bounded l) where
  column-down : (x : ℕ) → x < 8 → AtMost 8 (down x) (nth (lane l x 8))
  column-down x p = lane-within (down x) l x 8 (λ k q. h.each (x + k * 8) (omega arith))

  pub column-within : (x : ℕ) → x < 8 → AtMost 8 input_size (nth (lane l x 8))
  column-within x p =
      lane-within input_size l x 8
      (λ k q.
      let e : (x + k * 8) / 8 ≡ k = omega arith in
      le_trans (h.each (x + k * 8) (omega arith)) (subst (λ (n : ℕ). down x k ≤ input_size n) e (small_at (x + k * 8) (omega arith))))

  -- what a column gives keeps to the size of the input that the column is: computed for each column and output
  given : (x : ℕ) (p : x < 8) → T (every (good (down x) (lane l x 8) (column-down x p) (input_size x)) 0 outputs)
  unfolding premultiplier_matrix
  given zero p = tt
  given (suc zero) p = tt
  given (suc (suc zero)) p = tt
  given (suc (suc (suc zero))) p = tt
  given (suc (suc (suc (suc zero)))) p = tt
  given (suc (suc (suc (suc (suc zero))))) p = tt
  given (suc (suc (suc (suc (suc (suc zero)))))) p = tt
  given (suc (suc (suc (suc (suc (suc (suc zero))))))) p = tt
  given (suc (suc (suc (suc (suc (suc (suc (suc x)))))))) p = let z : ⊥ = omega arith in absurd z

  pub middle : BetweenPasses (columns l)
  unfolding columns
  middle =
      record {
        entry = λ k q.
            let p : k % 8 < 8 = omega arith in
            subst (λ (z : ℤ). nat_abs z ≤ input_size (k % 8)) (sym (block_at (λ y x. nth (butterfly (lane l x 8)) y) k q))
            (outs-within (down (k % 8)) (lane l (k % 8) 8) (column-down (k % 8) p) (input_size (k % 8)) (given (k % 8) p) (k / 8) (omega arith));
      }

-- ---- the rows between the passes

module _ (l : List ℤ) (h : BetweenPasses l) where
  pub row_within : (y : ℕ) → y < 8 → AtMost 8 input_size (nth (lane l (y * 8) 1))
  row_within y p =
      lane-within input_size l (y * 8) 1
      (λ k q.
      let e : (y * 8 + k * 1) % 8 ≡ k = omega arith in
      subst (λ (n : ℕ). nat_abs (at l (y * 8 + k * 1)) ≤ input_size n) e (h.entry (y * 8 + k * 1) (omega arith)))

  narrow : ResultsInBounds (rows l)
  unfolding rows
  narrow =
      record {
        entry = λ k q.
            let a = lane l (k / 8 * 8) 1 in
            subst (λ (z : ℤ). nat_abs z ≤ 131072) (sym (block_at (λ y x. over256 (nth (butterfly (lane l (y * 8) 1)) x)) k q))
            (le_trans
            (over256-within (nth (butterfly a) (k % 8)) ((outputs-within a (row_within (k / 8) (omega arith))).entry (k % 8) (omega arith)))
            (lit≤ tt));
      }

-- RULES 4.4: the results of coefficients within 2048 × premultiplier
pub idct-narrow : (l : List ℤ) → Bounded l → ResultsInBounds (idct l)
unfolding idct
idct-narrow l h = narrow (columns l) (middle l h)
