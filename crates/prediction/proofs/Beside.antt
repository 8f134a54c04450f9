-- Rows that are read from one part of the store and written into another that is apart from it: what is read was not written before.
use mathlib.Core.Path.{◌≡◌, refl, ap, ap₂, ◌∙◌}
use mathlib.Core.Bool.{Bool, true, false}
use mathlib.Core.List.{List}
use mathlib.Core.Logic.{◌⊎◌, inl, inr, ⊎_elim}
use Prim.Native.Nat.{ℕ, zero, suc, ◌+◌, ◌*◌, ◌≤◌, ◌<◌}
use native.Mathlib.Nat.{mul-le-mul_right}
use native.Mathlib.Omega.{arith}
use borrow.Author.Tests.{eqb-true}
use lib.Dec.{eqb}
use lib.ListN.{length, get_or, set, replicate}
use Rattle.laws.specs.Stores.{store_row}
use Rattle.laws.proofs.Lists.{last_row, row-alike, rows_alike, rows_out, Stored, none-stored, stored-first}
use Rattle.prediction.specs.DisjointBlocks.{Disjoint, averaged_four_or_two, sampled, stored_sample_at, stored_rows}
use Rattle.prediction.specs.Samples.{average2, sample, stored_sample}
use Rattle.prediction.proofs.RowsWritten.{made_row, RowsWritten, no_line, line_on, lines-all}

-- what f makes of a store at i is made of the numbers from i up to e further
abbrev pub Reads : (List ℕ → ℕ → ℕ) → ℕ → Type 0
Reads f e = (s t : List ℕ) (i : ℕ) → ((k : ℕ) → i ≤ k → k ≤ i + e → get_or s k 0 ≡ get_or t k 0) → f s i ≡ f t i

-- ---- a row that is being made

-- x of b numbers stand in the array. f makes them of the store s at i, and reads up to e further; they are to be written at o
pub record Making (interpolate : Bool) (f : List ℕ → ℕ → ℕ) (s : List ℕ) (i o b e : ℕ) (row : List ℕ) (x : ℕ) : Type 0 where
  pub read : i + b + e ≤ length s
  pub written : o + b ≤ length s
  pub made : Stored (replicate b 0) 0 (λ x. stored_sample_at interpolate f s (i + x) (o + x)) b row x

-- the loop's turn
pub make-on : {interpolate : Bool} {f : List ℕ → ℕ → ℕ} {s row : List ℕ} {i o b e x v : ℕ} → Making interpolate f s i o b e row x → x < b
    → v ≡ stored_sample_at interpolate f s (i + x) (o + x) → Making interpolate f s i o b e (set row x v) (x + 1)
make-on m h e = record { read = m.read; written = m.written; made = stored-first m.made h e }

-- ---- the rows so far

-- y of the b rows are written, each number made by f
pub record Rows (interpolate : Bool) (f : List ℕ → ℕ → ℕ) (s : List ℕ) (from to dw b : ℕ) (now : List ℕ) (y : ℕ) : Type 0 where
  pub lines : RowsWritten s to dw b b (λ old y x. stored_sample interpolate old (f s (from + y * dw + x))) now y

pub no_row : {interpolate : Bool} {f : List ℕ → ℕ → ℕ} {s : List ℕ} {from to dw b e : ℕ} → Disjoint (length s) from to dw b e
    → Rows interpolate f s from to dw b s 0
no_row k = record { lines = no_line k.wide k.target }

pub all-rows : {interpolate : Bool} {f : List ℕ → ℕ → ℕ} {s now : List ℕ} {from to dw b y : ℕ} → Rows interpolate f s from to dw b now y → b ≤ y
    → now ≡ stored_rows interpolate f s from to dw b
all-rows l h = lines-all l.lines h

module _ {interpolate : Bool} {f : List ℕ → ℕ → ℕ} {s : List ℕ} {from to dw b e : ℕ} (k : Disjoint (length s) from to dw b e) {before : List ℕ} {y : ℕ}
    (l : Rows interpolate f s from to dw b before y) (q : y < b) where
  -- the next row lies in the store
  pub none_made : Making interpolate f before (from + y * dw) (to + y * dw) b e (replicate b 0) 0
  none_made = record {
    read = omega (arith, last_row from dw (b + e) b (length s) (omega (arith, k.source)) y q, l.lines.long);
    written = omega (arith, last_row to dw b b (length s) k.target y q, l.lines.long);
    made = none-stored;
  }

  -- what it is made of stands outside of the rows so far, where the store is as it was
  beside : (j : ℕ) → from + y * dw ≤ j → j < from + y * dw + b + e → (j < to) ⊎ (to + y * dw ≤ j)
  beside j low high =
      ⊎_elim (λ h. inl (omega (arith, last_row from dw (b + e) b to (omega arith) y q))) (λ h. inr (omega (arith, last_row to dw b b from h y q)))
      k.beside

  kept : (j : ℕ) → from + y * dw ≤ j → j < from + y * dw + b + e → get_or before j 0 ≡ get_or s j 0
  kept j low high =
      ap (λ (z : List ℕ). get_or z j 0) l.lines.is
      ∙ rows_out s to dw b (λ y x. stored_sample_at interpolate f s (from + y * dw + x) (to + y * dw + x)) y j 0
      (λ z r. ⊎_elim (λ h. inl (omega arith)) (λ h. inr (omega (arith, k.wide, mul-le-mul_right dw r))) (beside j low high))

  -- the loop's turn: the row that was made is written
  pub rows_on : Reads f e → {row now : List ℕ} {x : ℕ} → Making interpolate f before (from + y * dw) (to + y * dw) b e row x → b ≤ x
      → now ≡ store_row before (to + y * dw) (λ x. get_or row x 0) b → Rows interpolate f s from to dw b now (y + 1)
  rows_on reads m all put =
      record {
        lines =
            line_on l.lines q
            (made_row before (to + y * dw) m.made all put
            ∙ row-alike before (to + y * dw) _ _ b
            (λ x r.
            ap (stored_sample interpolate (get_or before (to + y * dw + x) 0))
            (reads before s (from + y * dw + x) (λ j low high. kept j (omega arith) (omega arith)))));
      }

-- ---- averages of two and of four

pub chosen-reads : (dw other right : ℕ) (four : Bool) → (four ≡ true → (other ≡ dw + 1) × (right ≡ 1)) → Reads (averaged_four_or_two dw other four) other
unfolding sample
chosen-reads dw other right true is s t i h =
    let e : other ≡ dw + 1 = (is refl).0 in
    rw (
      h i (omega arith) (omega arith),
      h (i + 1) (omega arith) (omega arith),
      h (i + dw) (omega arith) (omega arith),
      h (i + dw + 1) (omega arith) (omega arith),
    )
chosen-reads dw other right false is s t i h = ap₂ average2 (h i (omega arith) (omega arith)) (h (i + other) (omega arith) (omega arith))

-- an average of two, with an offset that is 0, 1 or a row: the sample itself, or averaged with the one to the right or the one below
chosen_is : (s : List ℕ) (dw right below i : ℕ) → right ≤ 1 → below ≤ 1
    → averaged_four_or_two dw (below * dw + right) (eqb (below * 2 + right) 3) s i ≡ sample s dw (eqb right 1) (eqb below 1) i
unfolding sample
chosen_is s dw zero zero i r b = let e : i + (0 * dw + 0) ≡ i = omega arith in ap (λ (k : ℕ). average2 (get_or s i 0) (get_or s k 0)) e ∙ omega arith
chosen_is s dw zero (suc zero) i r b = ap (λ (k : ℕ). average2 (get_or s i 0) (get_or s k 0)) (omega arith)
chosen_is s dw (suc zero) zero i r b = ap (λ (k : ℕ). average2 (get_or s i 0) (get_or s k 0)) (omega arith)
chosen_is s dw (suc zero) (suc zero) i r b = refl
chosen_is s dw (suc (suc k)) below i r b = absurd (omega arith)
chosen_is s dw zero (suc (suc k)) i r b = absurd (omega arith)
chosen_is s dw (suc zero) (suc (suc k)) i r b = absurd (omega arith)

pub chosen-rows : (interpolate : Bool) (s : List ℕ) (from to dw b right below : ℕ) → (right ≤ 1) × (below ≤ 1)
    → stored_rows interpolate (averaged_four_or_two dw (below * dw + right) (eqb (below * 2 + right) 3)) s from to dw b
    ≡ stored_rows interpolate (sampled dw (eqb right 1) (eqb below 1)) s from to dw b
chosen-rows interpolate s from to dw b right below h =
    rows_alike s to dw b _ _ b
    (λ y x q k. ap (stored_sample interpolate (get_or s (to + y * dw + x) 0)) (chosen_is s dw right below (from + y * dw + x) h.0 h.1))

-- both are 1 where the average is of four
pub both_one : (dw right below : ℕ) → (right ≤ 1) × (below ≤ 1) → eqb (below * 2 + right) 3 ≡ true → (below * dw + right ≡ dw + 1) × (right ≡ 1)
both_one dw right below h e =
    let three = eqb-true (below * 2 + right) 3 e in
    let across : right ≡ 1 = omega arith in
    let down : below ≡ 1 = omega arith in
    (rw (across, down) (omega arith), across)
