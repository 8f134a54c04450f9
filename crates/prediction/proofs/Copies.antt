-- A block that is made row by row, from one part of the store into another, is the predicted block of the plane.
use mathlib.Core.Path.{◌≡◌, ap, ap₂, sym, ◌∙◌}
use mathlib.Core.Bool.{Bool, true, false, cond}
use mathlib.Core.List.{List}
use mathlib.Core.Logic.{◌⊎◌, inl, inr, ⊎_elim}
use Prim.Native.Nat.{ℕ, ◌+◌, ◌*◌, ◌≤◌, ◌<◌}
use native.Mathlib.Omega.{arith}
use borrow.Rule.Slice.PartMut.{mid_of, put_mid, put_same}
use lib.Dec.{eqb}
use lib.IntN.{ℤ}
use lib.ListN.{length, get_or}
use Rattle.laws.specs.Signed.{odd}
use Rattle.laws.specs.Stores.{store_rows}
use Rattle.laws.proofs.Lists.{last_row, length_mid, mid_at, rows_alike, rows-put}
use Rattle.prediction.specs.declared.position.BlockPosition.{BlockPosition}
use Rattle.prediction.specs.DisjointBlocks.{Disjoint, sampled, stored_rows}
use Rattle.prediction.specs.Predict.{BlockInPlane, width, bytes, address, max_address, reach, predicted}
use Rattle.prediction.specs.Samples.{average2, average4, sample, stored_sample}
use Rattle.prediction.proofs.Places.{column_in, block_in, source_in, halves-reach}

-- a sample of a part is that of the whole
module _ (s : List ℕ) (from n dw j : ℕ) where
  -- the number k further
  further : (k m : ℕ) → m ≡ j + k → m < n → get_or s (from + j + k) 0 ≡ get_or (mid_of from n s) m 0
  further k m e h =
      let r : from + j + k ≡ from + m = omega arith in
      ap (λ (i : ℕ). get_or s i 0) r ∙ sym (mid_at from n s m 0 h)

  here : j < n → get_or s (from + j) 0 ≡ get_or (mid_of from n s) j 0
  here h = sym (mid_at from n s j 0 h)

  last : j + dw + 1 < n → get_or s (from + j + dw + 1) 0 ≡ get_or (mid_of from n s) (j + dw + 1) 0
  last h =
      let r : from + j + dw + 1 ≡ from + (j + dw + 1) = omega arith in
      ap (λ (i : ℕ). get_or s i 0) r ∙ sym (mid_at from n s (j + dw + 1) 0 h)

  sample_mid : (across down : Bool) → j + cond down dw 0 + cond across 1 0 < n
      → sample s dw across down (from + j) ≡ sample (mid_of from n s) dw across down j
  unfolding sample
  sample_mid true true h =
      λ i. average4 (here (omega arith) i) (further 1 (j + 1) (omega arith) (omega arith) i) (further dw (j + dw) (omega arith) (omega arith) i)
      (last h i)
  sample_mid true false h = ap₂ average2 (here (omega arith)) (further 1 (j + 1) (omega arith) (omega arith))
  sample_mid false true h = ap₂ average2 (here (omega arith)) (further dw (j + dw) (omega arith) (omega arith))
  sample_mid false false h = here (omega arith)

-- the rows in the whole store are those of the plane
row-by-row : {p : BlockPosition} → BlockInPlane p → (s : List ℕ) (from to a : ℕ) (h v : ℤ) (interpolate : Bool) → from + bytes p ≤ length s
    → to + bytes p ≤ length s
    → a + reach p h v ≤ max_address p
    → stored_rows interpolate (sampled (width p) (odd h) (odd v)) s (from + a) (to + address p) (width p) p.size
    ≡ put_mid to (bytes p) s (predicted p (mid_of from (bytes p) s) (mid_of to (bytes p) s) h v interpolate a)
unfolding predicted
row-by-row {p} k s from to a h v interpolate fit room q =
    let n = bytes p in
    let w = width p in
    let g : ℕ → ℕ → ℕ = λ y x.
    stored_sample interpolate (get_or (mid_of to (bytes p) s) (address p + y * width p + x) 0)
    (sample (mid_of from (bytes p) s) (width p) (odd h) (odd v) (a + y * width p + x)) in
    rows_alike s (to + address p) w p.size _ g p.size
    (λ y x r l.
    let i : address p + y * w + p.size ≤ n = last_row (address p) w p.size p.size n (block_in k) y r in
    let j : a + reach p h v + y * w + p.size ≤ n = last_row (a + reach p h v) w p.size p.size n (source_in k (a + reach p h v) q) y r in
    let e : to + address p + y * w + x ≡ to + (address p + y * w + x) = omega arith in
    let f : from + a + y * w + x ≡ from + (a + y * w + x) = omega arith in
    ap₂ (stored_sample interpolate) (ap (λ (m : ℕ). get_or s m 0) e ∙ sym (mid_at to n s (address p + y * w + x) 0 (omega arith)))
    (ap (sample s w (odd h) (odd v)) f ∙ sample_mid s from n w (a + y * w + x) (odd h) (odd v) (omega arith)))
    ∙ ap (λ (z : List ℕ). store_rows z (to + address p) w p.size g p.size) (sym (put_same to n s))
    ∙ rows-put to n s (mid_of to n s) (address p) w p.size g p.size (omega arith)
    (λ y r. omega (arith, last_row (address p) w p.size p.size n (block_in k) y r, length_mid to n s room))

-- ---- the same with the numbers that the code has for those of the place

module _ {p : BlockPosition} (k : BlockInPlane p) (s : List ℕ) (from to a : ℕ) (h v : ℤ) {w d right below : ℕ} (ew : w ≡ width p) (ed : d ≡ address p)
    (er : (right ≤ 1) × (eqb right 1 ≡ odd h)) (eb : (below ≤ 1) × (eqb below 1 ≡ odd v)) (fit : from + bytes p ≤ length s) (room : to + bytes p ≤ length s)
    (q : a + reach p h v ≤ max_address p) where
  -- what the rows ask
  pub apart_fits : (from + bytes p ≤ to) ⊎ (to + bytes p ≤ from) → Disjoint (length s) (from + a) (to + d) w p.size (below * w + right)
  apart_fits apart =
      rw (ew, ed)
      (let i = source_in k (a + reach p h v) q in
      let j = block_in k in
      let far = halves-reach p h v er eb in
      record {
        wide = omega (arith, column_in k);
        source = omega (arith, far, i);
        target = omega (arith, j);
        beside = ⊎_elim (λ x. inl (omega (arith, far, i))) (λ x. inr (omega (arith, j))) apart;
      })

  -- and what they make
  pub apart-copied : (interpolate : Bool) {last : List ℕ}
      → last ≡ stored_rows interpolate (sampled w (eqb right 1) (eqb below 1)) s (from + a) (to + d) w p.size
      → last ≡ put_mid to (bytes p) s (predicted p (mid_of from (bytes p) s) (mid_of to (bytes p) s) h v interpolate a)
  apart-copied interpolate e = e ∙ rw (ew, ed, er.1, eb.1) (row-by-row k s from to a h v interpolate fit room q)
