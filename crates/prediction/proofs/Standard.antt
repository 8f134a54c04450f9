-- Prediction equals the standard's (ISO/IEC 11172-2, 2.4.4.2 and 2.4.4.3) for a block whose samples all lie in the picture.
use mathlib.Core.Path.{◌≡◌, refl, sym, ap, ap₂, ◌∙◌}
use mathlib.Core.Bool.{Bool, true, false, not, cond}
use mathlib.Core.List.{List}
use Prim.Native.Nat.{ℕ, zero, suc, ◌+◌, ◌*◌, ◌-◌, ◌%◌, ◌≤◌, ◌<◌}
use native.Mathlib.Nat.{mul-le-mul_right}
use native.Mathlib.Omega.{arith}
use lib.Dec.{eqb}
use lib.IntN.{ℤ, pos, negsuc, nat_abs, ◌+ℤ◌, ◌*ℤ◌}
use lib.ListN.{get_or, length}
use lib.Signed.{shr_z, ◌≤ℤ◌}
use Rattle.laws.specs.Signed.{odd}
use Rattle.laws.proofs.Bytes.{half_is}
use Rattle.laws.proofs.Ints.{v as vary, lit, ◌⊕◌, ◌⊖◌, ◌⊛◌, at-dif, eq-by, eq_of, le_of}
use Rattle.laws.proofs.Lists.{rows_in}
use Rattle.std.specs.Prelude.{Some, Ok}
use Rattle.prediction.specs.declared.position.BlockPosition.{BlockPosition}
use Rattle.prediction.specs.Predict.{BlockInPlane, width, height, bytes, address, start, max_address, reach, prediction_source, predicted, chroma}
use Rattle.prediction.specs.Samples.{average2, average4, sample, stored_sample}
use Rattle.prediction.specs.Standard.{rounded_div, whole_samples, half_sample, chrominance, pel_past, no_half_sample, formed, pel, interpolated, InPicture}
use Rattle.prediction.proofs.Fetches.{inside}
use Rattle.prediction.proofs.Places.{column_in, block_in}

-- ---- rounding, and the parts of a vector

pub two-rounded : (a b : ℕ) → average2 a b ≡ rounded_div (a + b) 2
two-rounded a b = omega arith

pub four-rounded : (a b c d : ℕ) → average4 a b c d ≡ rounded_div (a + b + c + d) 4
four-rounded a b c d = omega arith

pub chrominance-is : (z : ℤ) → chroma z ≡ chrominance z
chrominance-is z = sym (half_is z)

half-part : (z : ℤ) → half_sample z ≡ pos (nat_abs z % 2)
half-part (pos n) = eq-by (vary (pos n) ⊖ (2 ⊛ vary (shr_z (pos n) 2))) (lit (n % 2)) (omega arith)
half-part (negsuc n) = eq-by (vary (negsuc n) ⊖ (2 ⊛ vary (shr_z (negsuc n) 2))) (lit (suc n % 2)) (omega arith)

-- ! half is: not odd
none_is : (z : ℤ) → no_half_sample (half_sample z) ≡ not (odd z)
unfolding odd
none_is z = ap no_half_sample (half-part z) ∙ go (nat_abs z % 2) (omega arith)
  where
    go : (k : ℕ) → k < 2 → eqb k 0 ≡ not (eqb k 1)
    go zero h = refl
    go (suc zero) h = refl
    go (suc (suc k)) h = let z : ⊥ = omega arith in absurd z

-- an odd component adds w to the reach
odd-adds : (z : ℤ) (w : ℕ) → cond (odd z) w 0 ≡ nat_abs z % 2 * w
unfolding odd
odd-adds z w = go (nat_abs z % 2) (omega arith)
  where
    go : (k : ℕ) → k < 2 → cond (eqb k 1) w 0 ≡ k * w
    go zero h = omega arith
    go (suc zero) h = omega arith
    go (suc (suc k)) h = let z : ⊥ = omega arith in absurd z

-- ---- places

natural-is : (z : ℤ) → pos 0 ≤ℤ z → z ≡ pos (nat_abs z)
natural-is (pos n) h = refl
natural-is (negsuc n) h = let z : ⊥ = omega (arith, le_of (lit 0) (vary (negsuc n)) h) in absurd z

-- a place further on
further : (a b y : ℕ) (d : ℤ) → pos a +ℤ d ≡ pos b → nat_abs (pos (a + y) +ℤ d) ≡ b + y
further a b y d e = ap nat_abs (eq-by (lit (a + y) ⊕ vary d) (lit (b + y)) (omega (arith, eq_of (lit a ⊕ vary d) (lit b) e)))

next-is : (a b y : ℕ) (d : ℤ) → pos a +ℤ d ≡ pos b → nat_abs (pos (a + y) +ℤ d +ℤ pos 1) ≡ b + y + 1
next-is a b y d e = ap nat_abs (eq-by (lit (a + y) ⊕ vary d ⊕ lit 1) (lit (b + y + 1)) (omega (arith, eq_of (lit a ⊕ vary d) (lit b) e)))

-- a side of the block with its half sample ends inside
ends_in : (a b s n : ℕ) (z : ℤ) → pos a +ℤ whole_samples z ≡ pos b → (pos a +ℤ whole_samples z +ℤ pos s +ℤ half_sample z) ≤ℤ pos n → b + s + nat_abs z % 2 ≤ n
ends_in a b s n z e h =
    let q : pos a +ℤ whole_samples z +ℤ pos s +ℤ half_sample z ≡ pos (b + s + nat_abs z % 2) = ap₂ (λ (i j : ℤ). i +ℤ pos s +ℤ j) e (half-part z) in
    omega (arith, le_of (at-dif q (lit (b + s + nat_abs z % 2))) (lit n) h)

fits_in : (i j m n s w h : ℕ) → i + s + m ≤ h → j + s + n ≤ w → i * w + j + (m * w + n) ≤ w * (h - s + 1) - s
fits_in i j m n s w h p q = let r : i + m ≤ h - s = omega arith in omega (arith, mul-le-mul_right w r)

-- the four cases, of the same four samples
cases : (t u : Bool) {a b c d a' b' c' d' : ℕ} → a ≡ a' → b ≡ b' → c ≡ c' → d ≡ d'
    → cond t (cond u (average4 a b c d) (average2 a b)) (cond u (average2 a c) a)
    ≡ cond (not t) (cond (not u) a' (rounded_div (a' + c') 2)) (cond (not u) (rounded_div (a' + b') 2) (rounded_div (a' + c' + b' + d') 4))
cases true true e f g h = omega arith
cases true false e f g h = omega arith
cases false true e f g h = omega arith
cases false false e f g h = e

-- ---- a block in the picture

module _ {p : BlockPosition} (k : BlockInPlane p) (h v : ℤ) (i : InPicture p h v) where
  -- the row and the column of the block's first sample
  pub row : ℕ
  row = nat_abs (pos (p.row * p.size) +ℤ whole_samples v)

  pub column : ℕ
  column = nat_abs (pos (p.column * p.size) +ℤ whole_samples h)

  row_is : pos (p.row * p.size) +ℤ whole_samples v ≡ pos row
  unfolding row
  row_is = natural-is (pos (p.row * p.size) +ℤ whole_samples v) i.top

  column-is : pos (p.column * p.size) +ℤ whole_samples h ≡ pos column
  unfolding column
  column-is = natural-is (pos (p.column * p.size) +ℤ whole_samples h) i.left

  start_is : start p h v ≡ pos (row * width p + column)
  start_is =
      ap (λ (z : ℤ). z *ℤ pos (width p) +ℤ pos (p.column * p.size) +ℤ whole_samples h) row_is
      ∙ eq-by (lit (row * width p) ⊕ lit (p.column * p.size) ⊕ vary (whole_samples h)) (lit (row * width p + column))
      (omega (arith, eq_of (lit (p.column * p.size) ⊕ vary (whole_samples h)) (lit column) column-is))

  reaches : row * width p + column + reach p h v ≤ max_address p
  reaches =
      omega (
        arith,
        odd-adds v (width p),
        odd-adds h 1,
        fits_in row column (nat_abs v % 2) (nat_abs h % 2) p.size (width p) (height p)
            (ends_in (p.row * p.size) row p.size (height p) v row_is i.bottom)
            (ends_in (p.column * p.size) column p.size (width p) h column-is i.right),
      )

  -- the block is copied, from where the standard says
  pub is-copied : prediction_source p h v ≡ Ok (Some (row * width p + column))
  is-copied =
      sym (inside p h v (sym start_is) refl refl (omega (arith, reaches)) (omega (arith, reaches)))

  module _ (s : List ℕ) (y x : ℕ) where
    -- a sample of the past picture
    past : (c d : ℤ) {m n a : ℕ} → nat_abs c ≡ m → nat_abs d ≡ n → m * width p + n ≡ a → get_or s a 0 ≡ pel_past s (width p) c d
    past c d ec ed e = ap (λ (n : ℕ). get_or s n 0) (sym (ap₂ (λ (m n : ℕ). m * width p + n) ec ed ∙ e))

    -- each sample of the block is the standard's pel
    pub sample-is : sample s (width p) (odd h) (odd v) (row * width p + column + y * width p + x)
        ≡ pel s (width p) h v (p.row * p.size + y) (p.column * p.size + x)
    unfolding sample formed
    sample-is =
        let c : ℤ = pos (p.row * p.size + y) +ℤ whole_samples v in
        let d : ℤ = pos (p.column * p.size + x) +ℤ whole_samples h in
        let r = further (p.row * p.size) row y (whole_samples v) row_is in
        let r1 = next-is (p.row * p.size) row y (whole_samples v) row_is in
        let q = further (p.column * p.size) column x (whole_samples h) column-is in
        let q1 = next-is (p.column * p.size) column x (whole_samples h) column-is in
        cases (odd h) (odd v) (past c d r q (omega arith)) (past c (d +ℤ pos 1) r q1 (omega arith)) (past (c +ℤ pos 1) d r1 q (omega arith))
        (past (c +ℤ pos 1) (d +ℤ pos 1) r1 q1 (omega arith))
        ∙ sym (ap₂ (λ (t u : Bool). shape t u c d) (none_is h) (none_is v))
      where
        shape : Bool → Bool → ℤ → ℤ → ℕ
        shape t u c d =
            cond t (cond u (pel_past s (width p) c d) (rounded_div (pel_past s (width p) c d + pel_past s (width p) (c +ℤ pos 1) d) 2))
            (cond u (rounded_div (pel_past s (width p) c d + pel_past s (width p) c (d +ℤ pos 1)) 2)
            (rounded_div
            (pel_past s (width p) c d + pel_past s (width p) (c +ℤ pos 1) d + pel_past s (width p) c (d +ℤ pos 1)
            + pel_past s (width p) (c +ℤ pos 1) (d +ℤ pos 1))
            4))

    module _ (d : List ℕ) (fit : bytes p ≤ length d) (ry : y < p.size) (rx : x < p.size) where
      laid-is : (interpolate : Bool) → get_or (predicted p s d h v interpolate (row * width p + column)) (address p + y * width p + x) 0
          ≡ stored_sample interpolate (get_or d (address p + y * width p + x) 0) (pel s (width p) h v (p.row * p.size + y) (p.column * p.size + x))
      unfolding predicted
      laid-is interpolate =
          rows_in d (address p) (width p) p.size
          (λ y x. stored_sample interpolate (get_or d (address p + y * width p + x) 0)
          (sample s (width p) (odd h) (odd v) (row * width p + column + y * width p + x)))
          p.size y x (address p + y * width p + x) 0 (omega (arith, column_in k)) (omega (arith, block_in k)) ry rx refl
          ∙ ap (stored_sample interpolate (get_or d (address p + y * width p + x) 0)) sample-is

      -- a first prediction is the standard's
      pub forward : get_or (predicted p s d h v false (row * width p + column)) (address p + y * width p + x) 0
          ≡ pel s (width p) h v (p.row * p.size + y) (p.column * p.size + x)
      forward = laid-is false

      -- and a second one laid over it is the average of both
      pub backward : get_or (predicted p s d h v true (row * width p + column)) (address p + y * width p + x) 0
          ≡ interpolated (get_or d (address p + y * width p + x) 0) (pel s (width p) h v (p.row * p.size + y) (p.column * p.size + x))
      backward = laid-is true ∙ two-rounded (get_or d (address p + y * width p + x) 0) (pel s (width p) h v (p.row * p.size + y) (p.column * p.size + x))
