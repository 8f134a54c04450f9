-- Each result of the transform is less than 1 away from that of the same steps in exact fractions.
use mathlib.Core.Path.{◌≡◌, sym, ap, ap₂, ◌∙◌, subst}
use mathlib.Core.Bool.{Bool, false, ◌&&◌}
use mathlib.Core.List.{List}
use Prim.Native.Nat.{ℕ, zero, suc, ◌+◌, ◌*◌, ◌^◌, ◌/◌, ◌%◌, ◌≤◌, ◌<◌}
use native.Mathlib.Nat.{mul_assoc, pow-suc}
use native.Mathlib.Omega.{arith}
use lib.Dec.{T, leb, leb→le, ltb, ltb→lt}
use lib.IntN.{ℤ, pos, nat_abs, ◌-ℤ◌, ◌*ℤ◌}
use lib.ListN.{get_or-replicate}
use mir.Facts.{and_yes}
use Rattle.laws.proofs.Tables.{every}
use Rattle.laws.proofs.Tables as Tables
use Rattle.transform.specs.Steps.{Expression, input, ◌⊕◌, ◌⊖◌, neg, ◌⊗◌, nearest, over256, value, outputs, output}
use Rattle.transform.specs.Butterfly.{nth, butterfly}
use Rattle.transform.specs.Idct.{at, lane, columns, rows, idct, dc_only}
use Rattle.transform.specs.Exact.{exact, exact_column, exact_result, error_bound, NearExact, DcOnlyNearExact}
use Rattle.transform.proofs.Eights.{nth-eight}
use Rattle.transform.proofs.Blocks.{block_at}
use Rattle.transform.proofs.LoneDc.{lone-dc}
use Rattle.transform.proofs.Apart.{Within, within_abs, itself, weaken, plus, less, minus, times, finer, round}

-- at most d divisions stand within one another, and there are eight inputs
abbrev deep : ℕ → Expression → Bool
deep d (input k) = ltb k 8
deep d (a ⊕ b) = deep d a && deep d b
deep d (a ⊖ b) = deep d a && deep d b
deep d (neg a) = deep d a
deep d (a ⊗ n) = deep d a
deep zero (nearest a) = false
deep (suc d) (nearest a) = deep d a

-- how far apart, over m * 256 ^ d, where input k is e k apart over m
abbrev apart : ℕ → ℕ → (ℕ → ℕ) → Expression → ℕ
apart d m e (input k) = e k * 256 ^ d
apart d m e (a ⊕ b) = apart d m e a + apart d m e b
apart d m e (a ⊖ b) = apart d m e a + apart d m e b
apart d m e (neg a) = apart d m e a
apart d m e (a ⊗ n) = apart d m e a * n
apart zero m e (nearest a) = 0
apart (suc d) m e (nearest a) = 128 * (m * 256 ^ d) + apart d m e a

module _ (m : ℕ) (e : ℕ → ℕ) (s S : ℕ → ℤ) (h : (k : ℕ) → k < 8 → Within m (e k) (s k) (S k)) where
  sound : (d : ℕ) (x : Expression) → T (deep d x) → Within (m * 256 ^ d) (apart d m e x) (value s x) (exact d S x)
  sound d (input k) t = finer (h k (ltb→lt k 8 t)) (256 ^ d)
  sound d (a ⊕ b) t = let q = and_yes (deep d a) (deep d b) t in plus (sound d a q.0) (sound d b q.1)
  sound d (a ⊖ b) t = let q = and_yes (deep d a) (deep d b) t in less (sound d a q.0) (sound d b q.1)
  sound d (neg a) t = minus (sound d a t)
  sound d (a ⊗ n) t = times (sound d a t) n
  sound zero (nearest a) t = absurd t
  sound (suc d) (nearest a) t =
      subst (λ (n : ℕ). Within n (apart (suc d) m e (nearest a)) (over256 (value s a)) (exact d S a))
      (mul_assoc m (256 ^ d) 256 ∙ ap (λ (n : ℕ). m * n) (sym (pow-suc 256 d))) (round (sound d a t))

-- ---- the two passes

-- what the outputs of a step are apart, computed
abbrev good : ℕ → ℕ → ℕ → ℕ → ℕ → Expression → Bool
good d m e most k x = deep d x && leb (apart d m (λ i. e) x) most

-- each output of a step whose inputs are e apart over m
outputs-near : (d m e most : ℕ) (s S : ℕ → ℤ) → ((k : ℕ) → k < 8 → Within m e (s k) (S k)) → T (every (good d m e most) 0 outputs)
    → (k : ℕ) → k < 8 → Within (m * 256 ^ d) most (value s (output k)) (exact d S (output k))
outputs-near d m e most s S h t k q =
    let p = and_yes (deep d (output k)) (leb (apart d m (λ i. e) (output k)) most) (Tables.at (good d m e most) outputs (input 0) t k q) in
    weaken (leb→le (apart d m (λ i. e) (output k)) most p.1) (sound m (λ i. e) s S h d (output k) p.0)

module _ (l : List ℤ) where
  -- output y of column x: three roundings, each at most 1/2
  column-near : (x y : ℕ) → y < 8 → Within 256 384 (value (nth (lane l x 8)) (output y)) (exact_column l x y)
  column-near x y q = outputs-near 1 1 0 384 (nth (lane l x 8)) (nth (lane l x 8)) (λ k p. itself (nth (lane l x 8) k)) tt y q

  -- what stands in row y, column x between the passes
  between : (y x : ℕ) → y < 8 → x < 8 → at (columns l) (y * 8 + x) ≡ value (nth (lane l x 8)) (output y)
  unfolding columns butterfly
  between y x p q =
      let r : (y * 8 + x) % 8 ≡ x = omega arith in
      let u : (y * 8 + x) / 8 ≡ y = omega arith in
      block_at (λ i j. nth (butterfly (lane l j 8)) i) (y * 8 + x) (omega arith)
      ∙ ap₂ (λ (i j : ℕ). nth (butterfly (lane l j 8)) i) u r
      ∙ nth-eight (λ k. value (nth (lane l x 8)) (output k)) y p

  row_near : (y k : ℕ) → y < 8 → k < 8 → Within 256 384 (nth (lane (columns l) (y * 8) 1) k) (exact_column l k y)
  row_near y k p q =
      let r : y * 8 + k * 1 ≡ y * 8 + k = omega arith in
      subst (λ (z : ℤ). Within 256 384 z (exact_column l k y))
      (sym (nth-eight (λ j. at (columns l) (y * 8 + j * 1)) k q ∙ ap (at (columns l)) r ∙ between y k p q)) (column-near k y p)

  result-near : (y x : ℕ) → y < 8 → x < 8 → Within 16777216 error_bound (at (idct l) (y * 8 + x)) (exact_result l y x)
  unfolding idct rows butterfly
  result-near y x p q =
      let r : (y * 8 + x) % 8 ≡ x = omega arith in
      let u : (y * 8 + x) / 8 ≡ y = omega arith in
      let s = nth (lane (columns l) (y * 8) 1) in
      subst (λ (z : ℤ). Within 16777216 error_bound z (exact_result l y x))
      (sym
      (block_at (λ i j. over256 (nth (butterfly (lane (columns l) (i * 8) 1)) j)) (y * 8 + x) (omega arith)
      ∙ ap₂ (λ (i j : ℕ). over256 (nth (butterfly (lane (columns l) (i * 8) 1)) j)) u r
      ∙ ap over256 (nth-eight (λ k. value s (output k)) x q)))
      (weaken (leb→le (128 * 65536 + 2468352) error_bound tt)
      (round (outputs-near 1 256 384 2468352 s (λ k. exact_column l k y) (λ k i. row_near y k p i) tt x q)))

-- no farther than `error_bound` is less than 1
one_less : (n : ℕ) → n ≤ error_bound → n < 16777216
one_less n h = omega arith

pub idct-near : (l : List ℤ) → NearExact l
idct-near l = record {
  most = λ y x p q. within_abs (result-near l y x p q);
  less = λ y x p q.
      one_less (nat_abs (at (idct l) (y * 8 + x) *ℤ pos 16777216 -ℤ exact_result l y x)) (within_abs (result-near l y x p q));
}

module _ (l : List ℤ) (zeros : (k : ℕ) → 0 < k → k < 64 → at l k ≡ pos 0) where
  short-near : (y x : ℕ) → y < 8 → x < 8 → nat_abs (dc_only (at l 0) *ℤ pos 16777216 -ℤ exact_result l y x) ≤ error_bound
  short-near y x p q =
      subst (λ (z : ℤ). nat_abs (z *ℤ pos 16777216 -ℤ exact_result l y x) ≤ error_bound)
      (ap (λ (b : List ℤ). at b (y * 8 + x)) (lone-dc l zeros) ∙ get_or-replicate 64 (y * 8 + x) (dc_only (at l 0)) (pos 0) (omega arith))
      ((idct-near l).most y x p q)

  pub lone-near : DcOnlyNearExact l
  lone-near = record {
    most = short-near;
    less = λ y x p q. one_less (nat_abs (dc_only (at l 0) *ℤ pos 16777216 -ℤ exact_result l y x)) (short-near y x p q);
  }
