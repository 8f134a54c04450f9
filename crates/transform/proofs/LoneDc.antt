-- RULES 4.3: where all coefficients but that at place 0 are 0, the short way gives what the transform gives.
use mathlib.Core.Path.{◌≡◌, sym, ap, ◌∙◌}
use mathlib.Core.List.{List}
use Prim.Native.Nat.{ℕ, zero, suc, ◌+◌, ◌*◌, ◌/◌, ◌%◌, ◌<◌}
use native.Mathlib.Omega.{arith}
use lib.IntN.{ℤ, pos, ◌+ℤ◌, +ℤ_idl, +ℤ_idr}
use lib.ListN.{replicate, length-replicate, get_or-replicate}
use Rattle.transform.specs.Butterfly.{eight, nth, butterfly}
use Rattle.transform.specs.Steps.{over256}
use Rattle.transform.specs.Idct.{at, lane, columns, rows, idct, dc_only}
use Rattle.transform.proofs.Blocks.{block_at, block-is}
use Rattle.transform.proofs.Eights.{eight-same, nth-eight}

-- c, and then 0
lone : ℤ → ℕ → ℤ
lone c zero = c
lone c (suc k) = pos 0

-- the step gives c at each place: its sums are of these two forms
sums : (c : ℤ) → c +ℤ pos 0 +ℤ pos 0 +ℤ pos 0 ≡ c
sums c = +ℤ_idr (c +ℤ pos 0 +ℤ pos 0) ∙ +ℤ_idr (c +ℤ pos 0) ∙ +ℤ_idr c

sums-left : (c : ℤ) → pos 0 +ℤ (c +ℤ pos 0 +ℤ pos 0) ≡ c
sums-left c = +ℤ_idl (c +ℤ pos 0 +ℤ pos 0) ∙ +ℤ_idr (c +ℤ pos 0) ∙ +ℤ_idr c

step : (c : ℤ) → butterfly (eight (lone c)) ≡ eight (λ k. c)
unfolding butterfly lone
step c =
    λ i. record {
      v0 = sums-left c i;
      v1 = sums-left c i;
      v2 = sums c i;
      v3 = sums c i;
      v4 = sums c i;
      v5 = sums-left c i;
      v6 = sums c i;
      v7 = sums c i;
    }

-- a lane that has c first and then 0 gives c at each place
lane-gives : (l : List ℤ) (start stride : ℕ) (c : ℤ) → ((k : ℕ) → k < 8 → at l (start + k * stride) ≡ lone c k)
    → (k : ℕ) → k < 8 → nth (butterfly (lane l start stride)) k ≡ c
lane-gives l start stride c h k q =
    ap (λ e. nth (butterfly e) k) (eight-same (λ j. at l (start + j * stride)) (lone c) h) ∙ ap (λ e. nth e k) (step c) ∙ nth-eight (λ j. c) k q

module _ (l : List ℤ) (zeros : (k : ℕ) → 0 < k → k < 64 → at l k ≡ pos 0) where
  column : (x : ℕ) → x < 8 → (k : ℕ) → k < 8 → at l (x + k * 8) ≡ lone (lone (at l 0) x) k
  unfolding lone
  column zero p zero q = ap (at l) (omega arith)
  column (suc x) p zero q = zeros (suc x + 0 * 8) (omega arith) (omega arith)
  column x p (suc k) q = zeros (x + suc k * 8) (omega arith) (omega arith)

  between : (k : ℕ) → k < 64 → at (columns l) k ≡ lone (at l 0) (k % 8)
  unfolding columns
  between k h =
      block_at (λ y x. nth (butterfly (lane l x 8)) y) k h
      ∙ lane-gives l (k % 8) 8 (lone (at l 0) (k % 8)) (column (k % 8) (omega arith)) (k / 8) (omega arith)

  row : (y : ℕ) → y < 8 → (k : ℕ) → k < 8 → at (columns l) (y * 8 + k * 1) ≡ lone (at l 0) k
  row y p k q =
      let e : (y * 8 + k * 1) % 8 ≡ k = omega arith in
      between (y * 8 + k * 1) (omega arith) ∙ ap (lone (at l 0)) e

  pub lone-dc : idct l ≡ replicate 64 (dc_only (at l 0))
  unfolding idct rows dc_only
  lone-dc =
      sym
      (block-is (λ y x. over256 (nth (butterfly (lane (columns l) (y * 8) 1)) x)) (replicate 64 (over256 (at l 0))) (length-replicate 64 (over256 (at l 0)))
      (λ y x p q.
      get_or-replicate 64 (y * 8 + x) (over256 (at l 0)) (pos 0) (omega arith)
      ∙ ap over256 (sym (lane-gives (columns l) (y * 8) 1 (at l 0) (row y p) x q))))
