-- A block by its rows and columns.
use mathlib.Core.Path.{◌≡◌, sym, ap, ◌∙◌}
use mathlib.Core.List.{List}
use Prim.Native.Nat.{ℕ, ◌+◌, ◌*◌, ◌/◌, ◌%◌, ◌<◌}
use native.Mathlib.Omega.{arith}
use lib.IntN.{ℤ, pos}
use lib.ListN.{length, replicate, length-replicate}
use lib.Seq.{ext_get_or}
use Rattle.laws.proofs.Lists.{rows_in, length-rows}
use Rattle.transform.specs.Idct.{at, block}

module _ (f : ℕ → ℕ → ℤ) where
  block-length : length (block f) ≡ 64
  block-length = length-rows (replicate 64 (pos 0)) 0 8 8 f 8 ∙ length-replicate 64 (pos 0)

  pub block_at : (k : ℕ) → k < 64 → at (block f) k ≡ f (k / 8) (k % 8)
  block_at k h =
      rows_in (replicate 64 (pos 0)) 0 8 8 f 8 (k / 8) (k % 8) k (pos 0)
      (omega arith) (omega (arith, length-replicate {A = ℤ} 64 (pos 0))) (omega arith) (omega arith) (omega arith)

  pub block-is : (a : List ℤ) → length a ≡ 64 → ((y x : ℕ) → y < 8 → x < 8 → at a (y * 8 + x) ≡ f y x) → a ≡ block f
  block-is a e h = ext_get_or (pos 0) a (block f) (e ∙ sym block-length) (λ k q. go k (omega arith))
    where
      go : (k : ℕ) → k < 64 → at a k ≡ at (block f) k
      go k q =
          let p : k ≡ k / 8 * 8 + k % 8 = omega arith in
          ap (at a) p ∙ h (k / 8) (k % 8) (omega arith) (omega arith) ∙ sym (block_at k q)
