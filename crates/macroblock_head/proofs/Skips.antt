-- The loop over skipped macroblocks: its invariant and its turns. Assumes nothing.
use mathlib.Core.Path.{◌≡◌, ap, ◌∙◌}
use mathlib.Core.List.{List}
use Prim.Native.Nat.{ℕ, suc, ◌+◌, ◌-◌, ◌≤◌, ◌<◌}
use native.Mathlib.Omega.{arith}
use lib.ListN.{length}
use Rattle.std.specs.Prelude.{Ok, Err, IsErr}
use Rattle.prediction.proofs.Macroblocks.{is_refused}
use Rattle.prediction.specs.declared.position.HalfSampleOutside.{HalfSampleOutside}
use Rattle.prediction.specs.Planes.{Predicted}
use Rattle.picture_state.specs.Result.{and_then}
use Rattle.picture_state.specs.Promises.{numbered}
use Rattle.macroblock_head.specs.Predictions.{predict, predict_skipped}
use Rattle.picture_state.specs.declared.types.{Context.Context, Slice.Slice}
use Rattle.macroblock_head.specs.Promises.{RefinesPrediction}
use Rattle.picture_state.proofs.Results.{numbered-ok, numbered_then}

-- before the macroblock k of the n that are skipped from this address on
pub record AtSkip (g : Context) (x : Slice) (address n : ℕ) (l₀ l : List ℕ) (k : ℕ) : Type 0 where
  pub few : k ≤ n
  pub long : length l ≡ length l₀
  pub rest : predict_skipped g x address n l₀ ≡ predict_skipped g x (address + k) (n - k) l

module _ {g : Context} {x : Slice} {address n : ℕ} {l₀ l : List ℕ} {k : ℕ} (i : AtSkip g x address n l₀ l k) where
  pub skip-end : n ≤ k → RefinesPrediction (predict_skipped g x address n l₀) (Ok tt) l
  unfolding predict_skipped
  skip-end h = let e : n - k ≡ 0 = omega arith in record { is = ap numbered (rw e at i.rest) }

  module _ (h : k < n) {l₁ : List ℕ} where
    pub skip-refused : {e : HalfSampleOutside} {r : Predicted} → RefinesPrediction (predict g (address + k) x l) (Err e) l₁ → IsErr r
        → RefinesPrediction (predict_skipped g x address n l₀) r l₁
    unfolding predict_skipped
    skip-refused {r = r} t e =
        let m : n - k ≡ suc (n - (k + 1)) = omega arith in
        rw (is_refused r e)
        (record { is = ap numbered (rw m at i.rest) ∙ numbered_then _ (predict_skipped g x (address + k + 1) (n - (k + 1))) t.is })

    pub skip-on : RefinesPrediction (predict g (address + k) x l) (Ok tt) l₁ → length l₁ ≡ length l → AtSkip g x address n l₀ l₁ (k + 1)
    unfolding predict_skipped and_then
    skip-on t q =
        let m : n - k ≡ suc (n - (k + 1)) = omega arith in
        let a : address + (k + 1) ≡ address + k + 1 = omega arith in
        let o = numbered-ok (predict g (address + k) x l) t.is in
        record { few = omega arith; long = q ∙ i.long; rest = rw a (rw (m, o) at i.rest) }
