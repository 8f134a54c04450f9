-- A prediction leaves the store as long as it was. Assumes nothing.
use mathlib.Core.Path.{◌≡◌, refl, ◌∙◌}
use mathlib.Core.Bool.{Bool}
use mathlib.Core.List.{List}
use Prim.Native.Nat.{ℕ}
use lib.IntN.{ℤ}
use lib.ListN.{length}
use borrow.Rule.Slice.PartMut.{mid_of, same_len_mid}
use Rattle.laws.proofs.Lists.{length-rows}
use Rattle.prediction.specs.declared.position.{Macroblock.Macroblock, BlockPosition.BlockPosition}
use Rattle.std.specs.Prelude.{Some, None, Ok, Err}
use Rattle.prediction.specs.Planes.{Predicted}
use Rattle.prediction.specs.Predict.{PredictionSource}
use Rattle.prediction.specs.Predict.{bytes, prediction_source, predicted, address, width}
use Rattle.prediction.specs.Planes.{PlaneAfter, predict_from_source, predict_plane, and_then_plane, predicted_planes}

predicted-length : (p : BlockPosition) (x d : List ℕ) (h v : ℤ) (interpolate : Bool) (from : ℕ) → length (predicted p x d h v interpolate from) ≡ length d
unfolding predicted
predicted-length p x d h v interpolate from = length-rows d (address p) (width p) p.size _ p.size

follow-length : (w : PredictionSource) (p : BlockPosition) (from to : ℕ) (h v : ℤ) (interpolate : Bool) (l : List ℕ)
    → length (predict_from_source w p from to h v interpolate l).store ≡ length l
unfolding predict_from_source
follow-length (Ok None) p from to h v interpolate l = refl
follow-length (Err _) p from to h v interpolate l = refl
follow-length (Ok (Some a)) p from to h v interpolate l =
    let before = mid_of to (bytes p) l in
    let source = mid_of from (bytes p) l in
    same_len_mid to (bytes p) l (predicted p source before h v interpolate a) (predicted-length p source before h v interpolate a)

next-length : {n : ℕ} (o : PlaneAfter) (f : List ℕ → PlaneAfter) → length o.store ≡ n
    → ((l : List ℕ) → length l ≡ n → length (f l).store ≡ n) → length (and_then_plane o f).store ≡ n
unfolding and_then_plane
next-length {n} o f e k = go o.answer
  where
    go : (a : Predicted) → length (elim a as (λ x. PlaneAfter) [ Ok _ ↦ f o.store | Err _ ↦ o ]).store ≡ n
    go (Ok _) = k o.store e
    go (Err _) = e

pub planes-length : (m : Macroblock) (from to : ℕ) (h v : ℤ) (interpolate : Bool) (l : List ℕ)
    → length (predicted_planes m from to h v interpolate l).store ≡ length l
unfolding predicted_planes
planes-length m from to h v interpolate l =
    next-length _ _ (plane _ _ _ _ _ l) (λ l₁ e₁. next-length _ _ (plane _ _ _ _ _ l₁ ∙ e₁) (λ l₂ e₂. plane _ _ _ _ _ l₂ ∙ e₂))
  where
    plane : (p : BlockPosition) (from to : ℕ) (h v : ℤ) (l : List ℕ) → length (predict_plane p from to h v interpolate l).store ≡ length l
    plane p from to h v l = follow-length (prediction_source p h v) p from to h v interpolate l
