-- Predictions, as the code makes them. Assumes nothing.
use mathlib.Core.Path.{◌≡◌, refl, ap, ◌∙◌}
use mathlib.Core.Bool.{Bool, true, false}
use mathlib.Core.Logic.{inl, inr}
use mathlib.Core.List.{List}
use Prim.Native.Nat.{ℕ}
use borrow.Author.Tests.{eq-eqb, ne_eqb}
use lib.Dec.{eqb}
use lib.IntN.{ℤ}
use Rattle.laws.proofs.Tests.{if_yes}
use Rattle.bits.proofs.Rules.{and_yes, and_no}
use Rattle.std.specs.Prelude.{Ok, Err, IsErr}
use Rattle.prediction.proofs.Macroblocks.{is_refused}
use Rattle.prediction.specs.Planes.{Predicted}
use Rattle.prediction.specs.Planes.{PlaneAfter, predicted_planes}
use Rattle.prediction.specs.declared.position.{HalfSampleOutside.HalfSampleOutside, Macroblock.Macroblock}
use Rattle.prediction.specs.Predict.{macroblock_at, in_halves}
use Rattle.picture_state.specs.declared.types.{Motion.Motion, Context.Context, Slice.Slice}
use Rattle.picture_state.specs.Result.{Result, ok, error, and_then}
use Rattle.picture_state.specs.Stop.{Stop, stop, prediction_outside}
use Rattle.picture_state.specs.Promises.{numbered}
use Rattle.picture_state.proofs.Results.{numbered-ok, numbered_then}
use Rattle.macroblock_head.specs.Predictions.{unless_refused, predict_from, predict_both, predict}
use Rattle.macroblock_head.specs.Promises.{prediction_result, RefinesPrediction}

pub foretold : (address : ℕ) (o : PlaneAfter) {r : Predicted} {store : List ℕ} → r ≡ o.answer → store ≡ o.store
    → RefinesPrediction (unless_refused address o) r store
unfolding unless_refused
foretold address o p q = rw (p, q) (record { is = go o.answer })
  where
    go : (a : Predicted) → numbered (elim a as (λ x. Result Stop (List ℕ)) [
      | Ok _ ↦ ok o.store
      | Err _ ↦ error (stop (prediction_outside address o.plane o.h o.v) o.store)
    ]) ≡ prediction_result a o.store
    go (Ok _) = refl
    go (Err _) = refl

-- the planes of one direction, from the numbers that the code has
pub from_planes : (g : Context) (address k : ℕ) (m : Motion) (interpolate : Bool) (l : List ℕ) {place : Macroblock} {h v : ℤ} {r : Predicted} {l₁ : List ℕ}
    → place ≡ macroblock_at g.sizes.mb_width g.sizes.mb_height address
    → h ≡ in_halves m.full_px m.h → v ≡ in_halves m.full_px m.v
    → let o = predicted_planes place k g.stores.cur h v interpolate l in (r ≡ o.answer) × (l₁ ≡ o.store)
    → RefinesPrediction (predict_from g address k m interpolate l) r l₁
unfolding predict_from
from_planes g address k m interpolate l p eh ev q = let o = rw (p, eh, ev) at q in foretold address _ o.0 o.1

module _ (g : Context) (address : ℕ) (x : Slice) (l : List ℕ) where
  abbrev Forward : Predicted → List ℕ → Type 0
  Forward = RefinesPrediction (predict_from g address g.stores.fwd x.motion_forward false l)

  abbrev Both : Predicted → List ℕ → Type 0
  Both = RefinesPrediction (predict_both g address x l)

  abbrev Any : Predicted → List ℕ → Type 0
  Any = RefinesPrediction (predict g address x l)

  pub both-refused : {l₁ : List ℕ} {e : HalfSampleOutside} {r : Predicted} → Forward (Err e) l₁ → IsErr r → Both r l₁
  unfolding predict_both
  both-refused {r = r} h e = rw (is_refused r e) (record { is = numbered_then _ _ h.is })

  module _ {l₁ : List ℕ} (h : Forward (Ok tt) l₁) where
    forward-done : predict_from g address g.stores.fwd x.motion_forward false l ≡ ok l₁
    forward-done = numbered-ok (predict_from g address g.stores.fwd x.motion_forward false l) h.is

    pub both-forward : x.motion_backward.is_set ≡ false → Both (Ok tt) l₁
    unfolding predict_both and_then
    both-forward b = record { is = rw (forward-done, b) }

    pub both-both : x.motion_backward.is_set ≡ true → {l₂ : List ℕ} {r : Predicted}
        → RefinesPrediction (predict_from g address g.stores.bwd x.motion_backward true l₁) r l₂ → Both r l₂
    unfolding predict_both and_then
    both-both b k =
        let o : predict_both g address x l ≡ predict_from g address g.stores.bwd x.motion_backward true l₁ = rw forward-done (if_yes _ b refl) in
        record { is = ap numbered o ∙ k.is }

  module _ {l₁ : List ℕ} {r : Predicted} (h : Forward r l₁) where
    pub predict-forward : (g.picture_type ≡ 3 → ⊥) → Any r l₁
    unfolding predict
    predict-forward n =
        let e = ne_eqb g.picture_type 3 n in
        record { is = rw (and_no (eqb g.picture_type 3) x.motion_forward.is_set (inl e), e) h.is }

  module _ {l₁ : List ℕ} {r : Predicted} (t : g.picture_type ≡ 3) where
    pub predict-both : x.motion_forward.is_set ≡ true → Both r l₁ → Any r l₁
    unfolding predict
    predict-both f h =
        let e = eq-eqb g.picture_type 3 t in
        record { is = rw (and_yes (eqb g.picture_type 3) x.motion_forward.is_set e f) h.is }

    pub predict-backward : x.motion_forward.is_set ≡ false
        → RefinesPrediction (predict_from g address g.stores.bwd x.motion_backward false l) r l₁ → Any r l₁
    unfolding predict
    predict-backward f h =
        let e = eq-eqb g.picture_type 3 t in
        record { is = rw (and_no (eqb g.picture_type 3) x.motion_forward.is_set (inr f), e) h.is }
