-- RULES Q9, 6.4 to 6.10: where a prediction is refused, and what it then leaves.
use Rattle.std.specs.Prelude.{◌≡◌, Bool, true, false, List, ℕ, ◌+◌, ◌<◌, ℤ, pos, nat_abs}
use Rattle.std.specs.Int.Signed.{le_z}
use Rattle.prediction.specs.declared.position.{Macroblock.Macroblock, BlockPosition.BlockPosition}
use Rattle.prediction.specs.declared.planes.Plane.TheVariants.{Y, Cr}
use Rattle.prediction.specs.Predict.{macroblock_at, block_position_of, start, max_address, reach, in_halves, chroma}
use Rattle.prediction.specs.Planes.{block_size, predict_plane_from_store}
use Rattle.picture_state.specs.declared.types.{Context.Context, Motion.Motion, Slice.Slice}
use Rattle.picture_state.specs.Result.{ok}
use Rattle.picture_state.specs.Stop.{prediction_outside, Stop, stop}
use Rattle.macroblock_head.specs.Predictions.{predict_from, predict_skipped}

-- RULES Q9: a block is predicted by h and v: its start is in 0..max_address, and it reaches further
pub record ReachesOut (p : BlockPosition) (h v : ℤ) : Type 0 where
  pub from : le_z (pos 0) (start p h v) ≡ true
  pub to : le_z (start p h v) (pos (max_address p)) ≡ true
  pub past : max_address p < nat_abs (start p h v) + reach p h v

-- RULES 6.10, Q9: the first plane that reaches out ends the prediction of the macroblock with this address: Y, with nothing written, or Cr, with Y
-- written. Cb has the block and the vector of Cr
pub data PlaneStop (m : Macroblock) (address from to : ℕ) (h v : ℤ) (interpolate : Bool) (l : List ℕ) : Stop → Type 0 where
  in-y : ReachesOut (block_position_of m (block_size Y)) h v → PlaneStop m address from to h v interpolate l (stop (prediction_outside address Y h v) l)
  in-cr : (ReachesOut (block_position_of m (block_size Y)) h v → ⊥) → ReachesOut (block_position_of m (block_size Cr)) (chroma h) (chroma v)
      → PlaneStop m address from to h v interpolate l
      (stop (prediction_outside address Cr (chroma h) (chroma v)) (predict_plane_from_store m from to interpolate Y h v l).store)

-- the same of a prediction from the store number k by the vector x
abbrev pub DirectionStop : Context → ℕ → ℕ → Motion → Bool → List ℕ → Stop → Type 0
DirectionStop g address k x interpolate l e =
    PlaneStop (macroblock_at g.sizes.mb_width g.sizes.mb_height address) address k g.stores.cur
    (in_halves x.full_px x.h) (in_halves x.full_px x.v) interpolate l e

-- RULES 7.17, 7.18: a macroblock's prediction stops in its only direction, or in the second with the first written
pub data PredictionStop (g : Context) (address : ℕ) (x : Slice) (l : List ℕ) (e : Stop) : Type 0 where
  forward : DirectionStop g address g.stores.fwd x.motion_forward false l e → PredictionStop g address x l e
  backward : DirectionStop g address g.stores.bwd x.motion_backward false l e → PredictionStop g address x l e
  second : {l₁ : List ℕ} → predict_from g address g.stores.fwd x.motion_forward false l ≡ ok l₁
      → DirectionStop g address g.stores.bwd x.motion_backward true l₁ e → PredictionStop g address x l e

-- RULES 7.11: of n that are skipped one stops, with those before it written
pub record SkippedStop (g : Context) (x : Slice) (address n : ℕ) (l : List ℕ) (e : Stop) : Type 0 where
  pub before : ℕ
  pub few : before < n
  pub store : List ℕ
  pub written : predict_skipped g x address before l ≡ ok store
  pub stops : PredictionStop g (address + before) x store e
