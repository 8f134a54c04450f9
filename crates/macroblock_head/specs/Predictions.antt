-- RULES 7.17, 7.18, 6.10: the prediction of a macroblock, and of those that are skipped. Nothing is read.
use Rattle.std.specs.Prelude.{Bool, true, false, ◌&&◌, List, ℕ, zero, suc, ◌+◌, eqb}
use Rattle.bits.specs.Programs.{when◌then◌else◌}
use Rattle.std.specs.Prelude.{Ok, Err}
use Rattle.prediction.specs.Predict.{macroblock_at, in_halves}
use Rattle.prediction.specs.Planes.{PlaneAfter, predicted_planes}
use Rattle.picture_state.specs.declared.types.{Context.Context, Motion.Motion, Slice.Slice}
use Rattle.picture_state.specs.Result.{Result, ok, error, and_then}
use Rattle.picture_state.specs.Stop.{Stop, stop, prediction_outside}

-- RULES Q9: a prediction that is refused stops at its plane
unfoldable pub unless_refused : ℕ → PlaneAfter → Result Stop (List ℕ)
unless_refused address o = elim o.answer [
  | Ok _ ↦ ok o.store
  | Err _ ↦ error (stop (prediction_outside address o.plane o.h o.v) o.store)
]

-- RULES 6.2, 6.10: the planes of the current store, from the store number k by the vector m
unfoldable pub predict_from : Context → ℕ → ℕ → Motion → Bool → List ℕ → Result Stop (List ℕ)
predict_from g address k m interpolate l =
    let h = in_halves m.full_px m.h in
    let v = in_halves m.full_px m.v in
    unless_refused address
    (predicted_planes (macroblock_at g.sizes.mb_width g.sizes.mb_height address) k g.stores.cur h v interpolate l)

-- RULES 7.17: both directions of a B picture, where the forward flag is set
unfoldable pub predict_both : Context → ℕ → Slice → List ℕ → Result Stop (List ℕ)
predict_both g address s l =
    and_then (predict_from g address g.stores.fwd s.motion_forward false l) λ l₁.
    when s.motion_backward.is_set then predict_from g address g.stores.bwd s.motion_backward true l₁ else ok l₁

-- RULES 7.17, 7.18 (11172-2, 2.4.4.2, 2.4.4.3): by the picture's type and the two flags
unfoldable pub predict : Context → ℕ → Slice → List ℕ → Result Stop (List ℕ)
predict g address s l =
    when eqb g.picture_type 3 && s.motion_forward.is_set then predict_both g address s l
    else when eqb g.picture_type 3 then predict_from g address g.stores.bwd s.motion_backward false l
    else predict_from g address g.stores.fwd s.motion_forward false l

-- RULES 7.11: n skipped macroblocks, the first at this address
unfoldable pub predict_skipped : Context → Slice → ℕ → ℕ → List ℕ → Result Stop (List ℕ)
predict_skipped g s address zero l = ok l
predict_skipped g s address (suc n) l = and_then (predict g address s l) (predict_skipped g s (address + 1) n)
