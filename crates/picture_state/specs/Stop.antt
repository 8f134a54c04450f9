-- RULES Q8, Q9: why a picture ends a call early, and what it leaves.
use Rattle.std.specs.Prelude.{List, ℕ, ℤ, Option, Some, None}
use Rattle.prediction.specs.declared.planes.Plane.{Plane}
use Rattle.picture_state.specs.declared.types.StopMark.{StopMark}
use Rattle.picture_state.specs.declared.types.StopMark.TheVariants.{DcOutside, PredictionOutside}

-- the macroblock by its address, and what is outside in it
pub data Cause : Type 0 where
  -- RULES Q8: the DC value of the block with this number, 0 to 5: predictor and difference
  dc_outside : (address block : ℕ) (predictor difference : ℤ) → Cause
  -- RULES Q9: the prediction of a plane by h and v, in half samples of that plane
  prediction_outside : (address : ℕ) (plane : Plane) (h v : ℤ) → Cause

-- RULES Q8, Q9: the error code (RULES: number)
abbrev pub error_code : Cause → ℕ
error_code (dc_outside address block predictor difference) = 8
error_code (prediction_outside address plane h v) = 9

-- RULES Q8, Q9: the number of a mark of the code, and 0 where there is none
abbrev pub mark_number : StopMark → ℕ
mark_number DcOutside = 8
mark_number PredictionOutside = 9

abbrev pub stop_number : Option StopMark → ℕ
stop_number None = 0
stop_number (Some m) = mark_number m

-- the cause, and the store as it then is. The record is not part of it: after 8 and 9 it is the one passed in
pub record Stop : Type 0 where
  pub cause : Cause
  pub store : List ℕ

abbrev pub stop : Cause → List ℕ → Stop
stop c l = record { cause = c; store = l }
