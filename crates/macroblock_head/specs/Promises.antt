-- What the functions of a macroblock's head and prediction ask and say.
use Rattle.std.specs.Prelude.{◌≡◌, List, ℕ, Ok, Err}
use Rattle.prediction.specs.Planes.{Predicted}
use Rattle.picture_state.specs.declared.types.Slice.{Slice}
use Rattle.picture_state.specs.Possible.{PossibleMotion}
use Rattle.picture_state.specs.Result.{Result, ok, error}
use Rattle.picture_state.specs.Stop.{Stop}
use Rattle.picture_state.specs.Promises.{Exit, exit, numbered}

-- a prediction's answer, RULES Q9
abbrev pub prediction_result : Predicted → List ℕ → Result Exit (List ℕ)
prediction_result (Ok _) l = ok l
prediction_result (Err _) l = error (exit 9 l)

-- RULES Q2: both vectors of a state
pub record PossibleMotions (x : Slice) : Type 0 where
  pub forward : PossibleMotion x.motion_forward
  pub backward : PossibleMotion x.motion_backward

-- a step that reads nothing goes as the answer and the store say
pub record RefinesPrediction (w : Result Stop (List ℕ)) (r : Predicted) (store : List ℕ) : Type 0 where
  pub is : numbered w ≡ prediction_result r store
