-- What the code gives for a turn (src/outcome.rt) in the definitions' terms.
use Rattle.std.specs.Prelude.{◌≡◌, List, ℕ, ℤ, Option, Some, None}
use Rattle.laws.specs.Loops.{Step, continue, finish}
use Rattle.playback.specs.declared.state.State.{State}
use Rattle.picture_state.specs.Stop.{mark_number}
use Rattle.playback.specs.declared.outcome.Outcome.TheVariants.{Refused}
use Rattle.playback.specs.declared.outcome.StepEnd.{StepEnd}
use Rattle.playback.specs.declared.outcome.StepEnd.TheVariants.{Continues, Finished, Aborted}
use Rattle.playback.specs.declared.outcome.StepResult.{StepResult}
use Rattle.playback.specs.Display as Display
use Rattle.playback.specs.Steps.{DecodingState, decoding_state, LoopEnd, finished, aborted}

-- the end of the turns, with this state, these coefficients and this store; a stop mark ends them with the store alone. As in `pictures`, none is left
-- behind the last
abbrev pub end_of : StepEnd → State → List ℤ → List ℕ → LoopEnd
end_of Continues x c l = finished (Refused 7) (decoding_state x c l)
end_of (Finished o) x c l = finished o (decoding_state x c l)
end_of (Aborted m) x c l = aborted (mark_number m) l

-- and the end of one turn
abbrev pub step_end_of : StepEnd → State → List ℤ → List ℕ → Step DecodingState LoopEnd
step_end_of Continues x c l = continue (decoding_state x c l)
step_end_of (Finished o) x c l = finish (end_of (Finished o) x c l)
step_end_of (Aborted m) x c l = finish (end_of (Aborted m) x c l)

abbrev pub step_of : StepResult → List ℤ → List ℕ → Step DecodingState LoopEnd
step_of t c l = step_end_of t.end t.state c l

-- a step of the state alone is not aborted
abbrev pub state_step : StepEnd → State → Option (Step State Display.OutcomeState)
state_step Continues x = Some (continue x)
state_step (Finished o) x = Some (finish (Display.outcome_state o x))
state_step (Aborted m) x = None

-- t is the step x of the state alone
pub record RefinesStep (t : StepResult) (x : Step State Display.OutcomeState) : Type 0 where
  pub is : state_step t.end t.state ≡ Some x
