-- RULES 8.5, 8.8 to 8.11: what is handed out, and its time.
use Rattle.std.specs.Prelude.{Bool, true, false, ◌&&◌, ◌||◌, List, ℕ, ◌+◌, eqb, pos, Float}
use Rattle.std.specs.Float.{binary64}
use Rattle.std.specs.Float.Ieee.{div, of_int}
use Rattle.laws.specs.Loops.{Step, continue, finish}
use Rattle.bits.specs.Programs.{when◌then◌else◌}
use Rattle.playback.specs.declared.outcome.Outcome.{Outcome}
use Rattle.playback.specs.declared.outcome.Outcome.TheVariants.{Picture, Refused}
use Rattle.playback.specs.declared.state.State.{State}
use Rattle.playback.specs.State.{position, has_reference_frame, frames, next_time, shown_picture, clock_as, has_reference_frame_as}
use Rattle.playback.specs.Search.{has_ended}

-- the result of a call: its outcome, and the state that it leaves
pub record OutcomeState : Type 0 where
  pub outcome : Outcome
  pub state : State

abbrev pub outcome_state : Outcome → State → OutcomeState
outcome_state o x = record { outcome = o; state = x }

-- RULES 8.9: the time of n pictures at a rate, rounded once
unfoldable pub time_of : ℕ → Float → Float
time_of n rate = div binary64 (of_int binary64 (pos n)) rate

-- RULES 8.10: the next time is shown, the count goes up by 1, and the next time follows from it
unfoldable pub counted : State → State
counted x =
    let n = frames x + 1 in
    clock_as (record {
      framerate = x.display.clock.framerate;
      pixel_aspect_ratio = x.display.clock.pixel_aspect_ratio;
      time = time_of n x.display.clock.framerate;
      last_frame_time = next_time x;
    }) n x

-- the store number k is output (RULES S.7: handed out) with the time that is then shown
unfoldable pub output_picture : ℕ → State → OutcomeState
output_picture k x = outcome_state (Picture (shown_picture k (counted x))) (counted x)

-- RULES 8.5: after a picture, decoded or not
unfoldable pub shown : State → Step State OutcomeState
shown x =
    when eqb x.picture.picture_type 3 then finish (output_picture x.picture.stores.cur x)
    else when has_reference_frame x then finish (output_picture x.picture.stores.fwd x)
    else continue (has_reference_frame_as true x)

-- RULES 8.8: the last type is I or P
abbrev pub is_reference : State → Bool
is_reference x = eqb x.picture.picture_type 1 || eqb x.picture.picture_type 2

-- RULES 8.8: a picture is held, the bits have ended, and the last type is I or P
abbrev pub is_waiting : List ℕ → State → Bool
is_waiting s x = has_reference_frame x && has_ended s (position x) && is_reference x

-- RULES 8.8, 8.11: no picture is found: the held one is flushed, with the time shown before, or the answer is 7
unfoldable pub flushed : List ℕ → State → OutcomeState
flushed s x =
    when is_waiting s x then outcome_state (Picture (shown_picture x.picture.stores.bwd (has_reference_frame_as false x))) (has_reference_frame_as false x)
    else outcome_state (Refused 7) x
