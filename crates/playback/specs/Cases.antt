-- RULES 8.2 to 8.8: the ways out of a turn. x is what the turn has behind its search.
use Rattle.std.specs.Prelude.{◌≡◌, Bool, true, false, not, ◌&&◌, List, ℕ, eqb, negsuc}
use Rattle.laws.specs.Loops.{Step, continue, finish}
use Rattle.bits.specs.Programs.{eq_z}
use Rattle.picture_state.specs.declared.types.{Matrices.Matrices, Sizes.Sizes}
use Rattle.picture_state.specs.Result.{ok, error}
use Rattle.picture_state.specs.Stop.{Stop, error_code}
use Rattle.picture.specs.Pictures.{PictureState}
use Rattle.playback.specs.declared.outcome.Shown.{Shown}
use Rattle.playback.specs.declared.outcome.Outcome.TheVariants.{Picture, Refused}
use Rattle.playback.specs.declared.state.State.{State}
use Rattle.playback.specs.State.{position, start_code, has_reference_frame, shown_picture, state_after_picture, has_reference_frame_as}
use Rattle.playback.specs.Search.{is_followed}
use Rattle.playback.specs.Display.{counted, is_waiting}
use Rattle.playback.specs.Steps.{DecodingState, decoding_state, with_state, LoopEnd, finished, aborted, picture_run}

-- RULES 8.2, 8.3: a picture can be decoded: its start code is there, and another one or the end of the bits behind it
abbrev pub is_picture_ready : List ℕ → State → Bool
is_picture_ready s x = not (eq_z (start_code x) (negsuc 0)) && is_followed s (position x)

-- RULES 8.8: none is there, and the held picture is handed out
abbrev pub is_flush : List ℕ → State → Bool
is_flush s x = eq_z (start_code x) (negsuc 0) && is_waiting s x

-- the picture is read to its end, leaves f and ends at the place a
abbrev pub ReadsPicture : List ℕ → Sizes → Matrices → DecodingState → PictureState → ℕ → Type 0
ReadsPicture s z m x f a = picture_run s z m x ≡ record { value = ok f; at = a }

-- what it leaves, with this state
abbrev pub state_left_by : PictureState → State → DecodingState
state_left_by f y = decoding_state y f.block_data f.store

-- the state behind a picture that is handed out
abbrev pub counted_after : PictureState → ℕ → DecodingState → State
counted_after f a x = counted (state_after_picture f a x.state)

abbrev pub is_b : PictureState → Bool
is_b f = eqb f.picture.picture_type 3

-- RULES 8.5, 8.8: what a turn hands out, and what it leaves
pub data Outputs (s : List ℕ) (z : Sizes) (m : Matrices) (x : DecodingState) : Shown → DecodingState → Type 0 where
  -- a B picture, at once
  b-picture : {f : PictureState} {a : ℕ} → is_picture_ready s x.state ≡ true → ReadsPicture s z m x f a → is_b f ≡ true
      → Outputs s z m x (shown_picture f.picture.stores.cur (counted_after f a x)) (state_left_by f (counted_after f a x))
  -- the reference picture that was held, once the next one is read
  reference-picture : {f : PictureState} {a : ℕ} → is_picture_ready s x.state ≡ true → ReadsPicture s z m x f a → is_b f ≡ false
      → has_reference_frame x.state ≡ true
      → Outputs s z m x (shown_picture f.picture.stores.fwd (counted_after f a x)) (state_left_by f (counted_after f a x))
  -- the one that is held at the end of the bits, with the time shown before
  flushed-picture : is_picture_ready s x.state ≡ false → is_flush s x.state ≡ true
      → Outputs s z m x (shown_picture x.state.picture.stores.bwd (has_reference_frame_as false x.state))
      (with_state (has_reference_frame_as false x.state) x)

-- all ways out of a turn
pub data StepCase (s : List ℕ) (z : Sizes) (m : Matrices) (x : DecodingState) : Step DecodingState LoopEnd → Type 0 where
  outputs : {i : Shown} {y : DecodingState} → Outputs s z m x i y → StepCase s z m x (finish (finished (Picture i) y))
  -- the first reference picture is held
  keeps-reference : {f : PictureState} {a : ℕ} → is_picture_ready s x.state ≡ true → ReadsPicture s z m x f a → is_b f ≡ false
      → has_reference_frame x.state ≡ false
      → StepCase s z m x (continue (state_left_by f (has_reference_frame_as true (state_after_picture f a x.state))))
  -- RULES Q8, Q9: the picture leaves early
  aborts : {e : Stop} {a : ℕ} → is_picture_ready s x.state ≡ true → picture_run s z m x ≡ record { value = error e; at = a }
      → StepCase s z m x (finish (aborted (error_code e.cause) e.store))
  -- RULES Q7: no picture to decode, and none to flush
  no-picture : is_picture_ready s x.state ≡ false → is_flush s x.state ≡ false → StepCase s z m x (finish (finished (Refused 7) x))
