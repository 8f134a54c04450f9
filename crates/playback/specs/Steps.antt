-- RULES 8.2 to 8.8: one turn of the loop in `decode`, and the loop.
use Rattle.std.specs.Prelude.{List, ℕ, ℤ, negsuc}
use Rattle.laws.specs.Loops.{Step, continue, finish, iterate}
use Rattle.bits.specs.Programs.{RunResult, run, eq_z, when◌then◌else◌}
use Rattle.picture_state.specs.declared.types.{Matrices.Matrices, Sizes.Sizes}
use Rattle.picture_state.specs.Result.{Result, ok, error}
use Rattle.picture_state.specs.Stop.{Stop, error_code}
use Rattle.picture.specs.Pictures.{PictureState, picture_state, picture}
use Rattle.playback.specs.declared.outcome.Outcome.{Outcome}
use Rattle.playback.specs.declared.outcome.Outcome.TheVariants.{Refused}
use Rattle.playback.specs.declared.state.State.{State}
use Rattle.playback.specs.State.{position, start_code, state_after_picture}
use Rattle.playback.specs.Search.{next_picture, is_followed}
use Rattle.playback.specs.Display.{OutcomeState, shown, flushed}

-- between steps (turns): the state, block_data (the left-over coefficients) and the store
pub record DecodingState : Type 0 where
  pub state : State
  pub block_data : List ℤ
  pub store : List ℕ

abbrev pub decoding_state : State → List ℤ → List ℕ → DecodingState
decoding_state x c l = record { state = x; block_data = c; store = l }

-- with another state
abbrev pub with_state : State → DecodingState → DecodingState
with_state y x = decoding_state y x.block_data x.store

-- the end of the loop: an outcome with what it leaves, or an error code (RULES: number) with the store
pub data LoopEnd : Type 0 where
  finished : Outcome → DecodingState → LoopEnd
  aborted : ℕ → List ℕ → LoopEnd

-- a step of the state alone, among these coefficients and in this store
abbrev pub with_store : List ℤ → List ℕ → Step State OutcomeState → Step DecodingState LoopEnd
with_store c l (continue x) = continue (decoding_state x c l)
with_store c l (finish g) = finish (finished g.outcome (decoding_state g.state c l))

-- what a picture changes: its state, block_data (the left-over coefficients) and the store
abbrev pub picture_state_of : DecodingState → PictureState
picture_state_of x = picture_state x.state.picture x.block_data x.store

-- RULES Q8, Q9, 8.5: what a picture's run gives; one that stops gives the number of its cause
unfoldable pub after_picture : State → RunResult (Result Stop PictureState) → Step DecodingState LoopEnd
after_picture x o = elim o.value [
  | ok f ↦ with_store f.block_data f.store (shown (state_after_picture f o.at x))
  | error e ↦ finish (aborted (error_code e.cause) e.store)
]

-- the run of the picture at the state's place
abbrev pub picture_run : List ℕ → Sizes → Matrices → DecodingState → RunResult (Result Stop PictureState)
picture_run s z m x = run (picture z m (picture_state_of x)) s (position x.state)

-- that picture is decoded
unfoldable pub decoded : List ℕ → Sizes → Matrices → DecodingState → Step DecodingState LoopEnd
decoded s z m x = after_picture x.state (picture_run s z m x)

-- behind the search
unfoldable pub searched : List ℕ → Sizes → Matrices → DecodingState → Step DecodingState LoopEnd
searched s z m x =
    when eq_z (start_code x.state) (negsuc 0) then with_store x.block_data x.store (finish (flushed s x.state))
    else when is_followed s (position x.state) then decoded s z m x else finish (finished (Refused 7) x)

-- the search, of a turn
abbrev pub after_picture_search : List ℕ → DecodingState → DecodingState
after_picture_search s x = with_state (next_picture s x.state) x

-- RULES 8.2 to 8.8: a turn
unfoldable pub picture_step : List ℕ → Sizes → Matrices → DecodingState → Step DecodingState LoopEnd
picture_step s z m x = searched s z m (after_picture_search s x)

-- RULES 8.7: at most two turns; the third case does not come up
unfoldable pub pictures : List ℕ → Sizes → Matrices → DecodingState → LoopEnd
pictures s z m x = iterate 2 (picture_step s z m) (λ y. finished (Refused 7) y) x
