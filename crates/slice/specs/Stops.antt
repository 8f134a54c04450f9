-- RULES Q8, Q9: where a slice ends a call.
use Rattle.std.specs.Prelude.{◌≡◌, true, List, ℕ, suc}
use Rattle.laws.specs.Loops.{continue}
use Rattle.bits.specs.Programs.{RunResult, run, bits, stream_fuel}
use Rattle.picture_state.specs.declared.types.{Context.Context, Matrices.Matrices}
use Rattle.picture_state.specs.State.{SliceState, with_slice}
use Rattle.picture_state.specs.Stop.{Stop}
use Rattle.macroblock.specs.Stops.{MacroblockStop}
use Rattle.slice.specs.Slices.{SliceLoopState, slice_loop_state, extra, slice_step, slice_start}

-- RULES 7.6: of the next n macroblocks the first stops, or it goes on and a later one stops
pub data MacroblocksStop (g : Context) (m : Matrices) (s : List ℕ) (e : Stop) : ℕ → SliceLoopState → ℕ → Type 0 where
  here : {n : ℕ} {x : SliceLoopState} {a : ℕ} → MacroblockStop g m x.slice_state s a e x.first → MacroblocksStop g m s e (suc n) x a
  later : {n : ℕ} {x y : SliceLoopState} {a b : ℕ} → run (slice_step g m x) s a ≡ record { value = continue y; at = b } → MacroblocksStop g m s e n y b
      → MacroblocksStop g m s e (suc n) x a

-- RULES 7.5: what a slice reads from the place a on, before its macroblocks
abbrev pub scale_at : List ℕ → ℕ → RunResult ℕ
scale_at s a = run (bits 5) s a

abbrev pub extra_at : List ℕ → ℕ → RunResult (Unit {0})
extra_at s a = run extra s (scale_at s a).at

-- RULES 7.5, 7.6: a macroblock of the slice with this number stops
abbrev pub SliceStop : Context → Matrices → ℕ → SliceState → List ℕ → ℕ → Stop → Type 0
SliceStop g m number w s a e =
    MacroblocksStop g m s e stream_fuel (slice_loop_state true (with_slice (slice_start g number (scale_at s a).value w.slice) w)) (extra_at s a).at
