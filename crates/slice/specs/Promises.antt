-- What the functions of a slice say.
use Rattle.std.specs.Prelude.{◌≡◌, Bool, true, false, List, ℕ, ℤ, pos, ◌+ℤ◌}
use Rattle.std.specs.Int.Signed.{le_z}
use Rattle.laws.specs.Loops.{Step, continue, finish}
use Rattle.bits.specs.declared.reader.Reader.{Reader}
use Rattle.bits.specs.Programs.{Prog, loop, stream_fuel}
use Rattle.picture_state.specs.declared.types.{Context.Context, Matrices.Matrices, Progress.Progress, Slice.Slice}
use Rattle.picture_state.specs.State.{SliceState, slice_state}
use Rattle.picture_state.specs.Result.{Result}
use Rattle.picture_state.specs.Stop.{Stop}
use Rattle.slice.specs.Slices.{SliceLoopState, slice_loop_state, after_macroblock, slice_step}
use Rattle.picture_state.specs.Promises.{Exit, result_of, numbered, numbered_step, RunsAs, RefinesInSlice}

-- what a slice does behind a macroblock
abbrev pub slice_step_of : Bool → ℕ → SliceState → List ℕ → Step SliceLoopState (Result Exit SliceState)
slice_step_of true n w l = continue (slice_loop_state false w)
slice_step_of false n w l = finish (result_of n w l)

-- the macroblocks of a slice; the result w₀ that the loop would give with its fuel spent does not matter
abbrev pub macroblocks : Context → Matrices → Result Stop SliceState → SliceState → Prog (Result Stop SliceState)
macroblocks g m w₀ w = loop stream_fuel (slice_step g m) w₀ (slice_loop_state true w)

-- whether a slice goes on behind a macroblock, whatever coefficients and store there are
pub record RefinesAfterMacroblock (g : Context) (s : List ℕ) (reader : Reader) (x : Slice) (n : ℕ) (more : Bool) : Type 0 where
  pub runs : (w : Result Stop SliceState) (left : List ℤ) (store : List ℕ) → numbered w ≡ result_of n (slice_state x left store) store
      → RunsAs numbered_step (after_macroblock g w) s reader (slice_step_of more n (slice_state x left store) store) reader
  pub later : more ≡ true → le_z (pos g.sizes.mb_size) (x.macroblock_address +ℤ pos 1) ≡ false

-- the macroblocks of a slice
pub record RefinesMacroblocks (p : Result Stop SliceState → Prog (Result Stop SliceState)) (g : Context) (s : List ℕ) (reader : Reader) (r : Progress)
    (left : List ℤ) (store : List ℕ) : Type 0 where
  pub passed : (w₀ : Result Stop SliceState) → RefinesInSlice (p w₀) g s reader r left store
