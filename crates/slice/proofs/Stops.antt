-- RULES Q8, Q9: a slice ends a call exactly where one of its macroblocks does. Assumes nothing.
use mathlib.Core.Path.{◌≡◌, refl, sym, ap, subst, ◌∙◌}
use mathlib.Core.Bool.{true}
use mathlib.Core.List.{List}
use Prim.Native.Nat.{ℕ, zero, suc}
use Rattle.laws.specs.Loops.{Step, continue, finish}
use Rattle.bits.specs.Programs.{Prog, RunResult, run, bits, non_zero, loop, continue_with, stream_fuel}
use Rattle.bits.proofs.Programs.{run_bind}
use Rattle.bits.proofs.Gives.{Gives, OnStep, g-done, g_any, g-bind, g_if}
use Rattle.bits.proofs.Rules.{loop_suc}
use Rattle.picture_state.specs.declared.types.{Context.Context, Matrices.Matrices}
use Rattle.picture_state.specs.State.{SliceState, with_slice}
use Rattle.picture_state.specs.Result.{Result, ok, error}
use Rattle.picture_state.specs.Stop.{Stop}
use Rattle.picture_state.proofs.Results.{error-is_not-ok, error_injective}
use Rattle.picture_state.proofs.Runs.{finish_injective}
use Rattle.picture_state.proofs.Exits.{OnResult}
use Rattle.macroblock.specs.Macroblocks.{macroblock}
use Rattle.macroblock.specs.Stops.{MacroblockStop}
use Rattle.macroblock.proofs.Stops.{macroblock-stopped, macroblock-stops}
use Rattle.slice.specs.Slices.{SliceLoopState, slice_loop_state, is_last, extra, after_macroblock, slice_step, slice_start, slice}
use Rattle.slice.specs.Stops.{MacroblocksStop, here, later, scale_at, extra_at, SliceStop}

-- a step or its value is no error
abbrev pub NoError : {S A : Type 0} → Step S (Result Stop A) → Type 0
NoError = OnStep (λ y. Unit {0}) (OnResult (λ x. Unit {0}) (λ e. ⊥))

module _ (g : Context) (m : Matrices) (s : List ℕ) where
  past-ok : (w : SliceState) → Gives s NoError (after_macroblock g (ok w))
  unfolding after_macroblock
  past-ok w =
      g_if (is_last g w) (λ q. g-done tt) (λ q. g-bind _ (g_any (non_zero 23)) (λ more u. g_if more (λ q. g-done tt) (λ q. g-done tt)))

  module _ (x : SliceLoopState) (a : ℕ) where
    abbrev read : RunResult (Result Stop SliceState)
    read = run (macroblock g m x.first x.slice_state) s a

    step_run : (run (slice_step g m x) s a).value ≡ (run (after_macroblock g read.value) s read.at).value
    unfolding slice_step
    step_run =
        ap (λ (o : RunResult (Step SliceLoopState (Result Stop SliceState))). o.value)
        (run_bind (macroblock g m x.first x.slice_state) (after_macroblock g) s a)

    step-stopped : {e : Stop} → (run (slice_step g m x) s a).value ≡ finish (error e) → MacroblockStop g m x.slice_state s a e x.first
    unfolding after_macroblock run
    step-stopped {e} h = go read.value refl (sym step_run ∙ h)
      where
        go : (v : Result Stop SliceState) → read.value ≡ v → (run (after_macroblock g v) s read.at).value ≡ finish (error e)
            → MacroblockStop g m x.slice_state s a e x.first
        go (ok w) q k = let z : ⊥ = subst NoError k ((past-ok w).value read.at) in absurd z
        go (error d) q k =
            macroblock-stopped g m x.slice_state s a x.first (q ∙ ap error (error_injective (finish_injective k)))

    step-stops : {e : Stop} → MacroblockStop g m x.slice_state s a e x.first → (run (slice_step g m x) s a).value ≡ finish (error e)
    unfolding after_macroblock run
    step-stops k =
        step_run
        ∙ ap (λ (v : Result Stop SliceState). (run (after_macroblock g v) s read.at).value) (macroblock-stops g m x.slice_state s a x.first k)

  module _ (d : SliceState) where
    abbrev looped : ℕ → SliceLoopState → Prog (Result Stop SliceState)
    looped n = loop n (slice_step g m) (ok d)

    -- behind a step
    abbrev on : ℕ → RunResult (Step SliceLoopState (Result Stop SliceState)) → Result Stop SliceState
    on n o = (run (continue_with (looped n) o.value) s o.at).value

    looped-run : (n : ℕ) (x : SliceLoopState) (a : ℕ) → (run (looped (suc n) x) s a).value ≡ on n (run (slice_step g m x) s a)
    looped-run n x a = ap (λ (o : RunResult (Result Stop SliceState)). o.value) (loop_suc (suc n) n (slice_step g m) (ok d) x s a refl)

    looped-stopped : {e : Stop} (n : ℕ) (x : SliceLoopState) (a : ℕ) → (run (looped n x) s a).value ≡ error e → MacroblocksStop g m s e n x a
    unfolding loop run
    looped-stopped zero x a h = absurd (error-is_not-ok (sym h))
    looped-stopped {e} (suc n) x a h =
        go (run (slice_step g m x) s a).value (run (slice_step g m x) s a).at refl (sym (looped-run n x a) ∙ h) (λ y b k. looped-stopped n y b k)
      where
        go : (t : Step SliceLoopState (Result Stop SliceState)) (b : ℕ) → run (slice_step g m x) s a ≡ record { value = t; at = b }
            → (run (continue_with (looped n) t) s b).value ≡ error e
            → ((y : SliceLoopState) (b : ℕ) → (run (looped n y) s b).value ≡ error e → MacroblocksStop g m s e n y b) → MacroblocksStop g m s e (suc n) x a
        go (continue y) b q k again = later q (again y b k)
        go (finish v) b q k again =
            here (step-stopped x a (ap (λ (o : RunResult (Step SliceLoopState (Result Stop SliceState))). o.value) q ∙ ap finish k))

    looped-stops : {e : Stop} {n : ℕ} {x : SliceLoopState} {a : ℕ} → MacroblocksStop g m s e n x a → (run (looped n x) s a).value ≡ error e
    unfolding run
    looped-stops (here {n} {x} {a} k) =
        looped-run n x a
        ∙ ap (λ (t : Step SliceLoopState (Result Stop SliceState)). (run (continue_with (looped n) t) s (run (slice_step g m x) s a).at).value)
        (step-stops x a k)
    looped-stops (later {n} {x} {y} {a} {b} q k) = looped-run n x a ∙ ap (on n) q ∙ looped-stops k

module _ (g : Context) (m : Matrices) (number : ℕ) (w : SliceState) (s : List ℕ) (a : ℕ) where
  slice-run : (run (slice g m number w) s a).value
      ≡ (run (loop stream_fuel (slice_step g m) (ok w) (slice_loop_state true (with_slice (slice_start g number (scale_at s a).value w.slice) w))) s
      (extra_at s a).at).value
  unfolding slice
  slice-run =
      ap (λ (o : RunResult (Result Stop SliceState)). o.value) (run_bind (bits 5) _ s a ∙ run_bind extra _ s (scale_at s a).at)

  -- RULES Q8, Q9
  pub slice-stopped : {e : Stop} → (run (slice g m number w) s a).value ≡ error e → SliceStop g m number w s a e
  slice-stopped h = looped-stopped g m s w stream_fuel _ (extra_at s a).at (sym slice-run ∙ h)

  pub slice-stops : {e : Stop} → SliceStop g m number w s a e → (run (slice g m number w) s a).value ≡ error e
  slice-stops k = slice-run ∙ looped-stops g m s w k
