-- The steps of the state alone, one law for each way out. Assumes nothing.
use mathlib.Core.Path.{◌≡◌, ap, ◌∙◌}
use mathlib.Core.Bool.{true, false}
use mathlib.Core.List.{List}
use Prim.Native.Nat.{ℕ}
use Rattle.std.specs.Prelude.{Some}
use lib.Dec.{eqb}
use lib.IntN.{ℤ}
use Rattle.laws.specs.Loops.{Step, continue, finish}
use Rattle.playback.specs.declared.outcome.Outcome.TheVariants.{Picture, Refused}
use Rattle.playback.specs.declared.outcome.StepEnd.{StepEnd}
use Rattle.playback.specs.declared.outcome.StepEnd.TheVariants.{Continues, Finished, Aborted}
use Rattle.playback.specs.declared.outcome.StepResult.{StepResult}
use Rattle.playback.specs.declared.state.State.{State}
use Rattle.playback.specs.State.{has_reference_frame, shown_picture, has_reference_frame_as}
use Rattle.playback.specs.Display.{OutcomeState, outcome_state, is_waiting, output_picture, shown, flushed}
use Rattle.playback.specs.Steps as Steps
use Rattle.playback.specs.StepResults.{step_end_of, step_of, state_step, RefinesStep}

-- a step is a turn among the coefficients and in the store that it leaves alone
pub step-of : {t : StepResult} {x : Step State OutcomeState} (c : List ℤ) (l : List ℕ) → RefinesStep t x → step_of t c l ≡ Steps.with_store c l x
step-of {t} {x} c l k = go t.end k.is
  where
    go : (e : StepEnd) → state_step e t.state ≡ Some x → step_end_of e t.state c l ≡ Steps.with_store c l x
    go Continues h = let e : ◌≡◌ {A = Step State OutcomeState} (continue t.state) x = cc in ap (Steps.with_store c l) e
    go (Finished o) h = let e : finish (outcome_state o t.state) ≡ x = cc in ap (Steps.with_store c l) e
    go (Aborted m) h = absurd (cc)

-- a step that equals another
pub steps_as : {t : StepResult} {x y : Step State OutcomeState} → RefinesStep t x → x ≡ y → RefinesStep t y
steps_as k e = record { is = k.is ∙ ap Some e }

module _ (x : State) where
  pub shown_b : x.picture.picture_type ≡ 3 → ◌≡◌ {A = Step State OutcomeState} (finish (output_picture x.picture.stores.cur x)) (shown x)
  unfolding shown
  shown_b e = rw e

  module _ (g : eqb x.picture.picture_type 3 ≡ false) where
    pub shown-held : has_reference_frame x ≡ true → ◌≡◌ {A = Step State OutcomeState} (finish (output_picture x.picture.stores.fwd x)) (shown x)
    unfolding shown
    shown-held e = rw (g, e)

    pub shown-first : has_reference_frame x ≡ false → ◌≡◌ {A = Step State OutcomeState} (continue (has_reference_frame_as true x)) (shown x)
    unfolding shown
    shown-first e = rw (g, e)

module _ (s : List ℕ) (x : State) where
  pub flush-yes : is_waiting s x ≡ true
      → outcome_state (Picture (shown_picture x.picture.stores.bwd (has_reference_frame_as false x))) (has_reference_frame_as false x) ≡ flushed s x
  unfolding flushed
  flush-yes e = rw e

  pub flush-no : is_waiting s x ≡ false → outcome_state (Refused 7) x ≡ flushed s x
  unfolding flushed
  flush-no e = rw e
