-- RULES 8.7: a hand-out makes at most two turns.
use mathlib.Core.Path.{◌≡◌, refl, sym, ◌∙◌}
use mathlib.Core.Bool.{Bool, true, false, true≢false, false≢true}
use mathlib.Core.List.{List}
use Prim.Native.Nat.{ℕ}
use lib.IntN.{pos}
use Rattle.laws.specs.Loops.{Step, continue, finish, iterate, finishes}
use Rattle.laws.proofs.Tests.{by-case}
use Rattle.bits.specs.Programs.{eq_z}
use Rattle.picture_state.specs.declared.types.{Matrices.Matrices, Sizes.Sizes}
use Rattle.playback.specs.declared.outcome.Outcome.TheVariants.{Refused}
use Rattle.playback.specs.declared.state.State.{State}
use Rattle.playback.specs.State.{start_code, has_reference_frame}
use Rattle.playback.specs.Search.{ensure_start_code, next_picture}
use Rattle.playback.specs.Steps.{DecodingState, LoopEnd, finished, picture_step, pictures}
use Rattle.playback.specs.Cases.{StepCase, outputs, keeps-reference, aborts, no-picture}
use Rattle.playback.proofs.Cases.{picture-step-is}

-- a turn that goes on has set held
abbrev pub Holds : Step DecodingState LoopEnd → Type 0
Holds (continue y) = has_reference_frame y.state ≡ true
Holds (finish e) = Unit {0}

abbrev pub is_stop : Step DecodingState LoopEnd → Bool
is_stop (continue y) = false
is_stop (finish e) = true

-- a search leaves it as it is
pub next-held : (s : List ℕ) (x : State) → has_reference_frame (next_picture s x) ≡ has_reference_frame x
unfolding ensure_start_code
next-held s x = by-case (λ (y : State). has_reference_frame y ≡ has_reference_frame x) (eq_z (start_code x) (pos 0)) (λ e. refl) (λ e. refl)

module _ (s : List ℕ) (z : Sizes) (m : Matrices) where
  pub goes-held : (x : DecodingState) → Holds (picture_step s z m x)
  goes-held x = go (picture-step-is s z m x)
    where
      go : {y : DecodingState} {t : Step DecodingState LoopEnd} → StepCase s z m y t → Holds t
      go (outputs h) = tt
      go (keeps-reference i r b h) = refl
      go (aborts i r) = tt
      go (no-picture i u) = tt

  -- with held set every turn ends the call
  pub held-stops : (x : DecodingState) → has_reference_frame x.state ≡ true → is_stop (picture_step s z m x) ≡ true
  held-stops x e = go (next-held s x.state ∙ e) (picture-step-is s z m x)
    where
      go : {y : DecodingState} {t : Step DecodingState LoopEnd} → has_reference_frame y.state ≡ true → StepCase s z m y t → is_stop t ≡ true
      go e (outputs h) = refl
      go e (keeps-reference i r b h) = absurd (true≢false (sym e ∙ h))
      go e (aborts i r) = refl
      go e (no-picture i u) = refl

  one : (t : Step DecodingState LoopEnd) → is_stop t ≡ true → elim t [ continue y ↦ finishes 0 (picture_step s z m) y | finish v ↦ true ] ≡ true
  unfolding finishes
  one (continue y) h = h
  one (finish v) h = refl

  two : (t : Step DecodingState LoopEnd) → Holds t → elim t [ continue y ↦ finishes 1 (picture_step s z m) y | finish v ↦ true ] ≡ true
  unfolding finishes
  two (continue y) h = one (picture_step s z m y) (held-stops y h)
  two (finish v) h = refl

  -- one of the first two turns stops
  pub two_steps : (x : DecodingState) → finishes 2 (picture_step s z m) x ≡ true
  unfolding finishes
  two_steps x = two (picture_step s z m x) (goes-held x)

-- ---- a law of the turns, by one of a turn

-- P of what goes on, Q of an end
abbrev pub Each : (DecodingState → Type 0) → (LoopEnd → Type 0) → Step DecodingState LoopEnd → Type 0
Each P Q (continue y) = P y
Each P Q (finish e) = Q e

-- Q holds of the end of the turns, if the first turn has it or leaves P, and a second one that is given P has it
pub by_steps : (s : List ℕ) (z : Sizes) (m : Matrices) (x : DecodingState) (P : DecodingState → Type 0) (R : DecodingState → DecodingState → Type 0)
    (Q : LoopEnd → Type 0)
    → ((t : Step DecodingState LoopEnd) → picture_step s z m x ≡ t → Each P Q t)
    → ((y : DecodingState) → picture_step s z m x ≡ continue y → P y → (t : Step DecodingState LoopEnd) → picture_step s z m y ≡ t → Each (R y) Q t)
    → Q (pictures s z m x)
unfolding pictures iterate
by_steps s z m x P R Q first second = go (picture_step s z m x) refl (goes-held s z m x) (first (picture_step s z m x) refl)
  where
    last : (y : DecodingState) (t : Step DecodingState LoopEnd) → is_stop t ≡ true → Each (R y) Q t
        → Q (elim t [ continue y ↦ finished (Refused 7) y | finish v ↦ v ])
    last y (continue v) i h = absurd (false≢true i)
    last y (finish v) i h = h

    go : (t : Step DecodingState LoopEnd) → picture_step s z m x ≡ t → Holds t → Each P Q t
        → Q (elim t [ continue y ↦ iterate 1 (picture_step s z m) (λ y. finished (Refused 7) y) y | finish v ↦ v ])
    go (continue y) e i h = last y (picture_step s z m y) (held-stops s z m y i) (second y e h (picture_step s z m y) refl)
    go (finish v) e i h = h
