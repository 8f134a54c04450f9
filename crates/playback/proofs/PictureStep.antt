-- A turn and the two turns: one law for each way out. Assumes nothing.
use mathlib.Core.Path.{◌≡◌, refl, ap, sym, ◌∙◌}
use mathlib.Core.Bool.{true, false}
use mathlib.Core.List.{List}
use Prim.Native.Nat.{ℕ, zero, suc}
use Rattle.std.specs.Prelude.{Option, Some, None}
use Rattle.picture_state.specs.declared.types.StopMark.{StopMark}
use lib.IntN.{ℤ, negsuc}
use Rattle.laws.specs.Loops.{Step, continue, finish, iterate}
use Rattle.laws.proofs.Loops.{steps-again, steps-stop}
use Rattle.bits.specs.Programs.{eq_z}
use Rattle.bits.specs.Runs.{Runs, position_of, reader_at}
use Rattle.bits.specs.declared.reader.Reader.{Reader}
use Rattle.picture_state.specs.declared.types.{Matrices.Matrices, Picture.Picture, Sizes.Sizes}
use Rattle.picture_state.specs.Result.{Result, ok, error}
use Rattle.picture_state.specs.Stop.{Stop, mark_number, stop_number}
use Rattle.picture.specs.Pictures.{PictureState, picture_state, picture}
use Rattle.picture_state.specs.Promises.{result_of, numbered, RunsNumbered}
use Rattle.picture_state.proofs.Results.{numbered-ok, error-is_not-ok, error_injective, some-is-stop}
use Rattle.playback.specs.declared.outcome.Outcome.TheVariants.{Refused}
use Rattle.playback.specs.declared.outcome.StepEnd.{StepEnd}
use Rattle.playback.specs.declared.outcome.StepEnd.TheVariants.{Continues, Finished, Aborted}
use Rattle.playback.specs.declared.outcome.StepResult.{StepResult}
use Rattle.playback.specs.declared.state.State.{State}
use Rattle.playback.specs.State.{position, start_code, state_after_picture}
use Rattle.playback.specs.Search.{next_picture, is_followed}
use Rattle.playback.specs.Display.{shown, flushed}
use Rattle.playback.specs.Steps.{DecodingState, decoding_state, with_state, LoopEnd, finished, aborted, with_store, picture_state_of}
use Rattle.playback.specs.Steps.{picture_run, after_picture, decoded, searched, picture_step, pictures}
use Rattle.playback.specs.StepResults.{end_of, step_end_of, step_of}

-- ---- the picture

pub without_stop : (o : Option StopMark) → ((k : StopMark) → o ≡ Some k → ⊥) → stop_number o ≡ 0
without_stop None h = refl
without_stop (Some k) h = absurd (h k refl)

module _ (s : List ℕ) (z : Sizes) (m : Matrices) (x : DecodingState) (q : Picture) (c : List ℤ) (l : List ℕ) {to : Reader} (n : ℕ)
    (r : RunsNumbered (picture z m (picture_state_of x)) s (reader_at (position x.state)) (result_of n (picture_state q c l) l) to) where
  pub decoded-out : (n ≡ 0 → ⊥) → ◌≡◌ {A = Step DecodingState LoopEnd} (finish (aborted n l)) (decoded s z m x)
  unfolding decoded after_picture
  decoded-out g = go n g r.value r.runs r.is
    where
      go : (n : ℕ) → (n ≡ 0 → ⊥) → (v : Result Stop PictureState) → Runs (picture z m (picture_state_of x)) s (reader_at (position x.state)) v to
          → numbered v ≡ result_of n (picture_state q c l) l
          → ◌≡◌ {A = Step DecodingState LoopEnd} (finish (aborted n l)) (after_picture x.state (picture_run s z m x))
      go zero g v r h = absurd (g refl)
      go (suc n) g (ok f) r h = absurd (error-is_not-ok (sym h))
      go (suc n) g (error e) r h = let k = error_injective (sym h) in rw r.is (λ i. finish (aborted (k i).number (k i).store))

  -- with the mark that has the number
  pub decoded-stop : {o : Option StopMark} {k : StopMark} → o ≡ Some k → stop_number o ≡ n
      → ◌≡◌ {A = Step DecodingState LoopEnd} (finish (aborted (mark_number k) l)) (decoded s z m x)
  decoded-stop {k = k} e i =
      let same : mark_number k ≡ n = sym (ap stop_number e) ∙ i in
      rw same (decoded-out (rw same at (some-is-stop (Some k) refl)))

  pub decoded-on : n ≡ 0 → with_store c l (shown (state_after_picture (picture_state q c l) (position_of to) x.state)) ≡ decoded s z m x
  unfolding decoded after_picture
  decoded-on h = let k = numbered-ok r.value (rw h at r.is) in rw (r.runs.is, k)

-- ---- behind the search

module _ (s : List ℕ) (z : Sizes) (m : Matrices) (x : DecodingState) {y : State} (n : y ≡ next_picture s x.state) where
  pub step-none : eq_z (start_code y) (negsuc 0) ≡ true → with_store x.block_data x.store (finish (flushed s y)) ≡ picture_step s z m x
  unfolding picture_step searched
  step-none e = rw (← n, e)

  module _ (g : eq_z (start_code y) (negsuc 0) ≡ false) where
    pub step-last : is_followed s (position y) ≡ false
        → ◌≡◌ {A = Step DecodingState LoopEnd} (finish (finished (Refused 7) (with_state y x))) (picture_step s z m x)
    unfolding picture_step searched
    step-last e = rw (← n, g, e)

    pub step-decoded : is_followed s (position y) ≡ true → decoded s z m (with_state y x) ≡ picture_step s z m x
    unfolding picture_step searched
    step-decoded e = rw (← n, g, e)

-- ---- the two turns

-- what the turn t leaves, with these coefficients and this store
abbrev pub left : StepResult → List ℤ → List ℕ → DecodingState
left t c l = decoding_state t.state c l

module _ (t : StepResult) (c : List ℤ) (l : List ℕ) {x : Step DecodingState LoopEnd} (e : step_of t c l ≡ x) where
  pub step-again : t.end ≡ Continues → x ≡ continue (left t c l)
  step-again h = sym e ∙ ap (λ (k : StepEnd). step_end_of k t.state c l) h

  step-stop : (t.end ≡ Continues → ⊥) → x ≡ finish (end_of t.end t.state c l)
  step-stop h = sym e ∙ go t.end h
    where
      go : (k : StepEnd) → (k ≡ Continues → ⊥) → step_end_of k t.state c l ≡ finish (end_of k t.state c l)
      go Continues h = absurd (h refl)
      go (Finished o) h = refl
      go (Aborted m) h = refl

module _ (s : List ℕ) (z : Sizes) (m : Matrices) (x : DecodingState) (t : StepResult) (c : List ℤ) (l : List ℕ)
    (e : step_of t c l ≡ picture_step s z m x) where
  pub pictures-first : (t.end ≡ Continues → ⊥) → end_of t.end t.state c l ≡ pictures s z m x
  unfolding pictures
  pictures-first h = sym (steps-stop (picture_step s z m) 1 _ x (end_of t.end t.state c l) (step-stop t c l e h))

  -- the second turn is the last
  pub pictures-second : t.end ≡ Continues → (u : StepResult) (d : List ℤ) (k : List ℕ) → step_of u d k ≡ picture_step s z m (left t c l)
      → end_of u.end u.state d k ≡ pictures s z m x
  unfolding pictures iterate
  pictures-second h u d k f = go u.end f ∙ sym (steps-again (picture_step s z m) 1 _ x (left t c l) (step-again t c l e h))
    where
      go : (a : StepEnd) → step_end_of a u.state d k ≡ picture_step s z m (left t c l)
          → end_of a u.state d k ≡ iterate 1 (picture_step s z m) (λ y. finished (Refused 7) y) (left t c l)
      go Continues f = sym (steps-again (picture_step s z m) 0 (λ y. finished (Refused 7) y) (left t c l) (decoding_state u.state d k) (sym f))
      go (Finished o) f = sym (steps-stop (picture_step s z m) 0 _ (left t c l) _ (sym f))
      go (Aborted n) f = sym (steps-stop (picture_step s z m) 0 _ (left t c l) _ (sym f))
