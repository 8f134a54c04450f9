-- RULES 8.2 to 8.8: a turn of a hand-out, case by case. Assumes nothing.
use mathlib.Core.Path.{◌≡◌, refl, sym, subst, ◌∙◌}
use mathlib.Core.Bool.{Bool, true, false, cond, not, true≢false}
use mathlib.Core.List.{List}
use Prim.Native.Nat.{ℕ}
use lib.IntN.{negsuc}
use borrow.Author.Tests.{not-true}
use Rattle.laws.specs.Loops.{Step, continue, finish}
use Rattle.laws.proofs.Tests.{both}
use Rattle.bits.specs.Programs.{eq_z}
use Rattle.picture_state.specs.declared.types.{Matrices.Matrices, Sizes.Sizes}
use Rattle.picture_state.specs.Result.{Result, ok, error}
use Rattle.picture_state.specs.Stop.{Stop}
use Rattle.picture.specs.Pictures.{PictureState}
use Rattle.playback.specs.declared.outcome.Outcome.TheVariants.{Picture, Refused}
use Rattle.playback.specs.declared.state.State.{State}
use Rattle.playback.specs.State.{position, start_code, has_reference_frame, shown_picture, state_after_picture, has_reference_frame_as}
use Rattle.playback.specs.Search.{next_picture, is_followed}
use Rattle.playback.specs.Display.{OutcomeState, is_waiting, counted, output_picture, shown, flushed}
use Rattle.playback.specs.Steps.{DecodingState, with_state, LoopEnd, finished, with_store, after_picture_search, picture_run, after_picture, decoded, searched}
use Rattle.playback.specs.Steps.{picture_step}
use Rattle.playback.specs.Cases.{is_picture_ready, is_flush, is_b, ReadsPicture, state_left_by, counted_after, b-picture, reference-picture, flushed-picture}
use Rattle.playback.specs.Cases.{StepCase, outputs, keeps-reference, aborts, no-picture}

module _ (s : List ℕ) (z : Sizes) (m : Matrices) (x : DecodingState) where
  shown-is : (f : PictureState) (a : ℕ) → is_picture_ready s x.state ≡ true → ReadsPicture s z m x f a
      → StepCase s z m x (with_store f.block_data f.store (shown (state_after_picture f a x.state)))
  unfolding shown output_picture counted
  shown-is f a t r = go (is_b f) refl (has_reference_frame x.state) refl
    where
      go : (b : Bool) → is_b f ≡ b → (h : Bool) → has_reference_frame x.state ≡ h
          → StepCase s z m x (with_store f.block_data f.store
          (cond b (finish (output_picture f.picture.stores.cur (state_after_picture f a x.state)))
          (cond h (finish (output_picture f.picture.stores.fwd (state_after_picture f a x.state)))
          (continue (has_reference_frame_as true (state_after_picture f a x.state))))))
      go true e h i = outputs (b-picture t r e)
      go false e true i = outputs (reference-picture t r e i)
      go false e false i = keeps-reference t r e i

  past_is : (w : Result Stop PictureState) (a : ℕ) → is_picture_ready s x.state ≡ true → picture_run s z m x ≡ record { value = w; at = a }
      → StepCase s z m x (after_picture x.state (record { value = w; at = a }))
  unfolding after_picture
  past_is (ok f) a t r = shown-is f a t r
  past_is (error e) a t r = aborts t r

  searched-is : StepCase s z m x (searched s z m x)
  unfolding searched flushed decoded
  searched-is =
      go (eq_z (start_code x.state) (negsuc 0)) refl (is_followed s (position x.state)) refl (is_waiting s x.state) refl
      (λ t. past_is (picture_run s z m x).value (picture_run s z m x).at t refl)
    where
      waiting : Bool → OutcomeState
      waiting u = cond u
          (record {
            outcome = Picture (shown_picture x.state.picture.stores.bwd (has_reference_frame_as false x.state));
            state = has_reference_frame_as false
                x.state;
          })
          (record { outcome = Refused 7; state = x.state })

      go : (t : Bool) → eq_z (start_code x.state) (negsuc 0) ≡ t → (f : Bool) → is_followed s (position x.state) ≡ f → (u : Bool)
          → is_waiting s x.state ≡ u → (is_picture_ready s x.state ≡ true → StepCase s z m x (decoded s z m x))
          → StepCase s z m x (cond t (with_store x.block_data x.store (finish (waiting u))) (cond f (decoded s z m x) (finish (finished (Refused 7) x))))
      go true a f b true c k = outputs (flushed-picture (rw a refl) (rw a c))
      go true a f b false c k = no-picture (rw a refl) (rw a c)
      go false a true b u c k = k (rw a b)
      go false a false b u c k = no-picture (rw a b) (rw a refl)

pub picture-step-is : (s : List ℕ) (z : Sizes) (m : Matrices) (x : DecodingState) → StepCase s z m (after_picture_search s x) (picture_step s z m x)
unfolding picture_step
picture-step-is s z m x = searched-is s z m (after_picture_search s x)

-- ---- the other way, from the state w behind the search on

module _ (s : List ℕ) (z : Sizes) (m : Matrices) (x : DecodingState) (w : State) (n : next_picture s x.state ≡ w) where
  from_is : StepCase s z m (with_state w x) (picture_step s z m x)
  from_is = subst (λ (y : State). StepCase s z m (with_state y x) (picture_step s z m x)) n (picture-step-is s z m x)

  -- with no picture to decode and none to flush a turn ends with 7
  pub step-seven : is_picture_ready s w ≡ false → is_flush s w ≡ false → picture_step s z m x ≡ finish (finished (Refused 7) (with_state w x))
  step-seven i u = go from_is
    where
      go : {t : Step DecodingState LoopEnd} → StepCase s z m (with_state w x) t → t ≡ finish (finished (Refused 7) (with_state w x))
      go (outputs (b-picture j r b)) = absurd (true≢false (sym j ∙ i))
      go (outputs (reference-picture j r b h)) = absurd (true≢false (sym j ∙ i))
      go (outputs (flushed-picture j v)) = absurd (true≢false (sym v ∙ u))
      go (keeps-reference j r b h) = absurd (true≢false (sym j ∙ i))
      go (aborts j r) = absurd (true≢false (sym j ∙ i))
      go (no-picture j v) = refl

  module _ {f : PictureState} {a : ℕ} (i : is_picture_ready s w ≡ true) (r : ReadsPicture s z m (with_state w x) f a) where
    -- the state behind a picture that is read to its end
    abbrev after : State
    after = counted_after f a (with_state w x)

    read_is : picture_step s z m x ≡ with_store f.block_data f.store (shown (state_after_picture f a w))
    unfolding picture_step searched decoded after_picture
    read_is =
        let k = both (not (eq_z (start_code w) (negsuc 0))) (is_followed s (position w)) i in
        rw (n, not-true (eq_z (start_code w) (negsuc 0)) k.0, k.1, r)

    pub step-b : is_b f ≡ true → picture_step s z m x ≡ finish (finished (Picture (shown_picture f.picture.stores.cur after)) (state_left_by f after))
    unfolding shown output_picture
    step-b b = read_is ∙ rw b

    pub step-held : is_b f ≡ false → has_reference_frame w ≡ true → picture_step s z m x
        ≡ finish (finished (Picture (shown_picture f.picture.stores.fwd after)) (state_left_by f after))
    unfolding shown output_picture
    step-held b h = read_is ∙ rw (b, h)

    pub step-holds : is_b f ≡ false → has_reference_frame w ≡ false → picture_step s z m x
        ≡ continue (state_left_by f (has_reference_frame_as true (state_after_picture f a w)))
    unfolding shown
    step-holds b h = read_is ∙ rw (b, h)
