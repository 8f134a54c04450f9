-- Order of display: what a turn of a hand-out shows of the picture that it reads, and which one waits behind it.
use mathlib.Core.Path.{◌≡◌, refl, sym, ap, subst, ◌∙◌}
use mathlib.Core.Bool.{Bool, true, false, cond, ◌&&◌, true≢false}
use mathlib.Core.List.{List, [], ◌∷◌, ◌++◌}
use mathlib.Core.Logic.{◌⊎◌, inl, inr}
use Prim.Native.Nat.{ℕ}
use lib.IntN.{negsuc}
use Rattle.laws.specs.Loops.{Step}
use Rattle.laws.proofs.Tests.{both}
use Rattle.bits.specs.Programs.{RunResult, eq_z}
use Rattle.picture_state.specs.declared.types.{Matrices.Matrices, Sizes.Sizes, Stores.Stores}
use Rattle.picture_state.specs.Result.{Result, ok, error}
use Rattle.picture_state.specs.Stop.{Stop}
use Rattle.picture.specs.Pictures as P
use Rattle.playback.specs.declared.outcome.Shown.{Shown}
use Rattle.playback.specs.declared.outcome.Outcome.TheVariants as H
use Rattle.playback.specs.State.{position, start_code, has_reference_frame, frames, state_after_picture, has_reference_frame_as}
use Rattle.playback.specs.Search.{has_ended}
use Rattle.playback.specs.Display.{is_reference, is_waiting, counted}
use Rattle.playback.specs.Steps.{DecodingState, LoopEnd, finished, aborted, picture_run, after_picture_search}
use Rattle.playback.specs.Cases.{is_picture_ready, is_flush, ReadsPicture, state_left_by, counted_after, is_b, b-picture, reference-picture, flushed-picture}
use Rattle.playback.specs.Cases.{StepCase, outputs, keeps-reference, aborts, no-picture}
use Rattle.playback.proofs.Next.{next-stores}
use Rattle.playback.proofs.TwoSteps.{Each, next-held}
use Rattle.demands.specs.Display.{CodedPicture, displayed, waiting, AllDecoded, samples_of, coded_picture_by, step_reads}
use Rattle.demands.proofs.Reached.{RoomFor, frame-left, past_room}
use Rattle.demands.proofs.Display.{samples-same}

-- the picture that waits for display: none, or the reference picture that is held, in the backward store
pub data Showing (z : Sizes) (h : Bool) (t : Stores) (l : List ℕ) : List (List ℕ) → Type 0 where
  none-held : h ≡ false → Showing z h t l []
  one-held : h ≡ true → Showing z h t l (samples_of z.mb_size t.bwd l ∷ [])

abbrev pub ShowingAt : Sizes → DecodingState → List (List ℕ) → Type 0
ShowingAt z x = Showing z (has_reference_frame x.state) x.state.picture.stores x.store

pub next-showing : (s : List ℕ) (z : Sizes) (x : DecodingState) (h : List (List ℕ)) → ShowingAt z x h → ShowingAt z (after_picture_search s x) h
next-showing s z x h k = rw (next-held s x.state, next-stores s x.state) k

-- ---- how a turn ends: the pictures c were read while h waited, and n were handed out before

-- the picture that a turn hands out
abbrev pub shown_in : Sizes → Shown → DecodingState → List (List ℕ)
shown_in z i x = samples_of z.mb_size i.store x.store ∷ []

abbrev pub EndShows : Sizes → ℕ → List (List ℕ) → List CodedPicture → LoopEnd → Type 0
EndShows z n h c (finished (H.Picture i) x) =
    ((shown_in z i x ≡ displayed h c) × ShowingAt z x (waiting h c)) ⊎
    ((shown_in z i x ≡ displayed h c ++ waiting h c) × (frames x.state ≡ n))
EndShows z n h c (finished (H.Refused k) x) = displayed h c ≡ []
EndShows z n h c (aborted k m) = displayed h c ≡ []

pub record On (z : Sizes) (n : ℕ) (h : List (List ℕ)) (c : List CodedPicture) (y : DecodingState) : Type 0 where
  pub showing : ShowingAt z y (waiting h c)
  pub silent : displayed h c ≡ []
  pub frames : frames y.state ≡ n
  pub room : RoomFor z y

abbrev pub StepShows : Sizes → ℕ → List (List ℕ) → List CodedPicture → Step DecodingState LoopEnd → Type 0
StepShows z n h c = Each (On z n h c) (EndShows z n h c)

-- ---- a turn

module _ (s : List ℕ) (z : Sizes) (m : Matrices) (x : DecodingState) where
  reads_on : {f : P.PictureState} {a : ℕ} → is_picture_ready s x.state ≡ true → ReadsPicture s z m x f a → step_reads s z m x ≡ coded_picture_by s z x (ok f)
  unfolding step_reads
  reads_on t r = rw t (ap (λ (o : RunResult (Result Stop P.PictureState)). coded_picture_by s z x o.value) r)

  reads-out : {e : Stop} {a : ℕ} → is_picture_ready s x.state ≡ true → picture_run s z m x ≡ record { value = error e; at = a } → step_reads s z m x ≡ []
  unfolding step_reads
  reads-out t r = rw t (ap (λ (o : RunResult (Result Stop P.PictureState)). coded_picture_by s z x o.value) r)

  pub reads_none : is_picture_ready s x.state ≡ false → step_reads s z m x ≡ []
  unfolding step_reads
  reads_none t = rw t refl

module _ (s : List ℕ) (z : Sizes) (m : Matrices) (x : DecodingState) {h : List (List ℕ)} (room : RoomFor z x) (k : ShowingAt z x h) where
  -- the samples of the store number j, the roles of the stores, and the state behind a picture
  abbrev samples : ℕ → List ℕ → List ℕ
  samples = samples_of z.mb_size

  abbrev roles : Stores
  roles = x.state.picture.stores

  -- the samples of a store other than the current one, behind a picture
  others : {f : P.PictureState} {a : ℕ} (j : ℕ) → ReadsPicture s z m x f a → (j ≡ roles.cur → ⊥) → samples j f.store ≡ samples j x.store
  others {f} j r w = samples-same z.mb_size roles.cur j x.store f.store w (frame-left s z m x room r).store

  -- the roles of the stores behind a picture that is decoded
  roles-b : {f : P.PictureState} {a : ℕ} → ReadsPicture s z m x f a → is_b f ≡ true → AllDecoded (coded_picture_by s z x (ok f)) → f.picture.stores ≡ roles
  roles-b {f} r b q = (frame-left s z m x room r).stores q.0 ∙ ap (λ (t : Bool). cond t roles (P.roles_after_reading roles)) b

  roles-other : {f : P.PictureState} {a : ℕ} → ReadsPicture s z m x f a → is_b f ≡ false → AllDecoded (coded_picture_by s z x (ok f)) → f.picture.stores
      ≡ P.roles_after_reading roles
  roles-other {f} r b q = (frame-left s z m x room r).stores q.0 ∙ ap (λ (t : Bool). cond t roles (P.roles_after_reading roles)) b

  -- RULES 8.5: a B picture, at once
  shows-b : {f : P.PictureState} {a : ℕ} → ReadsPicture s z m x f a → is_b f ≡ true → AllDecoded (coded_picture_by s z x (ok f))
      → (samples f.picture.stores.cur f.store ∷ [] ≡ displayed h (coded_picture_by s z x (ok f)))
      × ShowingAt z (state_left_by f (counted_after f a x)) (waiting h (coded_picture_by s z x (ok f)))
  unfolding displayed waiting counted
  shows-b {f} {a} r b q =
      let e = roles-b r b q in
      rw b (ap (λ (t : Stores). samples t.cur f.store ∷ []) e, still k)
    where
      still : {g : List (List ℕ)} → ShowingAt z x g → Showing z (has_reference_frame x.state) f.picture.stores f.store g
      still (none-held e) = none-held e
      still (one-held e) =
          subst (λ (y : List ℕ). Showing z (has_reference_frame x.state) f.picture.stores f.store (y ∷ []))
          (ap (λ (t : Stores). samples t.bwd f.store) (roles-b r b q) ∙ others roles.bwd r (λ w. room.stores.cur-bwd (sym w)))
          (one-held e)

  -- the reference picture that is read is in the backward store
  now-held : {f : P.PictureState} {a : ℕ} (v : Bool) → ReadsPicture s z m x f a → is_b f ≡ false → AllDecoded (coded_picture_by s z x (ok f)) → v ≡ true
      → Showing z v f.picture.stores f.store (samples roles.cur f.store ∷ [])
  now-held {f} v r b q e =
      subst (λ (y : List ℕ). Showing z v f.picture.stores f.store (y ∷ []))
      (ap (λ (t : Stores). samples t.bwd f.store) (roles-other r b q)) (one-held e)

  -- RULES 8.5: an I or P picture: the one that was held is shown
  shows-held : {f : P.PictureState} {a : ℕ} → ReadsPicture s z m x f a → is_b f ≡ false → has_reference_frame x.state ≡ true
      → AllDecoded (coded_picture_by s z x (ok f))
      → (samples f.picture.stores.fwd f.store ∷ [] ≡ displayed h (coded_picture_by s z x (ok f)))
      × ShowingAt z (state_left_by f (counted_after f a x)) (waiting h (coded_picture_by s z x (ok f)))
  unfolding displayed waiting counted
  shows-held {f} {a} r b e q = rw b (shown k, now-held (has_reference_frame x.state) r b q e)
    where
      shown : {g : List (List ℕ)} → ShowingAt z x g → samples f.picture.stores.fwd f.store ∷ [] ≡ g ++ []
      shown (none-held i) = absurd (true≢false (sym e ∙ i))
      shown (one-held i) =
          ap (λ (y : List ℕ). y ∷ []) (ap (λ (t : Stores). samples t.fwd f.store) (roles-other r b q)
          ∙ others roles.bwd r (λ w. room.stores.cur-bwd (sym w)))

  -- RULES 8.5: the first one is held, and nothing is shown
  shows-none : (f : P.PictureState) → is_b f ≡ false → has_reference_frame x.state ≡ false → displayed h (coded_picture_by s z x (ok f)) ≡ []
  unfolding displayed
  shows-none f b e = rw b (go k)
    where
      go : {g : List (List ℕ)} → ShowingAt z x g → g ++ [] ≡ []
      go (none-held i) = refl
      go (one-held i) = absurd (true≢false (sym i ∙ e))

  -- RULES 8.8: the held one is flushed
  flush-held : is_flush s x.state ≡ true → has_reference_frame x.state ≡ true
  flush-held u =
      let v = (both (eq_z (start_code x.state) (negsuc 0)) (is_waiting s x.state) u).1 in
      let w = (both (has_reference_frame x.state && has_ended s (position x.state)) (is_reference x.state) v).0 in
      (both (has_reference_frame x.state) (has_ended s (position x.state)) w).0

  shows-flushed : is_flush s x.state ≡ true → samples roles.bwd x.store ∷ [] ≡ displayed h [] ++ waiting h []
  unfolding displayed waiting
  shows-flushed u = go k
    where
      go : {g : List (List ℕ)} → ShowingAt z x g → samples roles.bwd x.store ∷ [] ≡ g
      go (none-held i) = absurd (true≢false (sym (flush-held u) ∙ i))
      go (one-held i) = refl

  goes_on : {f : P.PictureState} {a : ℕ} → ReadsPicture s z m x f a → is_b f ≡ false → has_reference_frame x.state ≡ false
      → AllDecoded (coded_picture_by s z x (ok f))
      → On z (frames x.state) h (coded_picture_by s z x (ok f)) (state_left_by f (has_reference_frame_as true (state_after_picture f a x.state)))
  unfolding waiting
  goes_on {f} {a} r b e q =
      record { showing = rw b (now-held true r b q refl); silent = shows-none f b e; frames = refl; room = past_room s z m x room r }

  abbrev Shows : Step DecodingState LoopEnd → List CodedPicture → Type 0
  Shows t c = AllDecoded c → StepShows z (frames x.state) h c t

  pub step-shows : {t : Step DecodingState LoopEnd} → StepCase s z m x t → Shows t (step_reads s z m x)
  unfolding displayed counted
  step-shows {t} (outputs (b-picture i r b)) = subst (Shows t) (sym (reads_on s z m x i r)) (λ q. inl (shows-b r b q))
  step-shows {t} (outputs (reference-picture i r b e)) = subst (Shows t) (sym (reads_on s z m x i r)) (λ q. inl (shows-held r b e q))
  step-shows {t} (outputs (flushed-picture i u)) = subst (Shows t) (sym (reads_none s z m x i)) (λ q. inr (shows-flushed u, refl))
  step-shows {t} (keeps-reference i r b e) = subst (Shows t) (sym (reads_on s z m x i r)) (λ q. goes_on r b e q)
  step-shows {t} (aborts i r) = subst (Shows t) (sym (reads-out s z m x i r)) (λ q. refl)
  step-shows {t} (no-picture i u) = subst (Shows t) (sym (reads_none s z m x i)) (λ q. refl)
