-- Order of display: what the turns of a hand-out show of the pictures that they read.
use mathlib.Core.Path.{◌≡◌, refl, sym, ap, ap₂, subst, ◌∙◌}
use mathlib.Core.List.{List, [], ◌++◌, append-nil}
use mathlib.Core.Logic.{inl, inr}
use Prim.Native.Nat.{ℕ}
use Rattle.laws.specs.Loops.{Step, continue, finish}
use Rattle.picture_state.specs.declared.types.{Matrices.Matrices, Sizes.Sizes}
use Rattle.playback.specs.declared.outcome.Outcome.TheVariants as H
use Rattle.playback.specs.State.{frames}
use Rattle.playback.specs.Steps.{DecodingState, LoopEnd, finished, aborted, after_picture_search, picture_step, pictures}
use Rattle.playback.specs.Cases.{StepCase}
use Rattle.playback.proofs.Next.{next-frames}
use Rattle.playback.proofs.Cases.{picture-step-is}
use Rattle.playback.proofs.TwoSteps.{Each, by_steps}
use Rattle.demands.specs.Display.{CodedPicture, displayed, waiting, AllDecoded, step_reads, pictures_read}
use Rattle.demands.proofs.Reached.{RoomFor, next-room}
use Rattle.demands.proofs.Display.{waiting-on, displayed-on, decoded-first, decoded-rest}
use Rattle.demands.proofs.DisplayStep.{ShowingAt, next-showing, EndShows, On, StepShows, step-shows}

-- the pictures a were read in silence before
then-shows : (z : Sizes) (n : ℕ) (h : List (List ℕ)) (a b : List CodedPicture) (e : LoopEnd) → displayed h a ≡ [] → EndShows z n (waiting h a) b e
    → EndShows z n h (a ++ b) e
then-shows z n h a b e none = go e
  where
    shown : displayed h (a ++ b) ≡ displayed (waiting h a) b
    shown = displayed-on h a b ∙ ap (λ (p : List (List ℕ)). p ++ displayed (waiting h a) b) none

    waits : waiting h (a ++ b) ≡ waiting (waiting h a) b
    waits = waiting-on h a b

    go : (e : LoopEnd) → EndShows z n (waiting h a) b e → EndShows z n h (a ++ b) e
    go (finished (H.Picture i) x) (inl q) = inl (q.0 ∙ sym shown, subst (ShowingAt z x) (sym waits) q.1)
    go (finished (H.Picture i) x) (inr q) = inr (q.0 ∙ ap₂ (λ (p w : List (List ℕ)). p ++ w) (sym shown) (sym waits), q.1)
    go (finished (H.Refused k) x) q = shown ∙ q
    go (aborted k l) q = shown ∙ q

module _ (s : List ℕ) (z : Sizes) (m : Matrices) where
  -- what the turn from x on reads
  abbrev reads : DecodingState → List CodedPicture
  reads x = step_reads s z m (after_picture_search s x)

  from-shows : (x : DecodingState) {h : List (List ℕ)} (n : ℕ) → frames x.state ≡ n → RoomFor z x → ShowingAt z x h → AllDecoded (reads x)
      → (t : Step DecodingState LoopEnd) → picture_step s z m x ≡ t → StepShows z n h (reads x) t
  from-shows x {h} n f room k q t e =
      subst (λ (n : ℕ). StepShows z n h (reads x) t) (next-frames s x.state ∙ f)
      (step-shows s z m (after_picture_search s x) (next-room s x room) (next-showing s z x h k)
      (subst (StepCase s z m (after_picture_search s x)) e (picture-step-is s z m x)) q)

  pub pictures_show : (x : DecodingState) (h : List (List ℕ)) → RoomFor z x → ShowingAt z x h → AllDecoded (pictures_read s z m x)
      → EndShows z (frames x.state) h (pictures_read s z m x) (pictures s z m x)
  unfolding pictures_read
  pictures_show x h room k q =
      by_steps s z m x (On z n h (reads x)) (λ y. On z n (waiting h (reads x)) (reads y)) (EndShows z n h (pictures_read s z m x))
      (λ t e. first t e (from-shows x n refl room k (decoded-first (reads x) _ q) t e))
      (λ y e o t f. second y e o t (from-shows y n o.frames o.room o.showing (decoded-rest (reads x) (reads y) (both y e)) t f))
    where
      n : ℕ
      n = frames x.state

      -- the pictures of both turns
      both : (y : DecodingState) → picture_step s z m x ≡ continue y → AllDecoded (reads x ++ reads y)
      both y e = rw e at q

      first : (t : Step DecodingState LoopEnd) → picture_step s z m x ≡ t → StepShows z n h (reads x) t
          → Each (On z n h (reads x)) (EndShows z n h (pictures_read s z m x)) t
      first (continue y) e o = o
      first (finish v) e o = rw e (subst (λ (r : List CodedPicture). EndShows z n h r v) (sym (append-nil (reads x))) o)

      second : (y : DecodingState) → picture_step s z m x ≡ continue y → On z n h (reads x) y → (t : Step DecodingState LoopEnd)
          → StepShows z n (waiting h (reads x)) (reads y) t
          → Each (On z n (waiting h (reads x)) (reads y)) (EndShows z n h (pictures_read s z m x)) t
      second y e o (continue v) p = p
      second y e o (finish v) p = rw e (then-shows z n h (reads x) (reads y) v o.silent p)
