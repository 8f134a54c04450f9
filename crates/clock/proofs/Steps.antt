-- RULES 8.9 to 8.11: the clock over the turns of a hand-out. Assumes nothing of the stream.
use mathlib.Core.Path.{◌≡◌, refl, sym, ap, ap₂, ◌∙◌, subst}
use mathlib.Core.Bool.{Bool, true, false, not, ◌&&◌, ◌||◌, true≢false}
use mathlib.Core.List.{List}
use Prim.Native.Nat.{ℕ, suc, ◌+◌}
use native.Mathlib.Omega.{arith}
use borrow.Author.Tests.{eqb-true}
use lib.Dec.{eqb, eqb-suc-zero}
use lib.IntN.{pos, negsuc}
use lib.Ieee.{Float}
use Rattle.laws.specs.Loops.{Step}
use Rattle.laws.proofs.Tests.{by-case, if_no, both}
use Rattle.bits.specs.Programs.{eq_z}
use Rattle.picture_state.specs.declared.types.{Matrices.Matrices, Sizes.Sizes}
use Rattle.playback.specs.declared.outcome.Shown.{Shown}
use Rattle.playback.specs.declared.outcome.Outcome.TheVariants as H
use Rattle.playback.specs.declared.state.{Display.Display, State.State}
use Rattle.playback.specs.State.{position, start_code, has_reference_frame, state_after_picture, has_reference_frame_as}
use Rattle.playback.specs.Search.{ensure_start_code, next_picture, has_ended}
use Rattle.playback.specs.Display.{time_of, counted, is_reference, is_waiting}
use Rattle.playback.specs.Steps.{DecodingState, LoopEnd, finished, aborted, after_picture_search, picture_step, pictures}
use Rattle.playback.specs.Cases.{is_flush, Outputs, b-picture, reference-picture, flushed-picture, StepCase, outputs, keeps-reference, aborts, no-picture}
use Rattle.playback.proofs.Cases.{picture-step-is}
use Rattle.playback.proofs.TwoSteps.{Each, by_steps}
use Rattle.clock.specs.Times.{time_at, is_flush_output, is_flushed}

-- RULES 8.12: k pictures are counted, the last was shown with the time t, and the next time is that of the picture number k
pub record ClockAt (rate : Float) (k : ℕ) (t : Float) (v : Display) : Type 0 where
  pub framerate : v.clock.framerate ≡ rate
  pub count : v.frames_decoded ≡ k
  pub next : v.clock.time ≡ time_at rate k
  pub shown : v.clock.last_frame_time ≡ t

pub time-after : (rate : Float) (k : ℕ) → time_at rate (k + 1) ≡ time_of (k + 1) rate
unfolding time_at
time-after rate k = if_no _ (no_zero k) refl
  where
    later : (k : ℕ) → k + 1 ≡ suc k
    later k = omega arith

    no_zero : (k : ℕ) → eqb (k + 1) 0 ≡ false
    no_zero k = ap (λ (n : ℕ). eqb n 0) (later k) ∙ eqb-suc-zero k

-- ---- a hand-out

-- RULES 8.5: a picture that is no flush, and its time; RULES 8.11: a flush
pub data TimeShown (rate : Float) (k : ℕ) (t : Float) (i : Shown) (x : State) : Type 0 where
  counts : is_flushed x ≡ false → i.time ≡ time_at rate k → ClockAt rate (k + 1) (time_at rate k) x.display → TimeShown rate k t i x
  repeats : is_flushed x ≡ true → i.time ≡ t → ClockAt rate k t x.display → TimeShown rate k t i x

-- where a picture is held behind it, it is no flush
pub no-flush : (rate : Float) (k : ℕ) (t : Float) {i : Shown} {x : State} → has_reference_frame x ≡ true → TimeShown rate k t i x
    → (i.time ≡ time_at rate k) × ClockAt rate (k + 1) (time_at rate k) x.display
no-flush rate k t held (counts f e c) = (e, c)
no-flush rate k t {x = x} held (repeats f e c) = absurd (true≢false (sym f ∙ ap (λ (b : Bool). not b && is_reference x) held))

abbrev pub EndTimes : Float → ℕ → Float → LoopEnd → Type 0
EndTimes rate k t (finished (H.Picture i) x) = TimeShown rate k t i x.state
EndTimes rate k t (finished (H.Refused n) x) = ClockAt rate k t x.state.display
EndTimes rate k t (aborted n l) = Unit {0}

and_false : (b c : Bool) → c ≡ false → (b && c) ≡ false
and_false true c e = e
and_false false c e = refl

-- RULES 8.8: what is flushed is held, behind an I or P picture
flush-reference : (s : List ℕ) (x : State) → is_flush s x ≡ true → is_reference x ≡ true
flush-reference s x u =
    (both (has_reference_frame x && has_ended s (position x)) (is_reference x) (both (eq_z (start_code x) (negsuc 0)) (is_waiting s x) u).1).1

-- type 3 is neither 1 nor 2
no-reference : (type : ℕ) → eqb type 3 ≡ true → (eqb type 1 || eqb type 2) ≡ false
no-reference type e = ap (λ (n : ℕ). eqb n 1 || eqb n 2) (eqb-true type 3 e)

-- RULES 8.5, 8.8: the test of the state finds the flush, and no other hand-out
pub flush-is : (s : List ℕ) (z : Sizes) (m : Matrices) (x y : DecodingState) (i : Shown) (o : Outputs s z m x i y) → is_flushed y.state ≡ is_flush_output o
unfolding counted
flush-is s z m x y i (b-picture {f} r e b) = and_false (not (has_reference_frame x.state)) _ (no-reference f.picture.picture_type b)
flush-is s z m x y i (reference-picture {f} r e b held) =
    ap (λ (h : Bool). not h && (eqb f.picture.picture_type 1 || eqb f.picture.picture_type 2)) held
flush-is s z m x y i (flushed-picture r u) = flush-reference s x.state u

module _ (rate : Float) (k : ℕ) (t : Float) where
  counted-clock : (x : State) → ClockAt rate k t x.display → ClockAt rate (k + 1) (time_at rate k) (counted x).display
  unfolding counted
  counted-clock x h = record {
    framerate = h.framerate;
    count = ap (λ (n : ℕ). n + 1) h.count;
    next = ap₂ (λ (n : ℕ) (r : Float). time_of (n + 1) r) h.count h.framerate ∙ sym (time-after rate k);
    shown = h.next;
  }

  held-clock : (b : Bool) (x : State) → ClockAt rate k t x.display → ClockAt rate k t (has_reference_frame_as b x).display
  held-clock b x h = record { framerate = h.framerate; count = h.count; next = h.next; shown = h.shown }

  output-times : (s : List ℕ) (z : Sizes) (m : Matrices) (x y : DecodingState) (i : Shown) → ClockAt rate k t x.state.display → Outputs s z m x i y
      → TimeShown rate k t i y.state
  unfolding counted
  output-times s z m x y i h (b-picture {f} {a} r e b) =
      counts (flush-is s z m x y i (b-picture r e b)) h.next (counted-clock (state_after_picture f a x.state) h)
  output-times s z m x y i h (reference-picture {f} {a} r e b held) =
      counts (flush-is s z m x y i (reference-picture r e b held)) h.next (counted-clock (state_after_picture f a x.state) h)
  output-times s z m x y i h (flushed-picture r u) = repeats (flush-is s z m x y i (flushed-picture r u)) h.shown (held-clock false x.state h)

  step-times : (s : List ℕ) (z : Sizes) (m : Matrices) (x : DecodingState) {u : Step DecodingState LoopEnd} → ClockAt rate k t x.state.display
      → StepCase s z m x u → Each (λ (y : DecodingState). ClockAt rate k t y.state.display) (EndTimes rate k t) u
  step-times s z m x h (outputs {i} {y} o) = output-times s z m x y i h o
  step-times s z m x h (keeps-reference {f} {a} r e b held) = held-clock true (state_after_picture f a x.state) h
  step-times s z m x h (aborts r e) = tt
  step-times s z m x h (no-picture r u) = h

  next-clock : (s : List ℕ) (x : State) → ClockAt rate k t x.display → ClockAt rate k t (next_picture s x).display
  unfolding ensure_start_code
  next-clock s x h = by-case (λ (y : State). ClockAt rate k t y.display) (eq_z (start_code x) (pos 0)) (λ e. h) (λ e. h)

  pub pictures-times : (s : List ℕ) (z : Sizes) (m : Matrices) (x : DecodingState) → ClockAt rate k t x.state.display
      → EndTimes rate k t (pictures s z m x)
  pictures-times s z m x h =
      by_steps s z m x Going (λ y. Going) (EndTimes rate k t) (turn x h) (λ y e g. turn y g)
    where
      Going : DecodingState → Type 0
      Going y = ClockAt rate k t y.state.display

      turn : (y : DecodingState) → Going y → (u : Step DecodingState LoopEnd) → picture_step s z m y ≡ u → Each Going (EndTimes rate k t) u
      turn y g u e = step-times s z m (after_picture_search s y) (next-clock s y.state g)
          (subst (StepCase s z m (after_picture_search s y)) e (picture-step-is s z m y))
