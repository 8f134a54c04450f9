-- For RULES R: what the turns of a hand-out keep.
use mathlib.Core.Path.{◌≡◌, refl, sym, ap, subst, ◌∙◌}
use mathlib.Core.Bool.{true, false, not, ◌&&◌, ◌||◌, true≢false, false≢true}
use mathlib.Core.List.{List}
use mathlib.Core.Logic.{◌⊎◌}
use Prim.Native.Nat.{ℕ, ◌+◌, ◌*◌, ◌≤◌, ◌<◌}
use native.Mathlib.Omega.{arith}
use lib.IntN.{ℤ, pos, negsuc}
use lib.ListN.{length, get_or}
use borrow.Author.Tests.{leb-true}
use Rattle.laws.specs.Loops.{Step, finish}
use Rattle.laws.proofs.Tests.{both}
use Rattle.bits.specs.Bounds.{longest_stream}
use Rattle.bits.specs.Programs.{RunResult, run, eq_z, find_start_code}
use Rattle.bits.proofs.Start.{is_code}
use Rattle.bits.proofs.Programs.{run-most}
use Rattle.codes.proofs.Bounds.{bounded_of, bounded-by}
use Rattle.picture_state.specs.declared.types.{Matrices.Matrices, Sizes.Sizes}
use Rattle.picture_state.specs.Result.{Result}
use Rattle.picture_state.specs.Stop.{Stop}
use Rattle.picture.specs.Pictures.{PictureState, picture}
use Rattle.picture.proofs.Kept as Kept
use Rattle.picture.proofs.Places.{Ahead, picture-past, picture-ahead}
use Rattle.playback.specs.declared.outcome.Shown.{Shown}
use Rattle.playback.specs.declared.outcome.Outcome.TheVariants as H
use Rattle.playback.specs.declared.state.State.{State}
use Rattle.playback.specs.State.{position, start_code, frames, state_after_picture, has_reference_frame_as}
use Rattle.playback.specs.Search.{next_picture, has_ended, is_followed}
use Rattle.playback.specs.Display.{counted, is_waiting}
use Rattle.playback.specs.Steps.{DecodingState, with_state, LoopEnd, finished, aborted, picture_state_of}
use Rattle.playback.specs.Steps.{after_picture_search, picture_run, picture_step, pictures}
use Rattle.playback.specs.Cases.{is_picture_ready, is_flush, ReadsPicture, state_left_by, b-picture, reference-picture, flushed-picture, StepCase, outputs}
use Rattle.playback.specs.Cases.{keeps-reference}
use Rattle.playback.specs.Cases.{aborts, no-picture}
use Rattle.playback.proofs.Searches.{Barren, Sought, hit, miss, sought}
use Rattle.playback.proofs.Next.{Next, has, finds, fails, next-is, next-has, next_barren}
use Rattle.playback.proofs.Cases.{picture-step-is, step-seven}
use Rattle.playback.proofs.TwoSteps.{Each, by_steps}
use Rattle.demands.specs.StartCodes.{PictureAhead, picture-at}
use Rattle.demands.proofs.Codes.{SearchEnd, with_code, with_none, search-end}
use Rattle.demands.proofs.Keeps.{KeepsAt, keeps-counted, keeps-held, keeps-searched, Sized}
use Rattle.demands.proofs.Rows.{cause-number}

-- ---- 7, for good

-- a turn answers 7 and changes nothing
abbrev pub Stuck : List ℕ → Sizes → Matrices → DecodingState → Type 0
Stuck s z m x = picture_step s z m x ≡ finish (finished (H.Refused 7) x)

-- a turn whose search changes nothing
stuck : (s : List ℕ) (z : Sizes) (m : Matrices) (x : DecodingState) → next_picture s x.state ≡ x.state → is_picture_ready s x.state ≡ false
    → is_flush s x.state ≡ false → Stuck s z m x
stuck s z m x e i u = step-seven s z m x x.state e i u

-- ---- the search

-- RULES 8.2: a picture start code is in the state, or nothing is found from there on
data Behind (s : List ℕ) (x : State) : Type 0 where
  at_code : start_code x ≡ pos 0 → Behind s x
  at-end : start_code x ≡ negsuc 0 → Barren s (position x) → Behind s x

search-row : (s : List ℕ) {z : Sizes} (x : DecodingState) → length s ≤ longest_stream → KeepsAt s z x
    → KeepsAt s z (after_picture_search s x) × Behind s (next_picture s x.state) × (frames (next_picture s x.state) ≡ frames x.state)
search-row s {z} x short k = go (next-is s x.state short k.inside)
  where
    go : {y : State} → Next s x.state y → KeepsAt s z (with_state y x) × Behind s y × (frames y ≡ frames x.state)
    go (has c) = (k, at_code c, refl)
    go (finds e f m) = (keeps-searched x k (pos 0) e refl f (omega arith) (λ c. omega arith), at_code refl, refl)
    go (fails e f m b) = (keeps-searched x k (negsuc 0) e refl f m (λ c. absurd (true≢false (sym (ap is_code c)))), at-end refl b, refl)

no_code : {A : Type 0} (s : List ℕ) (x : State) → start_code x ≡ negsuc 0 → is_picture_ready s x ≡ true → A
no_code s x c i = absurd (false≢true (sym (ap (λ (k : ℤ). not (eq_z k (negsuc 0)) && is_followed s (position x)) c) ∙ i))

-- RULES 8.3: before a picture start code bits are left, so a second one is found
followed : (s : List ℕ) (a : ℕ) → length s ≤ longest_stream → a < length s * 8 → is_followed s a ≡ true → a + 40 ≤ length s * 8
unfolding is_followed
followed s a short h = go (run (find_start_code (pos 0)) s a) (sought (pos 0) s a short)
  where
    go : (o : RunResult ℤ) → Sought (pos 0) s a o → (not (eq_z o.value (negsuc 0)) || has_ended s a) ≡ true → a + 40 ≤ length s * 8
    go o (hit x y z) f = omega arith
    go o (miss x y) f = let e = leb-true (length s * 8) a (rw x at f) in omega arith

there : (s : List ℕ) {z : Sizes} (x : DecodingState) → length s ≤ longest_stream → KeepsAt s z x → Behind s x.state → is_picture_ready s x.state ≡ true
    → position x.state + 40 ≤ length s * 8
there s x short k (at_code c) i =
    let a = position x.state in
    followed s a short (k.ahead c) (both (not (eq_z (start_code x.state) (negsuc 0))) (is_followed s a) i).1
there s x short k (at-end c b) i = no_code s x.state c i

-- RULES 8.3: before a picture start code that the search leaves bits are left, so a second one is found where the picture is ready
pub second-code : (s : List ℕ) {z : Sizes} (x : DecodingState) → length s ≤ longest_stream → KeepsAt s z x
    → is_picture_ready s (after_picture_search s x).state ≡ true
    → PictureAhead s (position (after_picture_search s x).state)
unfolding is_followed
second-code s {z} x short k i = go row.1
  where
    row : KeepsAt s z (after_picture_search s x) × Behind s (next_picture s x.state) × (frames (next_picture s x.state) ≡ frames x.state)
    row = search-row s x short k

    a : ℕ
    a = position (after_picture_search s x).state

    ahead : a < length s * 8 → (o : RunResult ℤ) → SearchEnd s 0 a o → (not (eq_z o.value (negsuc 0)) || has_ended s a) ≡ true → PictureAhead s a
    ahead h o (with_code v c) f = picture-at c
    ahead h o (with_none v c) f = let e = leb-true (length s * 8) a (rw v at f) in let no : ⊥ = omega arith in absurd no

    go : Behind s (next_picture s x.state) → PictureAhead s a
    go (at_code c) =
        ahead (row.0.ahead c) (run (find_start_code (pos 0)) s a) (search-end s 0 a short)
        (both (not (eq_z (start_code (after_picture_search s x).state) (negsuc 0))) (is_followed s a) i).1
    go (at-end c b) = no_code s (after_picture_search s x).state c i

-- ---- a turn

module _ (s : List ℕ) (z : Sizes) (m : Matrices) (short : length s ≤ longest_stream) (bytes : (k : ℕ) → get_or s k 0 < 256) (y : Sized z) where
  -- the end of a turn or a call that began with n pictures handed out
  pub data Ends (n : ℕ) : LoopEnd → Type 0 where
    hands : {i : Shown} {x : DecodingState} → KeepsAt s z x → frames x.state ≡ n + 1 → Ends n (finished (H.Picture i) x)
    flushes : {i : Shown} {x : DecodingState} → KeepsAt s z x → frames x.state ≡ n → Stuck s z m x → Ends n (finished (H.Picture i) x)
    seven : {x : DecodingState} → KeepsAt s z x → frames x.state ≡ n → Stuck s z m x → Ends n (finished (H.Refused 7) x)
    stops : {k : ℕ} {l : List ℕ} → (k ≡ 8) ⊎ (k ≡ 9) → Ends n (aborted k l)

  -- what another turn is given
  abbrev Goes : ℕ → DecodingState → Type 0
  Goes n x = KeepsAt s z x × (frames x.state ≡ n)

  module _ (x : DecodingState) (k : KeepsAt s z x) (b : Behind s x.state) where
    -- what is known of a picture's run
    record Ran (o : RunResult (Result Stop PictureState)) : Type 0 where
      kept : Kept.Ends (length x.store) (Kept.StaysPossible x.store) o.value
      ahead : Ahead s o.at o.value
      past : position x.state + 29 ≤ o.at
      inside : o.at ≤ length s * 8

    ran : is_picture_ready s x.state ≡ true → Ran (picture_run s z m x)
    ran i =
        let a = position x.state in
        let h = there s x short k b i in
        record {
          kept = Kept.picture-kept z m (picture_state_of x) s a y.wide y.high y.area k.picture (bounded_of x.block_data k.block) short bytes;
          ahead = picture-ahead z m (picture_state_of x) s a short h;
          past = picture-past z m (picture_state_of x) s a (omega arith);
          inside = run-most (picture z m (picture_state_of x)) s a (length s) k.inside (omega arith);
        }

    -- a picture that is read to its end has taken 29 bits
    read-row : {f : PictureState} {a : ℕ} → is_picture_ready s x.state ≡ true → ReadsPicture s z m x f a
        → KeepsAt s z (state_left_by f (state_after_picture f a x.state)) × (29 * frames x.state + 29 ≤ a)
    read-row i r =
        let o = subst Ran r (ran i) in (
          record {
            picture = o.kept.picture;
            block = bounded-by o.kept.block;
            long = omega (arith, k.long, o.kept.store);
            inside = o.inside;
            ahead = o.ahead;
            display = k.display;
            count = omega (arith, k.count, o.past);
          },
          omega (arith, k.count, o.past),
        )

    shown-row : {f : PictureState} {a : ℕ} → is_picture_ready s x.state ≡ true → ReadsPicture s z m x f a
        → KeepsAt s z (state_left_by f (counted (state_after_picture f a x.state)))
    shown-row {f} {a} i r = let h = read-row i r in keeps-counted (state_left_by f (state_after_picture f a x.state)) h.0 short h.1

    -- RULES 8.8: the held picture is flushed, and every later turn answers 7
    flush-row : is_picture_ready s x.state ≡ false → is_flush s x.state ≡ true → Stuck s z m (with_state (has_reference_frame_as false x.state) x)
    flush-row i u = go b
      where
        go : Behind s x.state → Stuck s z m (with_state (has_reference_frame_as false x.state) x)
        go (at_code c) = absurd (false≢true (sym (ap (λ (k : ℤ). eq_z k (negsuc 0) && is_waiting s x.state) c) ∙ u))
        go (at-end c e) = stuck s z m (with_state (has_reference_frame_as false x.state) x) (next_barren s (has_reference_frame_as false x.state) c e) i
            (rw c refl)

    seven-row : is_picture_ready s x.state ≡ false → is_flush s x.state ≡ false → Stuck s z m x
    seven-row i u = go b
      where
        go : Behind s x.state → Stuck s z m x
        go (at_code c) = stuck s z m x (next-has s x.state c) i u
        go (at-end c e) = stuck s z m x (next_barren s x.state c e) i u

    case_row : {t : Step DecodingState LoopEnd} → StepCase s z m x t → Each (Goes (frames x.state)) (Ends (frames x.state)) t
    unfolding counted
    case_row (outputs (b-picture i r e)) = hands (shown-row i r) refl
    case_row (outputs (reference-picture i r e h)) = hands (shown-row i r) refl
    case_row (outputs (flushed-picture i u)) = flushes (keeps-held x k false) refl (flush-row i u)
    case_row (keeps-reference {f} {a} i r e h) = (keeps-held (state_left_by f (state_after_picture f a x.state)) (read-row i r).0 true, refl)
    case_row (aborts {e = e} i r) = stops (cause-number e.cause refl)
    case_row (no-picture i u) = seven k refl (seven-row i u)

  pub step_row : (x : DecodingState) → KeepsAt s z x → (n : ℕ) → frames x.state ≡ n → (t : Step DecodingState LoopEnd) → picture_step s z m x ≡ t
      → Each (Goes n) (Ends n) t
  step_row x k n q t e =
      let h = search-row s x short k in
      subst (λ (n : ℕ). Each (Goes n) (Ends n) t) (h.2 ∙ q)
      (case_row (after_picture_search s x) h.0 h.1 (subst (StepCase s z m (after_picture_search s x)) e (picture-step-is s z m x)))

  pub pictures-row : (x : DecodingState) → KeepsAt s z x → Ends (frames x.state) (pictures s z m x)
  pictures-row x k =
      let n = frames x.state in
      by_steps s z m x (Goes n) (λ v. Goes n) (Ends n) (step_row x k n refl) (λ v e h. step_row v h.0 n h.1)
