-- For RULES R: one call of a run from an opened record, and what it leaves to the next.
use mathlib.Core.Path.{◌≡◌, refl, sym, ap, subst, ◌∙◌}
use mathlib.Core.Bool.{Bool, true, false, cond, false≢true}
use mathlib.Core.List.{List}
use mathlib.Core.Logic.{◌⊎◌, inl, inr, ⊎_elim}
use Prim.Native.Nat.{ℕ, ◌+◌, ◌*◌, ◌/◌, ◌≤◌, ◌<◌}
use native.Mathlib.Omega.{arith}
use lib.Dec.{eqb, leb}
use lib.ListN.{length, get_or}
use borrow.Author.Tests.{leb-true, le-leb, eq-eqb}
use Rattle.laws.proofs.Loops.{steps-stop}
use Rattle.laws.proofs.Tests.{by-case}
use Rattle.header.specs.Store.{cleared}
use Rattle.header.proofs.Clearing.{cleared-length}
use Rattle.decoder.specs.declared.record.Decoder.{Decoder}
use Rattle.playback.specs.declared.outcome.{Shown.Shown, Outcome.Outcome}
use Rattle.playback.specs.declared.outcome.Outcome.TheVariants as H
use Rattle.picture_state.specs.declared.types.Sizes.{Sizes}
use Rattle.playback.specs.State.{position, frames}
use Rattle.playback.specs.Steps.{DecodingState, LoopEnd, finished, aborted, after_picture_search, picture_step, pictures}
use Rattle.playback.specs.Cases.{is_picture_ready}
use Rattle.decoder.specs.Record.{CallResult, call_result, decoding_state_of, with_stop, store_bytes}
use Rattle.decoder.specs.Possible.{possible_with}
use Rattle.decoder.specs.Headers.{CheckResult, refused, passed, check_header, check_store}
use Rattle.decoder.specs.Decode.{call_result_of, check_header_and_store, start_state, after_checks, decode}
use Rattle.decoder.specs.Run.{CallState, call, state_after, pictures_of_outcome}
use Rattle.decoder.proofs.Cleared.{begun-clears}
use Rattle.decoder.proofs.Fits.{possible-all, marked-possible}
use Rattle.demands.specs.StartCodes.{PictureAhead}
use Rattle.demands.specs.Checks.{ComesToPictures, with_header_if_missing}
use Rattle.demands.specs.After.{AfterHeader, after-3, after-4, after-5, StepOfCall, first_step, second-step}
use Rattle.decoder.specs.Answers.{decode_error_code}
use Rattle.demands.proofs.AfterHeader.{CheckAfter, header-after}
use Rattle.demands.proofs.Keeps.{Keeps, KeepsAt, keeps_resumed, Sized, keeps-sized}
use Rattle.demands.proofs.RunSteps.{Stuck, Ends, hands, flushes, seven, stops, second-code, step_row, pictures-row}
use Rattle.demands.proofs.Waiting.{Waits, waits-sequence, Accepted, Accepts, header_accepts}
use Rattle.bits.specs.Bounds.{longest_stream}

-- ---- a call that is given a record with a header

-- of a record and a store
abbrev pub StuckAt : List ℕ → Decoder → List ℕ → Type 0
StuckAt s d l = Stuck s d.sequence.sizes d.sequence.matrices (decoding_state_of d l)

module _ (s : List ℕ) (short : length s ≤ longest_stream) where
  pub keeps-possible : {d : Decoder} {l : List ℕ} → Keeps s d l → possible_with s d ≡ true
  keeps-possible {d} {l} k =
      let t = k.step in
      possible-all (record {
        inside = omega (arith, t.inside);
        sequence = k.sequence;
        picture = t.picture;
        block = t.block;
        display = t.display;
        mark = rw k.mark refl;
      })

  pub keeps-marked : {d : Decoder} {l : List ℕ} (n : ℕ) → Keeps s d l → (n ≡ 8) ⊎ (n ≡ 9) → possible_with s (with_stop n d) ≡ true
  keeps-marked {d} {l} n k m = marked-possible d n (keeps-possible k) m

  -- the questions 3 to 6 are passed, and the turns follow
  pub keeps-call : (d : Decoder) (l : List ℕ) → Keeps s d l
      → decode d s l ≡ call_result_of d d (pictures s d.sequence.sizes d.sequence.matrices (decoding_state_of d l))
  unfolding decode check_header_and_store check_store after_checks start_state
  keeps-call d l k =
      let room = le-leb (store_bytes d) (length l) k.step.long in
      rw (le-leb (length s) longest_stream short, keeps-possible k, eq-eqb d.stop 0 k.mark, k.header, room) refl

  pub stuck-call : (d : Decoder) (l : List ℕ) → Keeps s d l → StuckAt s d l → decode d s l ≡ call_result (H.Refused 7) d l
  unfolding call_result_of pictures
  stuck-call d l k t =
      keeps-call d l k
      ∙ ap (call_result_of d d)
      (steps-stop (picture_step s d.sequence.sizes d.sequence.matrices) 1 _ (decoding_state_of d l) (finished (H.Refused 7) (decoding_state_of d l)) t)

  pub marked-call : (d : Decoder) (l : List ℕ) → possible_with s d ≡ true → (d.stop ≡ 8) ⊎ (d.stop ≡ 9)
      → decode d s l ≡ call_result (H.Refused d.stop) d l
  unfolding decode
  marked-call d l p m =
      let z : eqb d.stop 0 ≡ false = ⊎_elim (λ (e : d.stop ≡ 8). rw e refl) (λ (e : d.stop ≡ 9). rw e refl) m in
      rw (le-leb (length s) longest_stream short, p, z)

  -- ---- a call that is given a record with none

  pub waits-possible : {d : Decoder} → Waits s d → possible_with s d ≡ true
  waits-possible {d} k =
      possible-all (record {
        inside = omega (arith, k.inside);
        sequence = waits-sequence k;
        picture = k.picture;
        block = k.block;
        display = k.display;
        mark = rw k.mark refl;
      })

  pub waits-marked : {d : Decoder} (n : ℕ) → Waits s d → (n ≡ 8) ⊎ (n ≡ 9) → possible_with s (with_stop n d) ≡ true
  waits-marked {d} n k m = marked-possible d n (waits-possible k) m

  pub waits-call : (d : Decoder) (l : List ℕ) → Waits s d → decode d s l ≡ after_checks s d l (check_store d l (check_header s d))
  unfolding decode check_header_and_store
  waits-call d l k = rw (le-leb (length s) longest_stream short, waits-possible k, eq-eqb d.stop 0 k.mark, k.header) refl

  -- a header is accepted in this call
  pub accepted-call : (d x : Decoder) (l : List ℕ) → Waits s d
      → after_checks s d l (passed x) ≡ call_result_of d x (pictures s x.sequence.sizes x.sequence.matrices (decoding_state_of x (cleared (store_bytes x) l)))
  unfolding after_checks
  accepted-call d x l k = ap (λ (z : DecodingState). call_result_of d x (pictures s x.sequence.sizes x.sequence.matrices z))
      (begun-clears d x l k.header)

  pub accepted-keeps : {x : Decoder} (l : List ℕ) → Accepted s x → leb (store_bytes x) (length l) ≡ true → Keeps s x (cleared (store_bytes x) l)
  accepted-keeps {x} l k e =
      let h = leb-true (store_bytes x) (length l) e in k.keeps (cleared (store_bytes x) l) (omega (arith, cleared-length (store_bytes x) l h))

-- how the turns from the record x on end
abbrev pub EndsFrom : (s : List ℕ) → length s ≤ longest_stream → ((k : ℕ) → get_or s k 0 < 256)
    → (x : Decoder) {m : List ℕ} → Keeps s x m → ℕ → LoopEnd → Type 0
EndsFrom s short bytes x k = Ends s x.sequence.sizes x.sequence.matrices short bytes (keeps-sized k)

pub steps-end : (s : List ℕ) (short : length s ≤ longest_stream) (bytes : (k : ℕ) → get_or s k 0 < 256) (x : Decoder) {m : List ℕ} (k : Keeps s x m)
    → EndsFrom s short bytes x k (frames x.state) (pictures s x.sequence.sizes x.sequence.matrices (decoding_state_of x m))
steps-end s short bytes x {m} k = pictures-row s x.sequence.sizes x.sequence.matrices short bytes (keeps-sized k) (decoding_state_of x m) k.step

-- ---- between two calls

-- record and store, with n pictures handed out so far
pub data Between (s : List ℕ) (x : CallState) (n : ℕ) : Type 0 where
  waiting : Waits s x.decoder → n ≡ 0 → Between s x n
  live : Keeps s x.decoder x.store → n ≡ frames x.decoder.state → Between s x n
  stuck : Keeps s x.decoder x.store → StuckAt s x.decoder x.store → n ≤ frames x.decoder.state + 1 → Between s x n
  marked : possible_with s x.decoder ≡ true → (x.decoder.stop ≡ 8) ⊎ (x.decoder.stop ≡ 9) → 29 * n ≤ length s * 8 + 29 → Between s x n

abbrev pub Resting : List ℕ → CallState → Type 0
Resting s x = Keeps s x.decoder x.store × StuckAt s x.decoder x.store

not-seven : {A : Type 0} {n : ℕ} → (n ≡ 8) ⊎ (n ≡ 9) → n ≡ 7 → A
not-seven (inl e) h = let no : ⊥ = omega arith in absurd no
not-seven (inr e) h = let no : ⊥ = omega arith in absurd no

-- a picture is not 7
not-picture : {A : Type 0} {i : Shown} → H.Picture i ≡ H.Refused 7 → A
not-picture q = let z : ◌≡◌ {A = ℕ} 0 7 = ap decode_error_code q in let no : ⊥ = omega arith in absurd no

header-number : {s : List ℕ} {d x : Decoder} {n : ℕ} → AfterHeader s d n x → n ≤ 5
header-number (after-3 n e) = omega arith
header-number (after-4 e f) = omega arith
header-number (after-5 e f g) = omega arith

module _ (s : List ℕ) (short : length s ≤ longest_stream) (bytes : (k : ℕ) → get_or s k 0 < 256) where
  -- the turns from x, m on, in a call that was given d
  ended-on : (d x : Decoder) (m : List ℕ) (n : ℕ) (e : LoopEnd) → (k : Keeps s x m) → n ≡ frames x.state
      → ((i : ℕ) → (i ≡ 8) ⊎ (i ≡ 9) → possible_with s (with_stop i d) ≡ true)
      → EndsFrom s short bytes x k (frames x.state) e
      → Between s (state_after (call_result_of d x e)) (n + pictures_of_outcome (call_result_of d x e).answer)
  unfolding call_result_of
  ended-on d x m n (finished (H.Picture i) y) k q p (hands j e) = live (keeps_resumed k j) (omega arith)
  ended-on d x m n (finished (H.Picture i) y) k q p (flushes j e u) = stuck (keeps_resumed k j) u (omega arith)
  ended-on d x m n (finished (H.Refused i) y) k q p (seven j e u) = stuck (keeps_resumed k j) u (omega arith)
  ended-on d x m n (aborted i o) k q p (stops e) = marked (p i e) e (omega (arith, k.step.count, k.step.inside))

  -- R.2: a call that answers 7 leaves a record and a store at which every call answers 7
  ended-seven : (d x : Decoder) (m : List ℕ) (n : ℕ) (e : LoopEnd) → (k : Keeps s x m) → EndsFrom s short bytes x k n e
      → (call_result_of d x e).answer ≡ H.Refused 7 → Resting s (state_after (call_result_of d x e))
  unfolding call_result_of
  ended-seven d x m n (finished (H.Picture i) y) k r h = not-picture h
  ended-seven d x m n (finished (H.Refused i) y) k (seven j e u) h = (keeps_resumed k j, u)
  ended-seven d x m n (aborted i o) k (stops e) h = not-seven e (ap decode_error_code h)

  abbrev Onward : ℕ → CallResult Outcome → Type 0
  Onward n r = Between s (state_after r) (n + pictures_of_outcome r.answer) × (r.answer ≡ H.Refused 7 → Resting s (state_after r))

  steps_on : (d x : Decoder) (m : List ℕ) (n : ℕ) → Keeps s x m → n ≡ frames x.state
      → ((i : ℕ) → (i ≡ 8) ⊎ (i ≡ 9) → possible_with s (with_stop i d) ≡ true)
      → Onward n (call_result_of d x (pictures s x.sequence.sizes x.sequence.matrices (decoding_state_of x m)))
  steps_on d x m n k q p =
      let e = pictures s x.sequence.sizes x.sequence.matrices (decoding_state_of x m) in
      let r = steps-end s short bytes x k in
      (ended-on d x m n e k q p r, ended-seven d x m (frames x.state) e k r)

  checked-on : (d : Decoder) (l : List ℕ) → Waits s d → (a : CheckResult) → Accepts s a → CheckAfter s d a → Onward 0 (after_checks s d l (check_store d l a))
  unfolding check_store after_checks
  checked-on d l k (refused n x) h r =
      (waiting h refl, λ e. let z : n ≡ 7 = ap decode_error_code e in let no : ⊥ = omega (arith, header-number r) in absurd no)
  checked-on d l k (passed x) h r =
      by-case (λ a. Onward 0 (after_checks s d l a)) (leb (store_bytes x) (length l))
      (λ e. let j = accepted-keeps s short l h e in
      subst (Onward 0) (sym (accepted-call s short d x l k))
      (steps_on d x (cleared (store_bytes x) l) 0 j (sym h.count) (λ i m. waits-marked s short i k m)))
      (λ e. (waiting k refl, λ q. let z : ◌≡◌ {A = ℕ} 6 7 = ap decode_error_code q in let no : ⊥ = omega arith in absurd no))

  pub call-on : {x : CallState} {n : ℕ} → Between s x n → Onward n (call s x)
  call-on {x} {n} (waiting k q) =
      let d = x.decoder in
      let l = x.store in
      subst (Onward n) (sym (waits-call s short d l k))
      (subst (λ (i : ℕ). Onward i (after_checks s d l (check_store d l (check_header s d)))) (sym q)
      (checked-on d l k (check_header s d) (header_accepts k short) (header-after s d short)))
  call-on {x} {n} (live k q) =
      let d = x.decoder in
      let l = x.store in
      subst (Onward n) (sym (keeps-call s short d l k)) (steps_on d d l n k q (λ i m. keeps-marked s short i k m))
  call-on {x} {n} (stuck k t q) = subst (Onward n) (sym (stuck-call s short x.decoder x.store k t)) (stuck k t (omega arith), λ h. (k, t))
  call-on {x} {n} (marked p m q) =
      subst (Onward n) (sym (marked-call s short x.decoder x.store p m)) (marked p m (omega arith), λ h. not-seven m (ap decode_error_code h))

  -- R.1
  pub few : {x : CallState} {n : ℕ} → Between s x n → n ≤ 8 * length s / 29 + 1
  few (waiting k q) = omega arith
  few (live k q) = omega arith
  few (stuck k t q) = omega arith
  few (marked p m q) = omega arith

  -- R.3
  pub admitted : {x : CallState} {n : ℕ} → Between s x n → possible_with s x.decoder ≡ true
  admitted (waiting k q) = waits-possible s short k
  admitted (live k q) = keeps-possible s short k
  admitted (stuck k t q) = keeps-possible s short k
  admitted (marked p m q) = p

  -- ---- the turns of a call that comes to its pictures

  abbrev is_passed : CheckResult → Bool
  is_passed (refused n x) = false
  is_passed (passed x) = true

  abbrev record_in : Decoder → CheckResult → Decoder
  record_in d (refused n x) = d
  record_in d (passed x) = x

  passed-keeps : (d y : Decoder) (l : List ℕ) (a : CheckResult) → Accepts s a → check_store d l a ≡ passed y → Keeps s y (cleared (store_bytes y) l)
  unfolding check_store
  passed-keeps d y l (refused n x) h e = absurd (false≢true (ap is_passed e))
  passed-keeps d y l (passed x) h e = go (leb (store_bytes x) (length l)) refl e
    where
      go : (b : Bool) → leb (store_bytes x) (length l) ≡ b → cond b (passed x) (refused 6 d) ≡ passed y → Keeps s y (cleared (store_bytes y) l)
      go true q i = subst (λ (z : Decoder). Keeps s z (cleared (store_bytes z) l)) (ap (record_in d) i) (accepted-keeps s short l h q)
      go false q i = absurd (false≢true (ap is_passed i))

  checks-header : (d : Decoder) (l : List ℕ) → d.sequence.has_sequence_header ≡ false → check_header_and_store s d l ≡ check_store d l (check_header s d)
  unfolding check_header_and_store
  checks-header d l h = rw h refl

  -- what its turns are given
  record Begun (x : CallState) (y : Decoder) : Type 0 where
    sized : Sized y.sequence.sizes
    keeps : KeepsAt s y.sequence.sizes (start_state x.decoder y x.store)

  begun : {x : CallState} {n : ℕ} → Between s x n → ComesToPictures x.decoder s x.store → Begun x (with_header_if_missing s x.decoder)
  unfolding start_state
  begun {x} (waiting k q) c =
      let d = x.decoder in
      let y = with_header_if_missing s d in
      let j = passed-keeps d y x.store (check_header s d) (header_accepts k short) (sym (checks-header d x.store k.header) ∙ c.header) in
      record { sized = keeps-sized j; keeps = subst (KeepsAt s y.sequence.sizes) (sym (begun-clears d y x.store k.header)) j.step }
  begun {x} (live k q) c = rw k.header (record { sized = keeps-sized k; keeps = k.step })
  begun {x} (stuck k t q) c = rw k.header (record { sized = keeps-sized k; keeps = k.step })
  begun {x} (marked p m q) c =
      let z = c.mark in
      let no : ⊥ = ⊎_elim (λ (e : x.decoder.stop ≡ 8). omega arith) (λ (e : x.decoder.stop ≡ 9). omega arith) m in absurd no

  -- RULES 8.3: the exact end of the bits stands for no second picture
  pub turn-followed : {x : CallState} {n : ℕ} → Between s x n → ComesToPictures x.decoder s x.store → (g : DecodingState)
      → StepOfCall x.decoder s x.store g → is_picture_ready s (after_picture_search s g).state ≡ true
      → PictureAhead s (position (after_picture_search s g).state)
  turn-followed {x} b c g i r = second-code s {z = z} g short (go i) r
    where
      k : Begun x (with_header_if_missing s x.decoder)
      k = begun b c

      z : Sizes
      z = (with_header_if_missing s x.decoder).sequence.sizes

      go : {g : DecodingState} → StepOfCall x.decoder s x.store g → KeepsAt s z g
      go first_step = k.keeps
      go (second-step e) = (step_row s z _ short bytes k.sized _ k.keeps _ refl _ e).0
