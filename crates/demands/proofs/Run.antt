-- RULES R.1 to R.3: what holds over a run of calls, from every opening. A stream is one of bytes.
use mathlib.Core.Path.{◌≡◌, refl, sym, ap, subst, ◌∙◌}
use mathlib.Core.Bool.{Bool, true, false}
use mathlib.Core.List.{List, []}
use Prim.Native.Nat.{ℕ, zero, suc, ◌+◌, ◌*◌, ◌/◌, ◌≤◌, ◌<◌}
use native.Mathlib.Nat.{add-zero, add-suc, suc-add}
use native.Mathlib.Omega.{arith}
use lib.Dec.{leb}
use lib.ListN.{length, get_or}
use borrow.Author.Tests.{leb-true}
use Rattle.laws.proofs.Tests.{by-case}
use Rattle.header.specs.Store.{cleared}
use Rattle.decoder.specs.declared.record.Decoder.{Decoder}
use Rattle.decoder.specs.declared.answers.Opening.{Opening}
use Rattle.playback.specs.declared.outcome.Outcome.{Outcome}
use Rattle.playback.specs.declared.outcome.Outcome.TheVariants as H
use Rattle.decoder.specs.Record.{CallResult, call_result, fresh, store_bytes}
use Rattle.decoder.specs.Possible.{possible_with}
use Rattle.decoder.specs.Headers.{CheckResult, refused, passed, check_header, check_store}
use Rattle.decoder.specs.Opening.{opened, opening_from, opening}
use Rattle.decoder.specs.Decode.{decode}
use Rattle.decoder.specs.Run.{CallState, call_state, call, state_after, state_after_opening, state_before_call, answer, pictures_output}
use Rattle.decoder.specs.Answers.{decode_error_code}
use Rattle.demands.proofs.Waiting.{Waits, Accepted, fresh-waits, Accepts, header_accepts}
use Rattle.demands.proofs.RunCall.{Between, waiting, live, Resting, accepted-keeps, waits-possible, stuck-call, call-on, few, admitted}
use Rattle.bits.specs.Bounds.{longest_stream}

-- RULES Q1: a stream is not too long, or it is
pub by_length : (s : List ℕ) (P : Type 0) → (length s ≤ longest_stream → P) → (leb (length s) longest_stream ≡ false → P) → P
by_length s P f g = go (leb (length s) longest_stream) refl
  where
    go : (b : Bool) → leb (length s) longest_stream ≡ b → P
    go true e = f (leb-true (length s) longest_stream e)
    go false e = g e

-- what opening leaves: a record that waits for a header, or one that has accepted it, and its store cleared
module _ (s : List ℕ) (short : length s ≤ longest_stream) (P : CallState → Type 0) (waits : (x : Decoder) (l : List ℕ) → Waits s x → P (call_state x l))
    (accepts : (x : Decoder) (l : List ℕ) → Accepted s x → leb (store_bytes x) (length l) ≡ true → P (call_state x (cleared (store_bytes x) l))) where
  abbrev Leaves : CallResult Opening → Type 0
  Leaves r = P (call_state r.decoder r.store)

  checked-leaves : (l : List ℕ) (a : CheckResult) → Accepts s a → Leaves (opened l (check_store fresh l a))
  unfolding opened check_store
  checked-leaves l (refused n x) h = waits x l h
  checked-leaves l (passed x) h =
      by-case (λ a. Leaves (opened l a)) (leb (store_bytes x) (length l)) (λ e. accepts x l h e) (λ e. waits fresh l (fresh-waits s))

  pub opening-leaves : (l : List ℕ) → Leaves (opening s l)
  unfolding opening opening_from
  opening-leaves l =
      by-case Leaves (leb (length s) longest_stream) (λ e. checked-leaves l (check_header s fresh) (header_accepts (fresh-waits s) short))
      (λ e. waits fresh l (fresh-waits s))

-- ---- a stream that is not too long

module _ (s : List ℕ) (short : length s ≤ longest_stream) (bytes : (k : ℕ) → get_or s k 0 < 256) where
  pub run_on : {x : CallState} → Between s x 0 → (n : ℕ) → Between s (state_before_call s x n) (pictures_output s x n)
  unfolding state_before_call pictures_output answer
  run_on b zero = b
  run_on b (suc n) = (call-on s short bytes (run_on b n)).0

  rests-on : (x : CallState) (n k : ℕ) → Resting s (state_before_call s x n) → Resting s (state_before_call s x (n + k))
  unfolding state_before_call
  rests-on x n zero r = rw (add-zero n) r
  rests-on x n (suc k) r =
      let y = state_before_call s x (n + k) in
      let q = rests-on x n k r in
      rw (add-suc n k) (rw (stuck-call s short y.decoder y.store q.0 q.1) q)

  seven-again : (x : CallState) (n : ℕ) → Resting s (state_before_call s x n) → answer s x n ≡ H.Refused 7
  unfolding answer
  seven-again x n r = let y = state_before_call s x n in ap (λ (r : CallResult Outcome). r.answer) (stuck-call s short y.decoder y.store r.0 r.1)

  pub seven-stays : (x : CallState) (n k : ℕ) → Between s x 0 → answer s x n ≡ H.Refused 7 → answer s x (n + k) ≡ H.Refused 7
  unfolding state_before_call answer
  seven-stays x n zero b h = rw (add-zero n) h
  seven-stays x n (suc k) b h =
      rw (add-suc n k) (seven-again x (suc (n + k)) (rw (suc-add n k) at (rests-on x (suc n) k ((call-on s short bytes (run_on b n)).1 h))))

  pub opening-begins : (l : List ℕ) → Between s (call_state (opening s l).decoder (opening s l).store) 0
  opening-begins =
      opening-leaves s short (λ x. Between s x 0) (λ x l h. waiting h refl) (λ x l h e. live (accepted-keeps s short l h e) (sym h.count))

-- ---- a stream that is too long: every call answers 1 and changes nothing

module _ (s l : List ℕ) (long : leb (length s) longest_stream ≡ false) where
  pub long-call : (x : CallState) → call s x ≡ call_result (H.Refused 1) x.decoder x.store
  unfolding decode
  long-call x = rw long refl

  pub long-begin : state_after_opening s l ≡ call_state fresh l
  unfolding opening
  long-begin = rw long refl

  long-before : (x : CallState) (n : ℕ) → state_before_call s x n ≡ x
  unfolding state_before_call
  long-before x zero = refl
  long-before x (suc n) = rw (long-before x n) (ap state_after (long-call x))

  long-answer : (x : CallState) (n : ℕ) → answer s x n ≡ H.Refused 1
  unfolding answer
  long-answer x n = ap (λ (r : CallResult Outcome). r.answer) (long-call (state_before_call s x n))

  long-output : (x : CallState) (n : ℕ) → pictures_output s x n ≡ 0
  unfolding pictures_output
  long-output x zero = refl
  long-output x (suc n) = rw (long-output x n, long-answer x n)

-- ---- every stream and every store

module _ (s l : List ℕ) (bytes : (k : ℕ) → get_or s k 0 < 256) where
  -- R.1
  pub few-pictures : (n : ℕ) → pictures_output s (state_after_opening s l) n ≤ 8 * length s / 29 + 1
  few-pictures n =
      by_length s _ (λ h. few s h bytes (run_on s h bytes (opening-begins s h bytes l) n))
      (λ h. omega (arith, long-output s l h (state_after_opening s l) n))

  -- R.2
  pub seven-for-good : (n k : ℕ) → answer s (state_after_opening s l) n ≡ H.Refused 7 → answer s (state_after_opening s l) (n + k) ≡ H.Refused 7
  seven-for-good n k e =
      by_length s _ (λ h. seven-stays s h bytes (state_after_opening s l) n k (opening-begins s h bytes l) e)
      (λ h. let z : ◌≡◌ {A = ℕ} 1 7 = ap decode_error_code (sym (long-answer s l h (state_after_opening s l) n) ∙ e) in let no : ⊥ = omega arith in absurd no)

  -- R.3
  pub always-possible : (n : ℕ) → possible_with s (state_before_call s (state_after_opening s l) n).decoder ≡ true
  always-possible n =
      by_length s _ (λ h. admitted s h bytes (run_on s h bytes (opening-begins s h bytes l) n))
      (λ h. subst (λ (y : CallState). possible_with s y.decoder ≡ true) (sym (long-before s l h (state_after_opening s l) n ∙ long-begin s l h))
      (waits-possible [] (omega arith) (fresh-waits [])))
