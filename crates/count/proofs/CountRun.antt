-- What a count says of the run of calls from an accepted opening (RULES R). A stream is one of bytes, as every slice that is lent is.
use mathlib.Core.Path.{◌≡◌, refl, sym, ap, subst, ◌∙◌}
use mathlib.Core.Bool.{true, false≢true}
use mathlib.Core.List.{List, [], ◌∷◌}
use mathlib.Core.Logic.{◌⊎◌, inl, inr, ⊎_elim}
use Prim.Native.Nat.{ℕ, zero, suc, ◌+◌, ◌*◌, ◌/◌, ◌≤◌, ◌<◌}
use native.Mathlib.Nat.{eq-or-lt_of_le}
use native.Mathlib.Omega.{arith}
use lib.ListN.{length, get_or}
use Rattle.bits.specs.Bounds.{longest_stream}
use Rattle.bits.specs.Programs.{stream_fuel}
use Rattle.decoder.specs.declared.record.Decoder.{Decoder}
use Rattle.decoder.specs.declared.answers.{Opening.Opening, Opened.Opened}
use Rattle.decoder.specs.declared.answers.Opening.TheVariants as O
use Rattle.playback.specs.declared.outcome.Outcome.{Outcome}
use Rattle.playback.specs.declared.outcome.Outcome.TheVariants as H
use Rattle.decoder.specs.Record.{CallResult, call_result}
use Rattle.decoder.specs.Headers.{accepted}
use Rattle.decoder.specs.Answers.{result, number, decode_answer}
use Rattle.decoder.specs.Opening.{opening}
use Rattle.playback.specs.Steps.{LoopEnd, finished, aborted}
use Rattle.decoder.specs.Decode.{call_result_of}
use Rattle.decoder.specs.Calls.{Opens}
use Rattle.decoder.specs.Run.{CallState, call_state, call, state_after_opening, state_before_call, answer, pictures_of_outcome, pictures_output}
use Rattle.demands.specs.ErrorCodes.{member}
use Rattle.demands.proofs.After.{opening-ready}
use Rattle.demands.proofs.Keeps.{Keeps}
use Rattle.demands.proofs.RunSteps.{seven, stops}
use Rattle.demands.proofs.RunCall.{EndsFrom, steps-end, Between, waiting, live, stuck, marked, keeps-call, stuck-call, marked-call, few}
use Rattle.demands.proofs.DemandRun.{decodes-call, calls-before, calls-output}
use Rattle.demands.proofs.Run.{run_on, opening-begins, seven-for-good}
use Rattle.count.specs.Count.{Counts, counts, count_from, count_of, counts_in, CountsRun, CountsCalls}
use Rattle.count.proofs.Counting.{ready-short}

-- the calls 0 .. n - 1 handed out a picture each
record Handed (s : List ℕ) (x : CallState) (n : ℕ) : Type 0 where
  pictures : (k : ℕ) → k < n → pictures_of_outcome (answer s x k) ≡ 1
  output : pictures_output s x n ≡ n

module _ (s : List ℕ) (x : CallState) (n : ℕ) (h : Handed s x n) (one : pictures_of_outcome (answer s x n) ≡ 1) where
  one_more : Handed s x (suc n)
  unfolding pictures_output
  one_more = record {
    pictures = λ k p. ⊎_elim (λ (e : k ≡ n). rw e one) (λ (q : k < n). h.pictures k q) (eq-or-lt_of_le (omega arith));
    output = let z = h.output in omega arith;
  }

-- ---- the number

-- the numbers of a record with a header
abbrev Ending : Outcome → Type 0
Ending o = elim o [ H.Picture i ↦ Unit {0} | H.Refused a ↦ member a (7 ∷ 8 ∷ 9 ∷ []) ≡ true ]

mark-ending : {n : ℕ} → (n ≡ 8) ⊎ (n ≡ 9) → Ending (H.Refused n)
unfolding member
mark-ending (inl e) = rw e refl
mark-ending (inr e) = rw e refl

module _ (s : List ℕ) (short : length s ≤ longest_stream) (bytes : (k : ℕ) → get_or s k 0 < 256) where
  abbrev Ends-with : CallResult Outcome → Type 0
  Ends-with r = Ending r.answer

  ended-ending : (d : Decoder) (l : List ℕ) (k : Keeps s d l) (n : ℕ) (e : LoopEnd) → EndsFrom s short bytes d k n e → Ending (call_result_of d d e).answer
  unfolding call_result_of member
  ended-ending d l k n (finished (H.Picture i) x) r = tt
  ended-ending d l k n (finished (H.Refused i) x) (seven j e u) = refl
  ended-ending d l k n (aborted i m) (stops e) = mark-ending e

  call-ending : {x : CallState} {n : ℕ} → Between s x n → (n ≡ 0 → x.decoder.sequence.has_sequence_header ≡ true) → Ends-with (call s x)
  unfolding member
  call-ending (waiting k q) h = absurd (false≢true (sym k.header ∙ h q))
  call-ending {x} (live k q) h =
      let d = x.decoder in let l = x.store in
      subst Ends-with (sym (keeps-call s short d l k)) (ended-ending d l k _ _ (steps-end s short bytes d k))
  call-ending {x} (stuck k t q) h = subst Ends-with (sym (stuck-call s short x.decoder x.store k t)) refl
  call-ending {x} (marked p m q) h = subst Ends-with (sym (marked-call s short x.decoder x.store p m)) (mark-ending m)

-- ---- the run

module _ (s : List ℕ) (short : length s ≤ longest_stream) (bytes : (k : ℕ) → get_or s k 0 < 256) (x : CallState) (begins : Between s x 0)
    (header : x.decoder.sequence.has_sequence_header ≡ true) where
  -- RULES R.1: the fuel is more than the pictures that are left
  from-run : (j n : ℕ) → Handed s x n → 8 * length s / 29 + 1 < n + j
      → CountsRun s x (count_from j s n (state_before_call s x n).decoder (state_before_call s x n).store)
  unfolding count_from state_before_call answer
  from-run zero n h p =
      let f = few s short bytes (run_on s short bytes begins n) in let z = h.output in let no : ⊥ = omega arith in absurd no
  from-run (suc j) n h p = go (answer s x n) refl (λ r. from-run j (suc n) r (omega arith))
    where
      next : CallState
      next = state_before_call s x (suc n)

      first : n ≡ 0 → (state_before_call s x n).decoder.sequence.has_sequence_header ≡ true
      first q = rw q header

      go : (o : Outcome) → answer s x n ≡ o → (Handed s x (suc n) → CountsRun s x (count_from j s (suc n) next.decoder next.store))
          → CountsRun s x (elim (decode_answer o) [ result i ↦ count_from j s (n + 1) next.decoder next.store | number a ↦ counts a n next.store ])
      go (H.Picture i) e r =
          subst (λ (k : ℕ). CountsRun s x (count_from j s k next.decoder next.store)) (omega arith)
          (r (one_more s x n h (ap pictures_of_outcome e)))
      go (H.Refused a) e r = record {
        pictures = h.pictures;
        output = h.output;
        ends = e;
        number = subst Ending e (call-ending s short bytes (run_on s short bytes begins n) (λ q. first (sym h.output ∙ q)));
        stored = refl;
      }

-- ---- every stream and every store

-- refused by opening: no picture, and the number is that of the refusal
pub count-refused : (s l : List ℕ) (a : ℕ) → (opening s l).answer ≡ O.Refused a → counts_in s l ≡ counts a 0 (opening s l).store
unfolding count_of
count-refused s l a e = rw e refl

ready-header : (s l : List ℕ) → (opening s l).answer ≡ O.Ready → (opening s l).decoder.sequence.has_sequence_header ≡ true
unfolding accepted
ready-header s l e = ap (λ (d : Decoder). d.sequence.has_sequence_header) (opening-ready s l e).decoder

-- a run of calls is the run that the definitions give
run_calls : {s : List ℕ} {x : CallState} {c : Counts} → CountsRun s x c → CountsCalls s x c
unfolding state_before_call answer
run_calls {s} {x} {c} k = record {
  pictures = λ rs y h e. calls-output h ∙ ap (pictures_output s x) e ∙ k.output ∙ sym e;
  ends = λ rs y h e r m gave.
      let at : y ≡ state_before_call s x c.pictures = calls-before h ∙ ap (state_before_call s x) e in
      let is : call_result r.outcome r.decoder m ≡ call s (state_before_call s x c.pictures) = decodes-call s y r m gave ∙ ap (call s) at in
      (ap (λ (q : CallResult Outcome). q.answer) is ∙ k.ends, ap (λ (q : CallResult Outcome). q.store) is ∙ k.stored);
  number = k.number;
}

module _ (s l : List ℕ) (bytes : (k : ℕ) → get_or s k 0 < 256) (ready : (opening s l).answer ≡ O.Ready) where
  -- RULES R: the count is that of the run
  pub count_runs : CountsRun s (state_after_opening s l) (counts_in s l)
  unfolding count_of state_before_call pictures_output
  count_runs =
      let h = ready-short s l ready in
      rw ready
      (from-run s h bytes (state_after_opening s l) (opening-begins s h bytes l) (ready-header s l ready) stream_fuel 0
      (record { pictures = λ k p. omega arith; output = refl }) (omega arith))

  -- RULES R.2: behind 7 no call hands out a picture
  pub count-all : (counts_in s l).answer ≡ 7 → (k : ℕ) → answer s (state_after_opening s l) ((counts_in s l).pictures + k) ≡ H.Refused 7
  count-all e k = seven-for-good s l bytes (counts_in s l).pictures k (count_runs.ends ∙ ap H.Refused e)

-- behind a call of `open` that was ready
pub count_calls : (s l : List ℕ) → ((k : ℕ) → get_or s k 0 < 256) → (r : Opened) (m : List ℕ) → Opens s l r m → r.answer ≡ O.Ready
    → CountsCalls s (call_state r.decoder m) (counts_in s l)
count_calls s l bytes r m gave ready =
    subst (λ (q : CallResult Opening). CountsCalls s (call_state q.decoder q.store) (counts_in s l)) (sym gave)
    (run_calls (count_runs s l bytes (ap (λ (q : CallResult Opening). q.answer) (sym gave) ∙ ready)))
