-- RULES D2.5, R.1 to R.3: of the calls that follow an opening, whatever it answered. By their contracts the calls gave r and rs (specs/Calls.antt); a stream is
-- one of bytes, as every slice that is lent is.
use mathlib.Core.Path.{◌≡◌, refl, sym, ap, ap₂, subst, ◌∙◌}
use mathlib.Core.Bool.{true, false}
use mathlib.Core.List.{List, []}
use Prim.Native.Nat.{ℕ, zero, suc, ◌+◌, ◌*◌, ◌/◌, ◌≤◌, ◌<◌}
use native.Mathlib.Omega.{arith}
use lib.Dec.{leb}
use lib.ListN.{length, get_or}
use Rattle.decoder.specs.declared.answers.{Opening.Opening, Opened.Opened, DecodeResult.DecodeResult}
use Rattle.playback.specs.declared.outcome.Outcome.{Outcome}
use Rattle.playback.specs.declared.outcome.Outcome.TheVariants as H
use Rattle.playback.specs.State.{position}
use Rattle.playback.specs.Steps.{DecodingState, after_picture_search}
use Rattle.playback.specs.Cases.{is_picture_ready}
use Rattle.decoder.specs.Record.{CallResult, call_result}
use Rattle.decoder.specs.Possible.{possible}
use Rattle.decoder.specs.Run.{CallState, call_state, call, state_after, state_after_opening, state_before_call, answer, pictures_of_outcome, pictures_output}
use Rattle.decoder.specs.Answers.{decode_error_code}
use Rattle.decoder.specs.Calls.{Opens, Decodes}
use Rattle.demands.specs.StartCodes.{PictureAhead}
use Rattle.demands.specs.Checks.{ComesToPictures}
use Rattle.demands.specs.After.{StepOfCall}
use Rattle.demands.specs.Calls.{Calls, none, and_then, pictures_in, AllWithoutPicture, NoPictureStays}
use Rattle.demands.proofs.Waiting.{fresh-waits}
use Rattle.demands.proofs.RunCall.{Between, Resting, waits-possible, stuck-call, call-on, few, admitted, turn-followed}
use Rattle.demands.proofs.Run.{by_length, opening-begins, long-call, long-begin}
use Rattle.bits.specs.Bounds.{longest_stream}

-- ---- a run of calls is the run of `call` (decoder, Run.antt)

before_suc : (s : List ℕ) (x : CallState) (n : ℕ) → state_before_call s x (suc n) ≡ state_before_call s (state_after (call s x)) n
unfolding state_before_call
before_suc s x zero = refl
before_suc s x (suc n) = ap (λ (y : CallState). state_after (call s y)) (before_suc s x n)

answer_suc : (s : List ℕ) (x : CallState) (n : ℕ) → answer s x (suc n) ≡ answer s (state_after (call s x)) n
unfolding answer
answer_suc s x n = ap (λ (y : CallState). (call s y).answer) (before_suc s x n)

output_suc : (s : List ℕ) (x : CallState) (n : ℕ)
    → pictures_output s x (suc n) ≡ pictures_of_outcome (call s x).answer + pictures_output s (state_after (call s x)) n
unfolding pictures_output answer state_before_call
output_suc s x zero = omega arith
output_suc s x (suc n) = omega (arith, output_suc s x n, ap pictures_of_outcome (answer_suc s x n))

-- a call that decodes is `call`
pub decodes-call : (s : List ℕ) (x : CallState) (r : DecodeResult) (m : List ℕ) → Decodes x.decoder s x.store r m
    → call_result r.outcome r.decoder m ≡ call s x
decodes-call s x r m gave = gave

pub calls-before : {s : List ℕ} {x : CallState} {rs : List DecodeResult} {y : CallState} → Calls s x rs y → y ≡ state_before_call s x (length rs)
unfolding state_before_call
calls-before none = refl
calls-before {s} {x} (and_then {r = r} {m = m} {rs = rs} gave k) =
    calls-before k ∙ ap (λ (q : CallResult Outcome). state_before_call s (state_after q) (length rs)) (decodes-call s x r m gave)
    ∙ sym (before_suc s x (length rs))

pub calls-output : {s : List ℕ} {x : CallState} {rs : List DecodeResult} {y : CallState} → Calls s x rs y → pictures_in rs ≡ pictures_output s x (length rs)
unfolding pictures_in pictures_output
calls-output none = refl
calls-output {s} {x} (and_then {r = r} {m = m} {rs = rs} gave k) =
    let e = decodes-call s x r m gave in
    ap₂ ◌+◌ (ap (λ (q : CallResult Outcome). pictures_of_outcome q.answer) e)
    (calls-output k ∙ ap (λ (q : CallResult Outcome). pictures_output s (state_after q) (length rs)) e)
    ∙ sym (output_suc s x (length rs))

module _ (s : List ℕ) (short : length s ≤ longest_stream) (bytes : (k : ℕ) → get_or s k 0 < 256) where
  calls-on : {x : CallState} {n : ℕ} {rs : List DecodeResult} {y : CallState} → Between s x n → Calls s x rs y → Between s y (n + pictures_in rs)
  unfolding pictures_in
  calls-on {x} {n} b none = subst (Between s x) (omega arith) b
  calls-on {x} {n} {y = y} b (and_then {r = r} {rs = rs} gave k) =
      subst (Between s y) (omega arith)
      (calls-on (subst (λ (q : CallResult Outcome). Between s (state_after q) (n + pictures_of_outcome q.answer)) (sym gave) (call-on s short bytes b).0) k)

  rests : {x : CallState} {rs : List DecodeResult} {y : CallState} → Resting s x → Calls s x rs y → AllWithoutPicture rs
  rests k none = tt
  rests {x} k (and_then gave c) =
      let e = stuck-call s short x.decoder x.store k.0 k.1 in
      (ap (λ (q : CallResult Outcome). q.answer) (gave ∙ e), rests (subst (λ (q : CallResult Outcome). Resting s (state_after q)) (sym (gave ∙ e)) k) c)

  stays : {x : CallState} {n : ℕ} {rs : List DecodeResult} {y : CallState} → Between s x n → Calls s x rs y → NoPictureStays rs
  stays b none = tt
  stays {n = n} b (and_then {r = r} gave c) =
      let o = call-on s short bytes b in
      let seven = subst (λ (q : CallResult Outcome). q.answer ≡ H.Refused 7 → Resting s (state_after q)) (sym gave) o.1 in
      (λ h. rests (seven h) c, stays (subst (λ (q : CallResult Outcome). Between s (state_after q) (n + pictures_of_outcome q.answer)) (sym gave) o.0) c)

-- a stream that is too long
module _ (s : List ℕ) (long : leb (length s) longest_stream ≡ false) where
  long-run : {x : CallState} {rs : List DecodeResult} {y : CallState} → Calls s x rs y → (pictures_in rs ≡ 0) × NoPictureStays rs × (y.decoder ≡ x.decoder)
  unfolding pictures_in
  long-run none = (refl, tt, refl)
  long-run {x} (and_then {r = r} gave c) =
      let e = gave ∙ long-call s [] long x in
      let one : r.outcome ≡ H.Refused 1 = ap (λ (q : CallResult Outcome). q.answer) e in
      let k = long-run c in
      let z : pictures_of_outcome r.outcome ≡ 0 = ap pictures_of_outcome one in (
        omega (arith, k.0),
        (λ h. let w : ◌≡◌ {A = ℕ} 1 7 = ap decode_error_code (sym one ∙ h) in let no : ⊥ = omega arith in absurd no, k.1),
        k.2 ∙ ap (λ (q : CallResult Outcome). q.decoder) e,
      )

module _ (s l : List ℕ) (r : Opened) (m : List ℕ) (gave : Opens s l r m) (bytes : (k : ℕ) → get_or s k 0 < 256) (rs : List DecodeResult) (y : CallState)
    (calls : Calls s (call_state r.decoder m) rs y) where
  opened : call_state r.decoder m ≡ state_after_opening s l
  opened = ap (λ (x : CallResult Opening). call_state x.decoder x.store) gave

  start : length s ≤ longest_stream → Between s (call_state r.decoder m) 0
  start h = subst (λ (x : CallState). Between s x 0) (sym opened) (opening-begins s h bytes l)

  -- R.1
  pub run-few : pictures_in rs ≤ 8 * length s / 29 + 1
  run-few =
      by_length s (pictures_in rs ≤ 8 * length s / 29 + 1) (λ h. omega (arith, few s h bytes (calls-on s h bytes (start h) calls)))
      (λ h. omega (arith, (long-run s h calls).0))

  -- R.2
  pub run-seven : NoPictureStays rs
  run-seven = by_length s _ (λ h. stays s h bytes (start h) calls) (λ h. (long-run s h calls).1)

  -- R.3
  pub run-possible : possible y.decoder ≡ true
  run-possible =
      by_length s _ (λ h. admitted s h bytes (calls-on s h bytes (start h) calls))
      (λ h. ap possible ((long-run s h calls).2 ∙ ap (λ (x : CallState). x.decoder) (opened ∙ long-begin s l h))
      ∙ waits-possible [] (omega arith) (fresh-waits []))

  -- 8.3: a picture that a call comes to has a second picture start code behind its own; the exact end of the bits does not stand for one
  pub run-followed : ComesToPictures y.decoder s y.store → (g : DecodingState) → StepOfCall y.decoder s y.store g
      → is_picture_ready s (after_picture_search s g).state ≡ true → PictureAhead s (position (after_picture_search s g).state)
  run-followed c g i r = turn-followed s c.short bytes (calls-on s c.short bytes (start c.short) calls) c g i r
