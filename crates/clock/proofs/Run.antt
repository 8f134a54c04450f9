-- RULES 8.1, 8.9 to 8.11: the times that the calls show which follow an opening, whatever it answered. By their contracts the opening and the calls gave r
-- and rs (Calls.antt of demands). Assumes nothing of the stream.
use mathlib.Core.Path.{◌≡◌, refl, sym, ap, ap₂, ◌∙◌, subst}
use mathlib.Core.Bool.{Bool, true, cond}
use mathlib.Core.List.{List, ◌∷◌, ◌++◌}
use mathlib.Core.Logic.{◌⊎◌, inl, inr}
use Prim.Native.Nat.{ℕ, ◌+◌, ◌≤◌, ◌<◌}
use native.Mathlib.Omega.{arith}
use lib.Dec.{lit≤}
use lib.Ieee.{Float}
use Rattle.header.specs.State.{zero_float}
use Rattle.header.specs.Sequences.{rate_of}
use Rattle.playback.specs.declared.outcome.{Shown.Shown, Outcome.Outcome}
use Rattle.playback.specs.declared.outcome.Outcome.TheVariants as H
use Rattle.playback.specs.declared.state.Display.{Display}
use Rattle.playback.specs.State.{most_pictures, frames, next_time}
use Rattle.decoder.specs.declared.record.Decoder.{Decoder}
use Rattle.decoder.specs.declared.answers.{Opening.Opening, Opened.Opened, DecodeResult.DecodeResult}
use Rattle.decoder.specs.declared.answers.Opening.TheVariants as O
use Rattle.decoder.specs.Record.{CallResult, fresh}
use Rattle.decoder.specs.Run.{CallState, call_state}
use Rattle.decoder.specs.Calls.{Opens}
use Rattle.demands.specs.Calls.{Calls, none, and_then}
use Rattle.clock.specs.Times.{time_at, times_from, counted_in, EachCounted, IsNearestTime, IsInfinite, time_by, flush_by, times_shown, flushes}
use Rattle.clock.specs.Times.{rate_read, accepted_rate, records_left}
use Rattle.clock.proofs.Times.{most}
use Rattle.clock.proofs.Rates.{code-nearest, code_infinite, each-counted}
use Rattle.clock.proofs.Steps.{TimeShown, counts, repeats}
use Rattle.clock.proofs.Calls.{Running, Unset, OpeningClock, opening-clock, Accepts, opening_accepts, CallTimes, CallTimesOf, call-times, FirstTimes}
use Rattle.clock.proofs.Calls.{FirstTimesOf, first-times}

-- the times ts of pictures, behind k that are counted, and what the last call leaves of the clock
record RunTimes (rate : Float) (k : ℕ) (t : Float) (ts : List Float) (fs : List Bool) (v : Display) : Type 0 where
  times : ts ≡ times_from rate k t fs
  count : v.frames_decoded ≡ k + counted_in fs
  next : v.clock.time ≡ time_at rate (k + counted_in fs)
  few : k + counted_in fs ≤ most

-- what the calls show that follow one which leaves d
abbrev Goes : Float → List Float → List Bool → Display → Decoder → Type 0
Goes rate ts fs v d = (k : ℕ) (t : Float) → k ≤ most → Running rate k t d → RunTimes rate k t ts fs v

module _ (rate : Float) (k : ℕ) (t : Float) (ts : List Float) (fs : List Bool) (v : Display) (d : Decoder) (go : Goes rate ts fs v d) (small : k ≤ most) where
  picture-times : (i : Shown) → d.sequence.has_sequence_header ≡ true → k ≤ most_pictures → TimeShown rate k t i d.state
      → RunTimes rate k t (i.time ∷ ts) (flush_by (H.Picture i) d ++ fs) v
  unfolding times_from counted_in
  picture-times i h few (counts f e c) =
      let q = go (k + 1) (time_at rate k) (omega arith) (h, c) in
      let one_more = more k (counted_in fs) in
      subst (λ (b : Bool). RunTimes rate k t (i.time ∷ ts) (b ∷ fs) v) (sym f) (record {
        times = ap₂ (λ (a : Float) (b : List Float). a ∷ b) e q.times;
        count = q.count ∙ one_more;
        next = q.next ∙ ap (time_at rate) one_more;
        few = subst (λ (n : ℕ). n ≤ most) one_more q.few;
      })
    where
      more : (k n : ℕ) → k + 1 + n ≡ k + (n + 1)
      more k n = omega arith
  picture-times i h few (repeats f e c) =
      let q = go k t small (h, c) in
      subst (λ (b : Bool). RunTimes rate k t (i.time ∷ ts) (b ∷ fs) v) (sym f) (record {
        times = ap₂ (λ (a : Float) (b : List Float). a ∷ b) e q.times;
        count = q.count;
        next = q.next;
        few = q.few;
      })

  then-times : (o : Outcome) → CallTimes rate k t o d → RunTimes rate k t (time_by o ++ ts) (flush_by o d ++ fs) v
  then-times (H.Picture i) h = picture-times i h.0 h.2 h.1
  then-times (H.Refused n) h = go k t small h

-- ---- behind the header

headed-run : {s : List ℕ} {x : CallState} {rs : List DecodeResult} {y : CallState} (rate : Float) → Calls s x rs y
    → Goes rate (times_shown rs) (flushes rs) y.decoder.state.display x.decoder
unfolding times_shown flushes times_from counted_in
headed-run rate none k t small r = record {
  times = refl;
  count = r.1.count ∙ sum k;
  next = r.1.next ∙ ap (time_at rate) (sum k);
  few = subst (λ (n : ℕ). n ≤ most) (sum k) small;
}
  where
    sum : (k : ℕ) → k ≡ k + 0
    sum k = omega arith
headed-run {s} {x} rate (and_then {r = r} {rs = rs} {y = y} gave c) k t small h =
    then-times rate k t (times_shown rs) (flushes rs) y.decoder.state.display r.decoder (headed-run rate c) small r.outcome
    (subst (CallTimesOf rate k t) (sym gave) (call-times s rate k t x.decoder x.store h))

-- ---- before it

module _ (s : List ℕ) (d x : Decoder) (xs : List Decoder) (ts : List Float) (fs : List Bool) (v : Display)
    (headed : Goes (rate_read s d) ts fs v x) (unset : Unset x → RunTimes (accepted_rate s x xs) 0 zero_float ts fs v) where
  abbrev rate_here : Bool → Float
  rate_here b = cond b (rate_read s d) (accepted_rate s x xs)

  accepted-times : Accepts s d x → RunTimes (accepted_rate s d (x ∷ xs)) 0 zero_float ts fs v
  unfolding accepted_rate
  accepted-times (inl u) = subst (λ (b : Bool). RunTimes (rate_here b) 0 zero_float ts fs v) (sym u.header) (unset u)
  accepted-times (inr h) = subst (λ (b : Bool). RunTimes (rate_here b) 0 zero_float ts fs v) (sym h.0) (headed 0 zero_float (lit≤ tt) h)

  called-times : (o : Outcome) → FirstTimes s d o x → RunTimes (accepted_rate s d (x ∷ xs)) 0 zero_float (time_by o ++ ts) (flush_by o x ++ fs) v
  unfolding accepted_rate
  called-times (H.Picture i) h =
      subst (λ (b : Bool). RunTimes (rate_here b) 0 zero_float (i.time ∷ ts) (flush_by (H.Picture i) x ++ fs) v) (sym h.0)
      (then-times (rate_read s d) 0 zero_float ts fs v x headed (lit≤ tt) (H.Picture i) h)
  called-times (H.Refused n) h = accepted-times h

unset-run : {s : List ℕ} {x : CallState} {rs : List DecodeResult} {y : CallState} → Calls s x rs y → Unset x.decoder
    → RunTimes (accepted_rate s x.decoder (records_left rs)) 0 zero_float (times_shown rs) (flushes rs) y.decoder.state.display
unfolding times_shown flushes times_from counted_in time_at
unset-run none u = record { times = refl; count = u.count; next = u.next; few = lit≤ tt }
unset-run {s} {x} (and_then {r = r} {rs = rs} {y = y} gave c) u =
    called-times s x.decoder r.decoder (records_left rs) (times_shown rs) (flushes rs) y.decoder.state.display (headed-run (rate_read s x.decoder) c)
    (unset-run c) r.outcome (subst (FirstTimesOf s x.decoder) (sym gave) (first-times s x.decoder u x.store))

-- ---- from every opening

module _ (s l : List ℕ) (r : Opened) (m : List ℕ) (gave : Opens s l r m) (rs : List DecodeResult) (y : CallState)
    (calls : Calls s (call_state r.decoder m) rs y) where
  -- the rate of the header that is accepted, by the opening or by a call
  abbrev pub rate : Float
  rate = accepted_rate s fresh (r.decoder ∷ records_left rs)

  opens : OpeningClock s r.answer r.decoder
  opens = subst (λ (q : CallResult Opening). OpeningClock s q.answer q.decoder) (sym gave) (opening-clock s l)

  run : RunTimes rate 0 zero_float (times_shown rs) (flushes rs) y.decoder.state.display
  run =
      accepted-times s fresh r.decoder (records_left rs) (times_shown rs) (flushes rs) y.decoder.state.display (headed-run (rate_read s fresh) calls)
      (unset-run calls) (opening_accepts s r.answer r.decoder opens)

  -- RULES 8.9, 8.11: the picture number k, flushes not counted, shows 0.0 if k is 0, else k ÷ rate; a flush shows what the picture before it showed
  pub run-times : times_shown rs ≡ times_from rate 0 zero_float (flushes rs)
  run-times = run.times

  -- the rate where the opening accepts the header
  pub ready-times : r.answer ≡ O.Ready → times_shown rs ≡ times_from (rate_read s fresh) 0 zero_float (flushes rs)
  ready-times e =
      (headed-run (rate_read s fresh) calls 0 zero_float (lit≤ tt) (subst (λ (o : Opening). OpeningClock s o r.decoder) e opens)).times

  -- RULES 8.10, 8.11: the record counts these pictures and no flush, and has the time of the next
  pub run-counts : (frames y.decoder.state ≡ counted_in (flushes rs)) × (next_time y.decoder.state ≡ time_at rate (counted_in (flushes rs)))
  run-counts = (run.count ∙ none_before (counted_in (flushes rs)), run.next ∙ ap (time_at rate) (none_before (counted_in (flushes rs))))
    where
      none_before : (n : ℕ) → 0 + n ≡ n
      none_before n = omega arith

  -- RULES Q2: so that each count is a double (`count-exact`)
  pub run_small : counted_in (flushes rs) ≤ most
  run_small = omega (arith, run.few)

  module _ (code : ℕ) (by_code : rate ≡ rate_of code) where
    each : (P : ℕ → Float → Type 0) → ((k : ℕ) → k ≤ most → P k (time_at (rate_of code) k)) → EachCounted P 0 (flushes rs) (times_shown rs)
    each P p =
        subst (EachCounted P 0 (flushes rs)) (sym (run-times ∙ ap (λ (x : Float). times_from x 0 zero_float (flushes rs)) by_code))
        (each-counted P (rate_of code) p 0 zero_float (flushes rs) run.few)

    -- RULES 8.9: at a code from 1 to 8 each time is the double nearest to k ÷ rate, the rate being the double of the table
    pub run-nearest : 0 < code → code ≤ 8 → EachCounted (IsNearestTime (rate_of code)) 0 (flushes rs) (times_shown rs)
    run-nearest g c = each (IsNearestTime (rate_of code)) (code-nearest code g c)

    -- at any other code, the rate of which is 0.0, each but the first is +∞
    pub run_infinite : (code ≡ 0) ⊎ (8 < code) → EachCounted IsInfinite 0 (flushes rs) (times_shown rs)
    run_infinite c = each IsInfinite (code_infinite code c)
