-- RULES 8.1, 8.9 to 8.14: the clock over one call. Assumes nothing of the stream.
use mathlib.Core.Path.{◌≡◌, refl, sym, subst}
use mathlib.Core.Bool.{Bool, true, false, cond, not, ◌||◌, true≢false}
use mathlib.Core.List.{List}
use mathlib.Core.Logic.{◌⊎◌, inl, inr}
use Prim.Native.Nat.{ℕ, ◌≤◌}
use lib.Dec.{eqb, leb}
use lib.IntN.{pos, negsuc}
use lib.ListN.{length}
use lib.Ieee.{Float}
use Rattle.laws.proofs.Tests.{by-case}
use Rattle.bits.specs.Bits.{has}
use Rattle.bits.specs.Bounds.{longest_stream}
use Rattle.bits.specs.Programs.{eq_z}
use Rattle.header.specs.State.{zero_float}
use Rattle.playback.specs.declared.outcome.Outcome.{Outcome}
use Rattle.playback.specs.declared.outcome.Outcome.TheVariants as H
use Rattle.playback.specs.declared.state.State.{State}
use Rattle.playback.specs.State.{most_pictures, fresh_state}
use Rattle.playback.specs.Search.{ensure_start_code}
use Rattle.playback.specs.Steps.{LoopEnd, finished, aborted, pictures}
use Rattle.playback.proofs.Displays.{count_of}
use Rattle.decoder.specs.declared.record.Decoder.{Decoder}
use Rattle.decoder.specs.declared.answers.Opening.{Opening}
use Rattle.decoder.specs.declared.answers.Opening.TheVariants as O
use Rattle.decoder.specs.Record.{CallResult, fresh, position, start_code, store_bytes}
use Rattle.decoder.specs.Possible.{possible_with}
use Rattle.decoder.specs.Headers.{CheckResult, refused, passed, find_sequence, accepted, check_size, check_header, check_store}
use Rattle.decoder.specs.Opening.{opened, opening_from, opening}
use Rattle.decoder.specs.Decode.{call_result_of, check_header_and_store, start_state, after_checks, decode}
use Rattle.decoder.proofs.Fits.{possible-parts}
use Rattle.demands.specs.Checks.{with_size}
use Rattle.clock.specs.Times.{time_at, rate_read}
use Rattle.clock.proofs.Steps.{ClockAt, TimeShown, EndTimes, pictures-times}

-- RULES 8.1: a header is accepted, and the clock runs
abbrev pub Running : Float → ℕ → Float → Decoder → Type 0
Running rate k t d = (d.sequence.has_sequence_header ≡ true) × ClockAt rate k t d.state.display

-- no header is accepted, and nothing is handed out
pub record Unset (d : Decoder) : Type 0 where
  pub header : d.sequence.has_sequence_header ≡ false
  pub count : d.state.display.frames_decoded ≡ 0
  pub next : d.state.display.clock.time ≡ zero_float
  pub shown : d.state.display.clock.last_frame_time ≡ zero_float

pub fresh_unset : Unset fresh
unfolding fresh fresh_state
fresh_unset = record { header = refl; count = refl; next = refl; shown = refl }

-- ---- the header

-- RULES O.3: what the questions 3, 4, 5 leave of a record with no header
abbrev HeadRead : List ℕ → Decoder → CheckResult → Type 0
HeadRead s d (refused n x) = Unset x
HeadRead s d (passed x) = Running (rate_read s d) 0 zero_float x

find_unset : (s : List ℕ) (d : Decoder) → Unset d → Unset (find_sequence s d)
unfolding find_sequence ensure_start_code
find_unset s d h =
    by-case (λ (y : State). Unset (record { sequence = d.sequence; state = y; block_data = d.block_data; stop = d.stop })) (eq_z (start_code d) (pos 0xb3))
    (λ e. h) (λ e. record { header = h.header; count = h.count; next = h.next; shown = h.shown })

header-clock : (s : List ℕ) (d : Decoder) → Unset d → HeadRead s d (check_header s d)
unfolding check_header check_size accepted time_at
header-clock s d k =
    let h = find_unset s d k in
    by-case (HeadRead s d) (eq_z (start_code (find_sequence s d)) (negsuc 0)) (λ e. h) (λ e.
    by-case (HeadRead s d) (not (has s (position (find_sequence s d)) 1088)) (λ e. h) (λ e.
    by-case (HeadRead s d) (eqb (with_size s d).sequence.width 0 || eqb (with_size s d).sequence.height 0)
    (λ e. record { header = h.header; count = h.count; next = h.next; shown = h.shown })
    (λ e. (refl, record { framerate = refl; count = h.count; next = h.next; shown = h.shown }))))

store-clock : (s l : List ℕ) (d : Decoder) → Unset d → (a : CheckResult) → HeadRead s d a → HeadRead s d (check_store d l a)
unfolding check_store
store-clock s l d k (refused n x) h = h
store-clock s l d k (passed x) h = by-case (HeadRead s d) (leb (store_bytes x) (length l)) (λ e. h) (λ e. k)

-- ---- opening

-- RULES O.2: a header is accepted, or none is
abbrev pub OpeningClock : List ℕ → Opening → Decoder → Type 0
OpeningClock s O.Ready x = Running (rate_read s fresh) 0 zero_float x
OpeningClock s (O.Refused n) x = Unset x

abbrev OpeningClockOf : List ℕ → CallResult Opening → Type 0
OpeningClockOf s r = OpeningClock s r.answer r.decoder

opened-clock : (s l : List ℕ) (a : CheckResult) → HeadRead s fresh a → OpeningClockOf s (opened l a)
unfolding opened
opened-clock s l (refused n x) h = h
opened-clock s l (passed x) h = h

pub opening-clock : (s l : List ℕ) → OpeningClockOf s (opening s l)
unfolding opening opening_from
opening-clock s l =
    by-case (OpeningClockOf s) (leb (length s) longest_stream)
    (λ e. opened-clock s l (check_store fresh l (check_header s fresh))
    (store-clock s l fresh fresh_unset (check_header s fresh) (header-clock s fresh fresh_unset)))
    (λ e. fresh_unset)

-- a header is accepted by what was given the record d and left x, or none is
abbrev pub Accepts : List ℕ → Decoder → Decoder → Type 0
Accepts s d x = Unset x ⊎ Running (rate_read s d) 0 zero_float x

pub opening_accepts : (s : List ℕ) (o : Opening) (x : Decoder) → OpeningClock s o x → Accepts s fresh x
opening_accepts s O.Ready x h = inr h
opening_accepts s (O.Refused n) x h = inl h

-- ---- a call with a header

-- RULES Q2: a picture is handed out only where few were before
abbrev pub CallTimes : Float → ℕ → Float → Outcome → Decoder → Type 0
CallTimes rate k t (H.Picture i) x = (x.sequence.has_sequence_header ≡ true) × TimeShown rate k t i x.state × (k ≤ most_pictures)
CallTimes rate k t (H.Refused n) x = Running rate k t x

abbrev pub CallTimesOf : Float → ℕ → Float → CallResult Outcome → Type 0
CallTimesOf rate k t r = CallTimes rate k t r.answer r.decoder

module _ (s : List ℕ) (rate : Float) (k : ℕ) (t : Float) (few : k ≤ most_pictures) where
  -- the turns from x on, in a call that was given d
  ended-times : (d x : Decoder) (e : LoopEnd) → x.sequence.has_sequence_header ≡ true → EndTimes rate k t e
      → Running rate k t d → CallTimesOf rate k t (call_result_of d x e)
  unfolding call_result_of
  ended-times d x (finished (H.Picture i) y) h e r = (h, e, few)
  ended-times d x (finished (H.Refused n) y) h e r = (h, e)
  ended-times d x (aborted n l) h e r = (r.0, record { framerate = r.1.framerate; count = r.1.count; next = r.1.next; shown = r.1.shown })

  checked-times : (d : Decoder) (l : List ℕ) → Running rate k t d → CallTimesOf rate k t (after_checks s d l (check_header_and_store s d l))
  unfolding after_checks check_header_and_store check_store start_state
  checked-times d l r =
      subst (λ (b : Bool). CallTimesOf rate k t (after_checks s d l (check_store d l (cond b (passed d) (check_header s d))))) (sym r.0)
      (by-case (λ (a : CheckResult). CallTimesOf rate k t (after_checks s d l a)) (leb (store_bytes d) (length l))
      (λ e. ended-times d d (pictures s d.sequence.sizes d.sequence.matrices (start_state d d l)) r.0
      (pictures-times rate k t s d.sequence.sizes d.sequence.matrices (start_state d d l) r.1) r)
      (λ e. r))

few-before : (s : List ℕ) (d : Decoder) → not (possible_with s d) ≡ false → d.state.display.frames_decoded ≤ most_pictures
few-before s d e = count_of d.state.display (possible-parts d (yes (possible_with s d) e)).display
  where
    yes : (b : Bool) → not b ≡ false → b ≡ true
    yes true e = refl
    yes false e = absurd (true≢false e)

pub call-times : (s : List ℕ) (rate : Float) (k : ℕ) (t : Float) (d : Decoder) (l : List ℕ) → Running rate k t d → CallTimesOf rate k t (decode d s l)
unfolding decode
call-times s rate k t d l r =
    by-case (CallTimesOf rate k t) (not (leb (length s) longest_stream)) (λ e. r) (λ e.
    by-case (CallTimesOf rate k t) (not (possible_with s d)) (λ e. r) (λ possible.
    by-case (CallTimesOf rate k t) (not (eqb d.stop 0)) (λ e. r)
    (λ e. checked-times s rate k t (subst (λ (n : ℕ). n ≤ most_pictures) r.1.count (few-before s d possible)) d l r)))

-- ---- a call without one

-- it accepts a header, or hands out nothing
abbrev pub FirstTimes : List ℕ → Decoder → Outcome → Decoder → Type 0
FirstTimes s d (H.Picture i) x = CallTimes (rate_read s d) 0 zero_float (H.Picture i) x
FirstTimes s d (H.Refused n) x = Accepts s d x

abbrev pub FirstTimesOf : List ℕ → Decoder → CallResult Outcome → Type 0
FirstTimesOf s d r = FirstTimes s d r.answer r.decoder

module _ (s : List ℕ) (d : Decoder) (k : Unset d) where
  first_ended : (x : Decoder) (e : LoopEnd) → x.sequence.has_sequence_header ≡ true → EndTimes (rate_read s d) 0 zero_float e
      → 0 ≤ most_pictures → FirstTimesOf s d (call_result_of d x e)
  unfolding call_result_of
  first_ended x (finished (H.Picture i) y) h e few = (h, e, few)
  first_ended x (finished (H.Refused n) y) h e few = inr (h, e)
  first_ended x (aborted n l) h e few = inl (record { header = k.header; count = k.count; next = k.next; shown = k.shown })

  first_checked : (l : List ℕ) (a : CheckResult) → HeadRead s d a → 0 ≤ most_pictures → FirstTimesOf s d (after_checks s d l a)
  unfolding after_checks start_state
  first_checked l (refused n x) h few = inl h
  first_checked l (passed x) h few =
      first_ended x (pictures s x.sequence.sizes x.sequence.matrices (start_state d x l)) h.0
      (pictures-times (rate_read s d) 0 zero_float s x.sequence.sizes x.sequence.matrices (start_state d x l) h.1) few

  pub first-times : (l : List ℕ) → FirstTimesOf s d (decode d s l)
  unfolding decode check_header_and_store
  first-times l =
      by-case (FirstTimesOf s d) (not (leb (length s) longest_stream)) (λ e. inl k) (λ e.
      by-case (FirstTimesOf s d) (not (possible_with s d)) (λ e. inl k) (λ possible.
      by-case (FirstTimesOf s d) (not (eqb d.stop 0)) (λ e. inl k)
      (λ e. subst (λ (b : Bool). FirstTimesOf s d (after_checks s d l (check_store d l (cond b (passed d) (check_header s d))))) (sym k.header)
      (first_checked l (check_store d l (check_header s d)) (store-clock s l d k (check_header s d) (header-clock s d k))
      (subst (λ (n : ℕ). n ≤ most_pictures) k.count (few-before s d possible))))))
