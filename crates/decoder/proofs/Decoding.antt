-- The hand-out: one law for each way out. Assumes nothing.
use mathlib.Core.Path.{◌≡◌, refl, ap, sym, ◌∙◌}
use mathlib.Core.Bool.{Bool, true, false}
use mathlib.Core.List.{List}
use Prim.Native.Nat.{ℕ, ◌≤◌, ◌<◌}
use lib.IntN.{ℤ}
use lib.ListN.{length}
use borrow.Author.Tests.{le-leb, lt-leb, eq-eqb, ne_eqb}
use Rattle.bits.specs.Bounds.{longest_stream}
use Rattle.bits.specs.Programs.{when◌then◌else◌}
use Rattle.header.specs.Store.{cleared}
use Rattle.picture_state.specs.declared.types.StopMark.{StopMark}
use Rattle.picture_state.specs.Stop.{mark_number}
use Rattle.playback.specs.declared.outcome.Outcome.{Outcome}
use Rattle.playback.specs.declared.outcome.StepEnd.TheVariants.{Finished, Aborted}
use Rattle.playback.specs.declared.state.State.{State}
use Rattle.playback.specs.declared.outcome.Outcome.TheVariants.{Refused}
use Rattle.playback.specs.Steps.{decoding_state, LoopEnd, pictures}
use Rattle.playback.specs.StepResults.{end_of}
use Rattle.decoder.specs.declared.record.Decoder.{Decoder}
use Rattle.decoder.specs.Record.{with_stop, decoding_state_of, with_decoding_state, CallResult, call_result, store_bytes}
use Rattle.decoder.specs.Possible.{possible_with}
use Rattle.decoder.specs.Headers.{CheckResult, refused, passed, check_header, check_store}
use Rattle.decoder.specs.Decode.{call_result_of, check_header_and_store, start_state, after_checks, decode}

-- ---- before and behind the turns

-- RULES O.4
pub begun-new : (b x : Decoder) (l : List ℕ) {n : ℕ} {m : List ℕ} → b.sequence.has_sequence_header ≡ false → m ≡ cleared n l → n ≡ store_bytes x
    → decoding_state_of x m ≡ start_state b x l
unfolding start_state
begun-new b x l h e f = rw (h, ← f) (ap (decoding_state_of x) e)

pub begun_had : (b : Decoder) (l : List ℕ) → b.sequence.has_sequence_header ≡ true → decoding_state_of b l ≡ start_state b b l
unfolding start_state
begun_had b l h = rw h

-- the turns from the record d on
pub played : (s : List ℕ) (b d : Decoder) (l : List ℕ) {l₁ : List ℕ} {e : LoopEnd} → e
    ≡ pictures s d.sequence.sizes d.sequence.matrices (decoding_state_of d l₁)
    → decoding_state_of d l₁ ≡ start_state b d l → call_result_of b d e
    ≡ call_result_of b d (pictures s d.sequence.sizes d.sequence.matrices (start_state b d l))
played s b d l p q = ap (call_result_of b d) (p ∙ ap (pictures s d.sequence.sizes d.sequence.matrices) q)

-- RULES 8.14
module _ (b d : Decoder) where
  pub ended-stop : (x : State) (c : List ℤ) (m : List ℕ) (k : StopMark)
      → call_result (Refused (mark_number k)) (with_stop (mark_number k) b) m ≡ call_result_of b d (end_of (Aborted k) x c m)
  unfolding call_result_of
  ended-stop x c m k = refl

  pub ended-gave : (x : State) (c : List ℤ) (m : List ℕ) (o : Outcome)
      → call_result o (with_decoding_state d (decoding_state x c m)) m ≡ call_result_of b d (end_of (Finished o) x c m)
  unfolding call_result_of
  ended-gave x c m o = refl

-- ---- the questions

module _ (s : List ℕ) (d : Decoder) (l : List ℕ) where
  first_as : {q : CheckResult} → q ≡ (when d.sequence.has_sequence_header then passed d else check_header s d)
      → check_store d l q ≡ check_header_and_store s d l
  unfolding check_header_and_store
  first_as e = ap (check_store d l) e

  -- RULES 8.1
  pub first-new : {q : CheckResult} → d.sequence.has_sequence_header ≡ false → q ≡ check_header s d → check_store d l q ≡ check_header_and_store s d l
  first-new h e = first_as (e ∙ sym (ap (λ (b : Bool). when b then passed d else check_header s d) h))

  pub first_had : d.sequence.has_sequence_header ≡ true → check_store d l (passed d) ≡ check_header_and_store s d l
  first_had h = first_as (sym (ap (λ (b : Bool). when b then passed d else check_header s d) h))

  module _ (x : Decoder) where
    pub go-no : (n : ℕ) → refused n x ≡ check_header_and_store s d l → call_result (Refused n) x l ≡ after_checks s d l (check_header_and_store s d l)
    unfolding after_checks
    go-no n e = rw (← e)

    pub go_on : passed x ≡ check_header_and_store s d l
        → {r : CallResult Outcome} → r ≡ call_result_of d x (pictures s x.sequence.sizes x.sequence.matrices (start_state d x l)) → r
        ≡ after_checks s d l (check_header_and_store s d l)
    unfolding after_checks
    go_on e f = rw (← e) f

  pub after-decode-1 : longest_stream < length s → call_result (Refused 1) d l ≡ decode d s l
  unfolding decode
  after-decode-1 h = rw (lt-leb _ _ h)

  module _ (h : length s ≤ longest_stream) where
    pub after-decode-2 : possible_with s d ≡ false → call_result (Refused 2) d l ≡ decode d s l
    unfolding decode
    after-decode-2 e = rw (le-leb _ _ h, e)

    module _ (p : possible_with s d ≡ true) where
      pub decode-mark : (d.stop ≡ 0 → ⊥) → call_result (Refused d.stop) d l ≡ decode d s l
      unfolding decode
      decode-mark e = rw (le-leb _ _ h, p, ne_eqb _ _ e)

      pub decode-on : d.stop ≡ 0 → after_checks s d l (check_header_and_store s d l) ≡ decode d s l
      unfolding decode
      decode-on z = rw (le-leb _ _ h, p, eq-eqb _ _ z)
