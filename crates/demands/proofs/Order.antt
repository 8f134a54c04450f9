-- RULES "Order": the questions of a hand-out with a header that was accepted earlier, and with none; and the number that a "no" gives, question by question.
-- By its contract `decode` gave r. A "no" in the second turn: `decode-says` in Demand1.antt.
use mathlib.Core.Path.{◌≡◌, refl, ap, ◌∙◌}
use mathlib.Core.Bool.{true, false}
use mathlib.Core.List.{List, ◌∷◌}
use Prim.Native.Nat.{ℕ, ◌≤◌, ◌<◌}
use native.Mathlib.Omega.{arith}
use lib.Dec.{eqb}
use lib.IntN.{ℤ}
use lib.ListN.{length}
use borrow.Author.Tests.{le-leb, lt-leb, eq-eqb, ne_eqb}
use Rattle.prediction.specs.declared.planes.Plane.{Plane}
use Rattle.picture_state.specs.Result.{Result, error}
use Rattle.picture_state.specs.Stop.{dc_outside, prediction_outside, Stop, stop}
use Rattle.picture.specs.Pictures.{PictureState}
use Rattle.header.specs.Store.{cleared}
use Rattle.decoder.specs.declared.record.Decoder.{Decoder}
use Rattle.playback.specs.declared.state.State.{State}
use Rattle.playback.specs.declared.outcome.Outcome.TheVariants as H
use Rattle.decoder.specs.declared.answers.DecodeResult.{DecodeResult}
use Rattle.decoder.specs.Record.{decoding_state_of, store_bytes}
use Rattle.decoder.specs.Possible.{possible}
use Rattle.playback.specs.Steps.{after_picture_search}
use Rattle.playback.specs.Cases.{is_picture_ready, is_flush}
use Rattle.decoder.specs.Decode.{start_state}
use Rattle.decoder.specs.Calls.{Decodes}
use Rattle.demands.specs.Checks as Q
use Rattle.demands.specs.Checks.{Check, check, first_failing, with_header, picture_end, step_checks, pictures_checks, decode_checks}
use Rattle.demands.proofs.Checks.{is-first}
use Rattle.demands.proofs.Demand1.{decode-says}
use Rattle.bits.specs.Bounds.{longest_stream}

module _ (d : Decoder) (s l : List ℕ) where
  -- with a header: 1, 2, the stop mark, 6, and the pictures' 7, 8, 9
  pub checks-headed : d.sequence.has_sequence_header ≡ true
      → decode_checks d s l
      ≡ Q.check_stream_length s ∷ check 2 (possible d) ∷ check d.stop (eqb d.stop 0) ∷ Q.check_store_length d l ∷
      pictures_checks s d.sequence.sizes d.sequence.matrices (decoding_state_of d l)
  unfolding decode_checks start_state
  checks-headed h = rw h refl

  -- with none: 3, 4, 5 before 6, and the store is cleared before the pictures
  pub checks_unheaded : d.sequence.has_sequence_header ≡ false
      → decode_checks d s l
      ≡ Q.check_stream_length s ∷ check 2 (possible d) ∷ check d.stop
      (eqb d.stop 0) ∷ Q.check_sequence_code s d ∷ Q.check_header_bits s d ∷ Q.check_non_zero_size s d ∷
      Q.check_store_length (with_header s d) l ∷ pictures_checks s (with_header s d).sequence.sizes (with_header s d).sequence.matrices
      (decoding_state_of (with_header s d) (cleared (store_bytes (with_header s d)) l))
  unfolding decode_checks start_state
  checks_unheaded h = rw h refl

-- the questions 1 and 2 and the stop mark are passed
pub record Begins (d : Decoder) (s : List ℕ) : Type 0 where
  pub short : length s ≤ longest_stream
  pub possible : possible d ≡ true
  pub mark : d.stop ≡ 0

module _ (d : Decoder) (s l : List ℕ) (r : DecodeResult) (m : List ℕ) (gave : Decodes d s l r m) where
  says : (n : ℕ) → 0 < n → first_failing (decode_checks d s l) ≡ n → r.outcome ≡ H.Refused n
  says n h e = decode-says d s l r m gave n h (is-first (decode_checks d s l) n h e)

  pub says-1 : longest_stream < length s → r.outcome ≡ H.Refused 1
  unfolding decode_checks first_failing
  says-1 h = says 1 (omega arith) (rw (lt-leb (length s) longest_stream h) refl)

  pub says-2 : length s ≤ longest_stream → possible d ≡ false → r.outcome ≡ H.Refused 2
  unfolding decode_checks first_failing
  says-2 h p = says 2 (omega arith) (rw (le-leb (length s) longest_stream h, p))

  -- QA
  pub says-mark : length s ≤ longest_stream → possible d ≡ true → 0 < d.stop → r.outcome ≡ H.Refused d.stop
  unfolding decode_checks first_failing
  says-mark h p z = says d.stop z (rw (le-leb (length s) longest_stream h, p, ne_eqb d.stop 0 (λ e. omega arith)))

  -- the questions behind these
  from : (qs : List Check) → Begins d s
      → decode_checks d s l ≡ Q.check_stream_length s ∷ check 2 (possible d) ∷ check d.stop (eqb d.stop 0) ∷ qs
      → first_failing (decode_checks d s l) ≡ first_failing qs
  unfolding first_failing
  from qs b e = ap first_failing e ∙ rw (le-leb (length s) longest_stream b.short, b.possible, eq-eqb d.stop 0 b.mark) refl

  module _ (b : Begins d s) (none : d.sequence.has_sequence_header ≡ false) where
    pub says-3 : (Q.check_sequence_code s d).passes ≡ false → r.outcome ≡ H.Refused 3
    unfolding first_failing
    says-3 c = says 3 (omega arith) (from _ b (checks_unheaded d s l none) ∙ rw c refl)

    pub says-4 : (Q.check_sequence_code s d).passes ≡ true → (Q.check_header_bits s d).passes ≡ false → r.outcome ≡ H.Refused 4
    unfolding first_failing
    says-4 c h = says 4 (omega arith) (from _ b (checks_unheaded d s l none) ∙ rw (c, h))

    pub says-5 : (Q.check_sequence_code s d).passes ≡ true → (Q.check_header_bits s d).passes ≡ true → (Q.check_non_zero_size s d).passes ≡ false
        → r.outcome ≡ H.Refused 5
    unfolding first_failing
    says-5 c h z = says 5 (omega arith) (from _ b (checks_unheaded d s l none) ∙ rw (c, h, z))

    -- the store is too short for the header that this call reads
    pub says-6-new : (Q.check_sequence_code s d).passes ≡ true → (Q.check_header_bits s d).passes ≡ true → (Q.check_non_zero_size s d).passes ≡ true
        → length l < store_bytes (with_header s d)
        → r.outcome ≡ H.Refused 6
    unfolding first_failing
    says-6-new c h z k = says 6 (omega arith) (from _ b (checks_unheaded d s l none) ∙ rw (c, h, z, lt-leb (store_bytes (with_header s d)) (length l) k))

  module _ (b : Begins d s) (header : d.sequence.has_sequence_header ≡ true) where
    -- how the first picture ends
    abbrev end_at : Result Stop PictureState
    end_at = picture_end s d.sequence.sizes d.sequence.matrices (after_picture_search s (decoding_state_of d l))

    -- the state before it
    abbrev before : State
    before = (after_picture_search s (decoding_state_of d l)).state

    -- the store is too short for the header that an earlier call read
    pub says-6 : length l < store_bytes d → r.outcome ≡ H.Refused 6
    unfolding first_failing
    says-6 k = says 6 (omega arith) (from _ b (checks-headed d s l header) ∙ rw (lt-leb (store_bytes d) (length l) k) refl)

    -- no picture to decode, and none to flush
    pub says-7 : store_bytes d ≤ length l → is_picture_ready s before ≡ false → is_flush s before ≡ false → r.outcome ≡ H.Refused 7
    unfolding first_failing pictures_checks step_checks
    says-7 k t u = says 7 (omega arith) (from _ b (checks-headed d s l header) ∙ rw (le-leb (store_bytes d) (length l) k, t, u))

    -- the picture leaves early at a DC value
    pub says-8 : store_bytes d ≤ length l → is_picture_ready s before ≡ true → {address block : ℕ} {predictor difference : ℤ} {x : List ℕ}
        → end_at ≡ error (stop (dc_outside address block predictor difference) x) → r.outcome ≡ H.Refused 8
    unfolding first_failing pictures_checks step_checks
    says-8 k t e = says 8 (omega arith) (from _ b (checks-headed d s l header) ∙ rw (le-leb (store_bytes d) (length l) k, t, e))

    -- and at a prediction
    pub says-9 : store_bytes d ≤ length l → is_picture_ready s before ≡ true → {address : ℕ} {plane : Plane} {h v : ℤ} {x : List ℕ}
        → end_at ≡ error (stop (prediction_outside address plane h v) x) → r.outcome ≡ H.Refused 9
    unfolding first_failing pictures_checks step_checks
    says-9 k t e = says 9 (omega arith) (from _ b (checks-headed d s l header) ∙ rw (le-leb (store_bytes d) (length l) k, t, e))
