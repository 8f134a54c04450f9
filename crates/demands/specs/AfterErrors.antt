-- RULES "The numbers", D1.4: its rows 3 to 9 of a call that was given the record d, the stream s and the store l, and left the record x and the store m.
use Rattle.std.specs.Prelude.{◌≡◌, true, false, List, ◌⊎◌, ℕ, ◌+◌, ◌*◌, ◌≤◌, ◌<◌, pos, negsuc, length}
use Rattle.bits.specs.Bits.{bits_at}
use Rattle.picture_state.specs.Result.{error}
use Rattle.picture_state.specs.Stop.{Cause, error_code, stop}
use Rattle.decoder.specs.declared.record.Decoder.{Decoder}
use Rattle.playback.specs.Steps.{DecodingState, after_picture_search}
use Rattle.playback.specs.Cases.{is_picture_ready, is_flush}
use Rattle.decoder.specs.Record.{position, start_code, with_search_result, with_stop, with_decoding_state, store_bytes}
use Rattle.decoder.specs.Record as R
use Rattle.decoder.specs.Headers.{find_sequence}
use Rattle.demands.specs.StartCodes.{NoneFound}
use Rattle.demands.specs.Checks.{IsFirstFailing, with_size, with_header_if_missing, decode_checks}
use Rattle.demands.specs.After.{AtSequenceCode, after_size_fields, StepOfCall, end_in}

-- RULES Q3: no sequence start code in the record; the place where the search ended, start code -1
pub record AfterError3 (s : List ℕ) (d x : Decoder) : Type 0 where
  pub searched : start_code d ≡ pos 0xb3 → ⊥
  pub position : ℕ
  pub ended : NoneFound s 0xb3 (R.position d) position
  pub is : x ≡ with_search_result (negsuc 0) position d

-- RULES Q4: right behind the code, start code B3, fewer than 1,088 bits left
pub record AfterError4 (s : List ℕ) (d x : Decoder) : Type 0 where
  pub code : AtSequenceCode s d x
  pub few : length s * 8 < position x + 1088

-- RULES Q5: width and height as read, one of them 0, 24 bits further
pub record AfterError5 (s : List ℕ) (d x : Decoder) : Type 0 where
  pub at_code : Decoder
  pub code : AtSequenceCode s d at_code
  pub bits : position at_code + 1088 ≤ length s * 8
  pub zero : (bits_at s (position at_code) 12 ≡ 0) ⊎ (bits_at s (position at_code + 12) 12 ≡ 0)
  pub is : x ≡ after_size_fields s at_code

-- RULES Q5, O.5: what 5 leaves to the next call with this stream: nothing is searched, and a size is read at the very place
pub record TriesAgain (s : List ℕ) (x : Decoder) : Type 0 where
  pub header : x.sequence.has_sequence_header ≡ false
  pub code : start_code x ≡ pos 0xb3
  pub still : find_sequence s x ≡ x
  pub size : position x + 24 ≤ length s * 8 → with_size s x ≡ after_size_fields s x

-- RULES Q6: the store is too short for the header, accepted in this call or earlier; the questions before are answered "yes", and nothing is changed
pub record AfterError6 (d : Decoder) (s l : List ℕ) (x : Decoder) (m : List ℕ) : Type 0 where
  pub first : IsFirstFailing 6 (decode_checks d s l)
  pub short : length l < store_bytes (with_header_if_missing s d)
  pub decoder : x ≡ d
  pub store : m ≡ l

-- RULES Q7: no picture to decode or to flush; the record behind the search of that turn, the store as the turn was given it
pub record AfterError7 (d : Decoder) (s l : List ℕ) (x : Decoder) (m : List ℕ) : Type 0 where
  pub first : IsFirstFailing 7 (decode_checks d s l)
  pub given : DecodingState
  pub step : StepOfCall d s l given
  pub none : is_picture_ready s (after_picture_search s given).state ≡ false
  pub kept : is_flush s (after_picture_search s given).state ≡ false
  pub decoder : x ≡ with_decoding_state (with_header_if_missing s d) (after_picture_search s given)
  pub store : m ≡ given.store

-- RULES Q8, Q9: with no stop mark, a picture that was there left early for its cause, with what it had written; the record as passed in with the stop mark n
pub record AfterError8Or9 (d : Decoder) (s l : List ℕ) (n : ℕ) (x : Decoder) (m : List ℕ) : Type 0 where
  pub first : IsFirstFailing n (decode_checks d s l)
  pub mark : d.stop ≡ 0
  pub given : DecodingState
  pub step : StepOfCall d s l given
  pub ready : is_picture_ready s (after_picture_search s given).state ≡ true
  pub cause : Cause
  pub left : end_in d s given ≡ error (stop cause m)
  pub number : n ≡ error_code cause
  pub decoder : x ≡ with_stop n d
