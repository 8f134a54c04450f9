-- RULES "The numbers", QA, QG: what opening and a hand-out have left behind each number: the whole record, and every byte of the store.
use Rattle.std.specs.Prelude.{◌≡◌, true, false, List, ◌⊎◌, ℕ, ◌+◌, ◌*◌, ◌≤◌, ◌<◌, pos, negsuc, length}
use Rattle.laws.specs.Loops.{continue}
use Rattle.bits.specs.Bits.{bits_at}
use Rattle.picture_state.specs.declared.types.{Matrices.Matrices, Sizes.Sizes}
use Rattle.picture_state.specs.Result.{Result, error}
use Rattle.picture_state.specs.Stop.{Cause, error_code, Stop, stop}
use Rattle.picture.specs.Pictures.{PictureState}
use Rattle.playback.specs.Steps.{DecodingState, after_picture_search, picture_step}
use Rattle.playback.specs.Cases.{is_picture_ready, is_flush}
use Rattle.decoder.specs.declared.record.Decoder.{Decoder}
use Rattle.decoder.specs.Record.{fresh, position, start_code, with_position, with_sequence, with_search_result, with_stop, with_decoding_state, store_bytes}
use Rattle.decoder.specs.Possible.{possible}
use Rattle.decoder.specs.Decode.{start_state}
use Rattle.demands.specs.StartCodes.{StartCodeFound, NoneFound}
use Rattle.demands.specs.Checks.{IsFirstFailing, with_header, with_header_if_missing, picture_end, opening_checks, decode_checks}

-- RULES Q4: the record at the sequence start code: it has the code already, or else has found it; nothing but place and start code differs from d
pub data AtSequenceCode (s : List ℕ) (d : Decoder) : Decoder → Type 0 where
  already-there : start_code d ≡ pos 0xb3 → AtSequenceCode s d d
  found-by_search : {e : ℕ} → (start_code d ≡ pos 0xb3 → ⊥) → StartCodeFound s 0xb3 (position d) e → AtSequenceCode s d (with_search_result (pos 0xb3) e d)

-- RULES Q5: width and height as read at the record's place, which goes 24 bits further; nothing else differs from d
abbrev pub after_size_fields : List ℕ → Decoder → Decoder
after_size_fields s d = with_position (position d + 24) (with_sequence (record {
  has_sequence_header = d.sequence.has_sequence_header;
  width = bits_at s (position d) 12;
  height = bits_at s (position d + 12) 12;
  sizes = d.sequence.sizes;
  matrices = d.sequence.matrices;
}) d)

-- RULES Q3, Q4, Q5, QG: a call that was to read a header with the record d: the number, and the record then
pub data AfterHeader (s : List ℕ) (d : Decoder) : ℕ → Decoder → Type 0 where
  after-3 : {e : ℕ} → (start_code d ≡ pos 0xb3 → ⊥) → NoneFound s 0xb3 (position d) e → AfterHeader s d 3 (with_search_result (negsuc 0) e d)
  after-4 : {x : Decoder} → AtSequenceCode s d x → length s * 8 < position x + 1088 → AfterHeader s d 4 x
  after-5 : {x : Decoder} → AtSequenceCode s d x → position x + 1088 ≤ length s * 8 → (bits_at s (position x) 12 ≡ 0) ⊎ (bits_at s (position x + 12) 12 ≡ 0)
      → AfterHeader s d 5 (after_size_fields s x)

-- RULES O.2, Q: opening of the stream s with the store l, which is l still: the number, and the record then
pub data LeftByOpening (s l : List ℕ) : ℕ → Decoder → Type 0 where
  after-1 : 16777216 < length s → LeftByOpening s l 1 fresh
  after-header : {n : ℕ} {x : Decoder} → AfterHeader s fresh n x → LeftByOpening s l n x
  after-6 : length l < store_bytes (with_header s fresh) → LeftByOpening s l 6 fresh

-- RULES 8.7: the turn of a hand-out in which it came to its number: the first, given x, or the second, given what the first left
pub data StepReached (s : List ℕ) (z : Sizes) (m : Matrices) (x : DecodingState) : DecodingState → Type 0 where
  first_step : StepReached s z m x x
  second-step : {y : DecodingState} → picture_step s z m x ≡ continue y → StepReached s z m x y

-- of a hand-out with the record d, the stream s and the store l
abbrev pub StepOfCall : Decoder → List ℕ → List ℕ → DecodingState → Type 0
StepOfCall d s l y = let q = (with_header_if_missing s d).sequence in StepReached s q.sizes q.matrices (start_state d (with_header_if_missing s d) l) y

-- how the picture ends that such a turn decodes
abbrev pub end_in : Decoder → List ℕ → DecodingState → Result Stop PictureState
end_in d s y = let q = (with_header_if_missing s d).sequence in picture_end s q.sizes q.matrices (after_picture_search s y)

-- RULES Q: a hand-out with the record d, the stream s and the store l: the number, and record and store then
pub data LeftByDecode (d : Decoder) (s l : List ℕ) : ℕ → Decoder → List ℕ → Type 0 where
  after-1 : 16777216 < length s → LeftByDecode d s l 1 d l
  after-2 : possible d ≡ false → LeftByDecode d s l 2 d l
  after_stop : (d.stop ≡ 8) ⊎ (d.stop ≡ 9) → LeftByDecode d s l d.stop d l
  after-header : {n : ℕ} {x : Decoder} → d.sequence.has_sequence_header ≡ false → AfterHeader s d n x → LeftByDecode d s l n x l
  after-6 : length l < store_bytes (with_header_if_missing s d) → LeftByDecode d s l 6 d l
  -- no picture is there to decode or to flush: the record is the one behind that search, and nothing is written since
  after-7 : {y : DecodingState} → StepOfCall d s l y → is_picture_ready s (after_picture_search s y).state ≡ false
      → is_flush s (after_picture_search s y).state ≡ false
      → LeftByDecode d s l 7 (with_decoding_state (with_header_if_missing s d) (after_picture_search s y)) y.store
  -- a picture is there, in a record with no stop mark, and leaves early for a cause, which has the number: the store is what it has written up to there
  after-8-9 : {y : DecodingState} {c : Cause} {n : ℕ} {m : List ℕ} → d.stop ≡ 0 → is_picture_ready s (after_picture_search s y).state ≡ true
      → StepOfCall d s l y → end_in d s y ≡ error (stop c m) → n ≡ error_code c
      → LeftByDecode d s l n (with_stop n d) m

-- RULES D1.4, D1.5: opening answers n: the question n is the first whose answer is "no", and this is left
pub record AfterOpening (s l : List ℕ) (n : ℕ) (x : Decoder) : Type 0 where
  pub first : IsFirstFailing n (opening_checks s l)
  pub left : LeftByOpening s l n x

-- a hand-out does
pub record AfterDecode (d : Decoder) (s l : List ℕ) (n : ℕ) (x : Decoder) (m : List ℕ) : Type 0 where
  pub first : IsFirstFailing n (decode_checks d s l)
  pub left : LeftByDecode d s l n x m
