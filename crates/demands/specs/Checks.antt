-- RULES Q, D1.4: the questions of each call, in the order asked.
use Rattle.std.specs.Prelude.{◌≡◌, Bool, true, false, not, ◌&&◌, ◌||◌, List, [], ◌∷◌, ◌++◌, ℕ, ◌≤◌, eqb, leb, negsuc, length}
use Rattle.laws.specs.Loops.{continue, finish}
use Rattle.bits.specs.Bits.{has}
use Rattle.bits.specs.Programs.{run, eq_z, when◌then◌else◌}
use Rattle.picture_state.specs.Result.{Result, ok, error}
use Rattle.picture_state.specs.Stop.{Cause, dc_outside, prediction_outside, Stop}
use Rattle.picture_state.specs.declared.types.{Matrices.Matrices, Sizes.Sizes}
use Rattle.picture.specs.Pictures.{PictureState}
use Rattle.header.specs.Sequences.{size, rest}
use Rattle.conversion.specs.Pictures.{fits}
use Rattle.playback.specs.declared.state.State.{State}
use Rattle.playback.specs.Steps.{DecodingState, after_picture_search, picture_run, picture_step}
use Rattle.playback.specs.Cases.{is_picture_ready, is_flush}
use Rattle.decoder.specs.declared.record.Decoder.{Decoder}
use Rattle.decoder.specs.Record.{fresh, position, start_code, store_bytes}
use Rattle.decoder.specs.Possible.{possible, possible_with}
use Rattle.decoder.specs.Headers.{passed, find_sequence, with_size_read, accepted}
use Rattle.decoder.specs.Decode.{check_header_and_store, start_state}

-- a check (RULES Q: question): its error code (RULES: number), and whether it passes (RULES: 'yes')
pub record Check : Type 0 where
  pub number : ℕ
  pub passes : Bool

abbrev pub check : ℕ → Bool → Check
check n b = record { number = n; passes = b }

-- RULES D1.4: the number of the first failing check (the first "no"); 0 where there is none
unfoldable pub first_failing : List Check → ℕ
first_failing [] = 0
first_failing (q ∷ qs) = when q.passes then first_failing qs else q.number

-- RULES D1.4: the question with the number n is the first whose answer is "no"
pub data IsFirstFailing (n : ℕ) : List Check → Type 0 where
  this-one : {q : Check} {qs : List Check} → q.number ≡ n → q.passes ≡ false → IsFirstFailing n (q ∷ qs)
  a-later : {q : Check} {qs : List Check} → q.passes ≡ true → IsFirstFailing n qs → IsFirstFailing n (q ∷ qs)

-- RULES Q1
abbrev pub check_stream_length : List ℕ → Check
check_stream_length s = check 1 (leb (length s) 16777216)

-- RULES Q3: is a sequence start code found, or in the record already?
abbrev pub check_sequence_code : List ℕ → Decoder → Check
check_sequence_code s d = check 3 (not (eq_z (start_code (find_sequence s d)) (negsuc 0)))

-- RULES Q4: 1,088 bits behind it
abbrev pub check_header_bits : List ℕ → Decoder → Check
check_header_bits s d = check 4 (has s (position (find_sequence s d)) 1088)

-- the record behind width and height
abbrev pub with_size : List ℕ → Decoder → Decoder
with_size s d = with_size_read (run size s (position (find_sequence s d))) (find_sequence s d)

-- RULES Q5
abbrev pub check_non_zero_size : List ℕ → Decoder → Check
check_non_zero_size s d = check 5 (not (eqb (with_size s d).sequence.width 0 || eqb (with_size s d).sequence.height 0))

-- the record behind a header that is accepted
abbrev pub with_header : List ℕ → Decoder → Decoder
with_header s d = accepted (run rest s (position (with_size s d))) (with_size s d)

-- RULES Q6: of the record with the header, accepted in this call or earlier
abbrev pub check_store_length : Decoder → List ℕ → Check
check_store_length x l = check 6 (leb (store_bytes x) (length l))

-- RULES "Order": opening asks 1, 3, 4, 5, 6
abbrev pub opening_checks : List ℕ → List ℕ → List Check
opening_checks s l = check_stream_length s ∷ check_sequence_code s fresh ∷ check_header_bits s fresh ∷ check_non_zero_size s fresh ∷ check_store_length
    (with_header s fresh) l ∷ []

-- RULES Q7: is there a picture to decode, or one to flush?
abbrev pub check_has_picture : List ℕ → State → Check
check_has_picture s x = check 7 (is_picture_ready s x || is_flush s x)

-- how the picture at the state's place ends
abbrev pub picture_end : List ℕ → Sizes → Matrices → DecodingState → Result Stop PictureState
picture_end s z m x = (picture_run s z m x).value

-- the two kinds of causes
abbrev pub is_dc : Cause → Bool
is_dc (dc_outside address block predictor difference) = true
is_dc (prediction_outside address plane h v) = false

abbrev pub is_prediction : Cause → Bool
is_prediction (dc_outside address block predictor difference) = false
is_prediction (prediction_outside address plane h v) = true

-- a picture that ends early does so for such a cause
abbrev pub stops_for : (Cause → Bool) → Result Stop PictureState → Bool
stops_for kind (ok f) = false
stops_for kind (error e) = kind e.cause

-- RULES QB, Q8: the picture, which ends at the first value outside, does not end at a DC value
abbrev pub are_dcs_inside : Result Stop PictureState → Check
are_dcs_inside w = check 8 (not (stops_for is_dc w))

-- RULES QB, Q9: it does not end at a prediction
abbrev pub are_predictions_inside : Result Stop PictureState → Check
are_predictions_inside w = check 9 (not (stops_for is_prediction w))

-- RULES 8.2 to 8.5: what a turn asks, behind its search
unfoldable pub step_checks : List ℕ → Sizes → Matrices → DecodingState → List Check
step_checks s z m x =
    check_has_picture s x.state ∷
    (when is_picture_ready s x.state then are_dcs_inside (picture_end s z m x) ∷ are_predictions_inside (picture_end s z m x) ∷ [] else [])

-- RULES 8.7: one turn, or two
unfoldable pub pictures_checks : List ℕ → Sizes → Matrices → DecodingState → List Check
pictures_checks s z m x =
    step_checks s z m (after_picture_search s x) ++ (elim (picture_step s z m x) [ continue y ↦ step_checks s z m (after_picture_search s y) | finish e ↦ [] ])

-- the record with which a hand-out comes to its pictures
abbrev pub with_header_if_missing : List ℕ → Decoder → Decoder
with_header_if_missing s d = when d.sequence.has_sequence_header then d else with_header s d

-- a hand-out comes to its pictures: the stream is not too long, there is no stop mark, and the questions 3 to 6 are answered "yes"
pub record ComesToPictures (d : Decoder) (s l : List ℕ) : Type 0 where
  pub short : length s ≤ 16777216
  pub mark : d.stop ≡ 0
  pub header : check_header_and_store s d l ≡ passed (with_header_if_missing s d)

-- RULES "Order": a hand-out asks 1, 2, the stop mark, then 3, 4, 5 while no header is accepted, then 6, and of its pictures 7, 8 and 9
unfoldable pub decode_checks : Decoder → List ℕ → List ℕ → List Check
decode_checks d s l =
    check_stream_length s ∷ check 2 (possible_with s d) ∷ check d.stop (eqb d.stop 0) ∷
    ((when d.sequence.has_sequence_header then [] else check_sequence_code s d ∷ check_header_bits s d ∷ check_non_zero_size s d ∷ []) ++
    (check_store_length (with_header_if_missing s d) l
    ∷ pictures_checks s (with_header_if_missing s d).sequence.sizes (with_header_if_missing s d).sequence.matrices
    (start_state d (with_header_if_missing s d) l)))

-- RULES "Order": the conversion asks 2, 6, 10, 11
abbrev pub conversion_checks : Decoder → List ℕ → ℕ → List ℕ → ℕ → ℕ → List Check
conversion_checks d l k a w h =
    check 2 (possible d) ∷ check_store_length d l ∷ check 10 (d.sequence.has_sequence_header && leb k 2) ∷ check 11 (fits w h a) ∷ []
