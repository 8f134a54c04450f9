-- Order of display (11172-2, 2.4.4; RULES 8.3 to 8.8): of the pictures that calls read, and of those that they hand out.
use Rattle.std.specs.Prelude.{◌≡◌, Bool, true, ◌&&◌, List, [], ◌∷◌, ◌++◌, ℕ, ◌*◌, eqb, leb, length}
use borrow.Rule.Slice.PartMut.{mid_of}
use Rattle.laws.specs.Loops.{continue, finish}
use Rattle.bits.specs.Bounds.{longest_stream}
use Rattle.bits.specs.Programs.{run, when◌then◌else◌}
use Rattle.picture_state.specs.declared.types.{Matrices.Matrices, Sizes.Sizes}
use Rattle.picture_state.specs.Result.{Result, ok, error}
use Rattle.picture_state.specs.Stop.{Stop}
use Rattle.picture.specs.Pictures.{PictureState, picture_header, is_decoded}
use Rattle.playback.specs.State.{position}
use Rattle.playback.specs.Steps.{DecodingState, after_picture_search, picture_run, picture_step}
use Rattle.playback.specs.Cases.{is_picture_ready, is_b}
use Rattle.decoder.specs.declared.record.Decoder.{Decoder}
use Rattle.playback.specs.declared.outcome.Outcome.{Outcome}
use Rattle.decoder.specs.declared.answers.DecodeResult.{DecodeResult}
use Rattle.decoder.specs.Answers.{result, number, decode_answer}
use Rattle.decoder.specs.Calls.{Decodes}
use Rattle.decoder.specs.Possible.{possible_with}
use Rattle.decoder.specs.Headers.{CheckResult, refused, passed}
use Rattle.decoder.specs.Decode.{check_header_and_store, start_state}
use Rattle.decoder.specs.Run.{CallState, call_state}

-- ---- the rule

-- a picture as it is coded: is it a B picture, is it decoded (RULES 8.4), and its samples
pub record CodedPicture : Type 0 where
  pub is_b : Bool
  pub decoded : Bool
  pub samples : List ℕ

-- 11172-2, 2.4.4: a B picture is shown at once; an I or P picture waits, and is shown when the next one is decoded. h is the one that waits, if any
unfoldable pub displayed : List (List ℕ) → List CodedPicture → List (List ℕ)
displayed h [] = []
displayed h (c ∷ cs) = when c.is_b then c.samples ∷ displayed h cs else h ++ displayed (c.samples ∷ []) cs

-- the one that waits behind these pictures
unfoldable pub waiting : List (List ℕ) → List CodedPicture → List (List ℕ)
waiting h [] = h
waiting h (c ∷ cs) = when c.is_b then waiting h cs else waiting (c.samples ∷ []) cs

-- 11172-2, 2.4.4: the order of display: at the end the one that waits is shown, too
abbrev pub display_order : List CodedPicture → List (List ℕ)
display_order cs = displayed [] cs ++ waiting [] cs

abbrev pub AllDecoded : List CodedPicture → Type 0
AllDecoded [] = Unit {0}
AllDecoded (c ∷ cs) = (c.decoded ≡ true) × AllDecoded cs

-- ---- what the calls read and show

-- RULES 6.11: the samples of the picture number k, of n macroblocks
abbrev pub samples_of : ℕ → ℕ → List ℕ → List ℕ
samples_of n k l = mid_of (k * (384 * n)) (384 * n) l

-- a picture that is read to its end is in the store that was the current one before; one that leaves early is none
abbrev pub coded_picture_by : List ℕ → Sizes → DecodingState → Result Stop PictureState → List CodedPicture
coded_picture_by s z x (ok f) = record {
  is_b = is_b f;
  decoded = is_decoded (run picture_header s (position x.state)).value;
  samples = samples_of z.mb_size x.state.picture.stores.cur f.store;
} ∷ []
coded_picture_by s z x (error e) = []

-- RULES 8.2, 8.3: the picture that a turn reads, behind its search
unfoldable pub step_reads : List ℕ → Sizes → Matrices → DecodingState → List CodedPicture
step_reads s z m x = when is_picture_ready s x.state then coded_picture_by s z x (picture_run s z m x).value else []

-- RULES 8.7: in one turn, or two
unfoldable pub pictures_read : List ℕ → Sizes → Matrices → DecodingState → List CodedPicture
pictures_read s z m x =
    step_reads s z m (after_picture_search s x) ++ (elim (picture_step s z m x) [ continue y ↦ step_reads s z m (after_picture_search s y) | finish e ↦ [] ])

abbrev pub checked_reads : List ℕ → Decoder → List ℕ → CheckResult → List CodedPicture
checked_reads s d l (refused n x) = []
checked_reads s d l (passed x) = pictures_read s x.sequence.sizes x.sequence.matrices (start_state d x l)

-- the pictures that a hand-out reads: none where a question before them is answered "no"
unfoldable pub decode_reads : Decoder → List ℕ → List ℕ → List CodedPicture
decode_reads d s l = when leb (length s) longest_stream && possible_with s d && eqb d.stop 0 then checked_reads s d l (check_header_and_store s d l) else []

-- the picture that it hands out: the samples of the store that it names
abbrev pub shown_by : Outcome → Decoder → List ℕ → List (List ℕ)
shown_by o x m = elim (decode_answer o) [ result i ↦ samples_of x.sequence.sizes.mb_size i.store m ∷ [] | number n ↦ [] ]

-- calls with one stream, each given what the one before it left: what they show, and what they read
pub data CallsOutput (s : List ℕ) : CallState → List (List ℕ) → List CodedPicture → CallState → Type 0 where
  none : {x : CallState} → CallsOutput s x [] [] x
  and_then : {x : CallState} {r : DecodeResult} {m : List ℕ} {ps : List (List ℕ)} {cs : List CodedPicture} {y : CallState}
      → Decodes x.decoder s x.store r m
      → CallsOutput s (call_state r.decoder m) ps cs y
      → CallsOutput s x (shown_by r.outcome r.decoder m ++ ps) (decode_reads x.decoder s x.store ++ cs) y
