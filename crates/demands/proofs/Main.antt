-- The theorems that a certificate cites, each with all its hypotheses; the files that prove them are named. A call is told by its contract (`Opens`, `Decodes`,
-- `Converts` in crates/decoder/specs/Calls.antt): it gave r, and left m or b. Those above are of crates/clock, sequence, count and host_demands.
use mathlib.Core.Path.{◌≡◌}
use mathlib.Core.Bool.{true}
use mathlib.Core.List.{List, [], ◌++◌}
use mathlib.Core.Logic.{◌⊎◌}
use Prim.Native.Nat.{ℕ, ◌+◌, ◌*◌, ◌/◌, ◌≤◌, ◌<◌}
use lib.ListN.{length, get_or}
use Rattle.argb.specs.Scaled.{scaled}
use Rattle.conversion.specs.Pictures.{picture_in}
use Rattle.picture_state.specs.Stop.{stop}
use Rattle.playback.specs.declared.outcome.Shown.{Shown}
use Rattle.playback.specs.declared.outcome.Outcome.TheVariants as H
use Rattle.decoder.specs.declared.record.Decoder.{Decoder}
use Rattle.decoder.specs.declared.answers.{Opened.Opened, DecodeResult.DecodeResult, Converted.Converted}
use Rattle.decoder.specs.declared.answers.Opening.TheVariants as O
use Rattle.decoder.specs.declared.answers.Converted.TheVariants as C
use Rattle.decoder.specs.Record.{store_bytes}
use Rattle.decoder.specs.Possible.{possible}
use Rattle.decoder.specs.Run.{CallState, call_state}
use Rattle.decoder.specs.Answers.{opening_error_code, decode_error_code, conversion_error_code}
use Rattle.decoder.specs.Calls.{Opens, Decodes, Converts}
use Rattle.demands.specs.Checks.{first_failing, opening_checks, decode_checks, conversion_checks, with_header_if_missing}
use Rattle.demands.specs.Calls.{Calls, pictures_in, NoPictureStays}
use Rattle.demands.specs.After.{AfterOpening, AfterDecode}
use Rattle.demands.specs.AfterErrors.{AfterError8Or9}
use Rattle.demands.specs.Outputs.{OpeningLeaves, DecodeOutputs}
use Rattle.demands.specs.Stores.{SameFrom}
use Rattle.demands.specs.Display.{CallsOutput, CodedPicture, AllDecoded, display_order, waiting}
use Rattle.demands.proofs.Demand1 as D1
use Rattle.demands.proofs.Demand2 as D2
use Rattle.demands.proofs.DemandRun as DR
use Rattle.demands.proofs.DisplayRun as DisplayRun
use Rattle.demands.proofs.OneResult as OneResult
use Rattle.demands.proofs.Stops.{PictureStopIn, decode-stops}

-- RULES D1.4 (Demand1.antt): each call answers with the number of its first check that fails, and with its result where none does
pub opening-number : (s l : List ℕ) (r : Opened) (m : List ℕ) → Opens s l r m → opening_error_code r.answer ≡ first_failing (opening_checks s l)
opening-number = D1.open-number

pub decode-number : (d : Decoder) (s l : List ℕ) (r : DecodeResult) (m : List ℕ) → Decodes d s l r m
    → decode_error_code r.outcome ≡ first_failing (decode_checks d s l)
decode-number = D1.decode-number

pub conversion-number : (d : Decoder) (l : List ℕ) (k : ℕ) (a : List ℕ) (w h : ℕ) (r : Converted) (b : List ℕ) → Converts d l k a w h r b
    → conversion_error_code r ≡ first_failing (conversion_checks d l k a w h)
conversion-number = D1.convert_number

-- RULES D1.5 (Demand1.antt): what is left behind each number: the whole record, and every byte of the store
pub opening-leaves : (s l : List ℕ) (r : Opened) (m : List ℕ) → Opens s l r m → (n : ℕ) → r.answer ≡ O.Refused n
    → AfterOpening s l n r.decoder × (m ≡ l)
opening-leaves = D1.open-left

pub decode-leaves : (d : Decoder) (s l : List ℕ) (r : DecodeResult) (m : List ℕ) → Decodes d s l r m → (n : ℕ) → r.outcome ≡ H.Refused n
    → AfterDecode d s l n r.decoder m
decode-leaves = D1.decode-left

-- RULES D1.5 (OneResult.antt): that fixes record and store
pub one-result : (d : Decoder) (s l : List ℕ) (n : ℕ) (x y : Decoder) (m k : List ℕ) → AfterDecode d s l n x m → AfterDecode d s l n y k → (x ≡ y) × (m ≡ k)
one-result d s l n x y m k a b = OneResult.decode-one a b

-- RULES Q8, Q9 (Stops.antt): a picture that ends a call early has come to the value outside that its cause names, and to none before it
pub early-end : (d : Decoder) (s l : List ℕ) (n : ℕ) (x : Decoder) (m : List ℕ) (r : AfterError8Or9 d s l n x m)
    → PictureStopIn d s r.given (stop r.cause m)
early-end d s l n x m r = decode-stops r

-- RULES D2.1, D2.2 (Demand2.antt): what is left and given where no check fails
pub opening-ready : (s l : List ℕ) (r : Opened) (m : List ℕ) → Opens s l r m → r.answer ≡ O.Ready → OpeningLeaves s l r.decoder m
opening-ready = D2.open-opened

pub decode-picture : (d : Decoder) (s l : List ℕ) (r : DecodeResult) (m : List ℕ) → Decodes d s l r m → (i : Shown) → r.outcome ≡ H.Picture i
    → DecodeOutputs d s l i r.decoder m
decode-picture = D2.decode-hands-out

pub conversion-writes : (d : Decoder) (l : List ℕ) (k : ℕ) (a : List ℕ) (w h : ℕ) (r : Converted) (b : List ℕ) → Converts d l k a w h r b
    → r ≡ C.Written → b ≡ scaled (picture_in d.sequence l k) w h a
conversion-writes = D2.convert-area

-- RULES D2.3 (Demand2.antt): the bytes behind the three pictures stay, whatever the answer
pub decode-keeps : (d : Decoder) (s l : List ℕ) (r : DecodeResult) (m : List ℕ) → Decodes d s l r m → SameFrom (store_bytes (with_header_if_missing s d)) l m
decode-keeps = D2.decode-same

-- RULES R.1 to R.3 (DemandRun.antt): of a stream of bytes, the calls rs behind any opening: how many pictures they give at most; a 7 stays; the record that the
-- last one leaves is possible
pub run : (s l : List ℕ) (r : Opened) (m : List ℕ) → Opens s l r m → ((k : ℕ) → get_or s k 0 < 256) → (rs : List DecodeResult) (y : CallState)
    → Calls s (call_state r.decoder m) rs y
    → (pictures_in rs ≤ 8 * length s / 29 + 1) × NoPictureStays rs × (possible y.decoder ≡ true)
run s l r m gave bytes rs y calls =
    (DR.run-few s l r m gave bytes rs y calls, DR.run-seven s l r m gave bytes rs y calls, DR.run-possible s l r m gave bytes rs y calls)

-- RULES D2.5 (DisplayRun.antt): of calls that read only pictures which are decoded: what is shown is the order of display, or lacks of it only the picture that
-- waits at the end
pub in-display-order : (s l : List ℕ) (r : Opened) (m : List ℕ) → Opens s l r m → ((k : ℕ) → get_or s k 0 < 256) → (ps : List (List ℕ)) (cs : List CodedPicture)
    → (y : CallState) → CallsOutput s (call_state r.decoder m) ps cs y → AllDecoded cs
    → (ps ++ waiting [] cs ≡ display_order cs) ⊎ (ps ≡ display_order cs)
in-display-order = DisplayRun.display-order
