-- RULES D1.3 to D1.5: demand 1, of what the calls gave. Each theorem is of any call: by its contract it gave r, and nothing else is assumed.
-- D1.1 and D1.2 are that the calls' code is proved, with no `requires`.
use mathlib.Core.Path.{◌≡◌, refl, sym, ap, ap₂, subst, ◌∙◌}
use mathlib.Core.Bool.{true, false, ◌&&◌}
use mathlib.Core.List.{List}
use mathlib.Core.Logic.{◌⊎◌}
use Prim.Native.Nat.{ℕ, ◌<◌, ◌≤◌}
use native.Mathlib.Omega.{arith}
use lib.Dec.{leb}
use lib.ListN.{length}
use borrow.Author.Tests.{leb-true, leb-false}
use Rattle.conversion.specs.Pictures.{fits}
use Rattle.decoder.specs.declared.record.Decoder.{Decoder}
use Rattle.decoder.specs.declared.answers.{Opening.Opening, Opened.Opened, DecodeResult.DecodeResult, Converted.Converted}
use Rattle.decoder.specs.declared.answers.Opening.TheVariants as O
use Rattle.playback.specs.declared.outcome.Outcome.{Outcome}
use Rattle.playback.specs.declared.outcome.Outcome.TheVariants as H
use Rattle.decoder.specs.declared.answers.Converted.TheVariants as C
use Rattle.decoder.specs.Record.{CallResult, call_result, fresh, store_bytes}
use Rattle.decoder.specs.Possible.{possible}
use Rattle.decoder.specs.Opening.{opening}
use Rattle.decoder.specs.Decode.{decode}
use Rattle.decoder.specs.Conversion.{ConversionOutput}
use Rattle.decoder.specs.Answers.{opening_error_code, decode_error_code, conversion_error_code}
use Rattle.decoder.specs.Calls.{Opens, Decodes, Converts}
use Rattle.demands.specs.Checks.{first_failing, IsFirstFailing, with_header, opening_checks, decode_checks, conversion_checks}
use Rattle.demands.specs.ErrorCodes.{member, opening_error_codes, decode_error_codes, conversion_error_codes}
use Rattle.demands.specs.After.{AfterHeader, LeftByOpening, LeftByDecode, AfterOpening, AfterDecode}
use Rattle.demands.specs.AfterErrors.{AfterError3, AfterError4, AfterError5, TriesAgain, AfterError6, AfterError7, AfterError8Or9}
use Rattle.demands.proofs.Checks.{first-is, is-first, opening-checks, decode-checks, conversion-checks}
use Rattle.demands.proofs.After.{opening-after, decode-after}
use Rattle.demands.proofs.ErrorCodes.{opening_named, opening-positive, decode-error-listed, positive, conversion-after, conversion-positive}
use Rattle.demands.proofs.Rows as Rows
use Rattle.demands.proofs.OneResult.{tries-again, opening-one, decode-one}
use Rattle.bits.specs.Bounds.{longest_stream}

-- ---- open

module _ (s l : List ℕ) (r : Opened) (m : List ℕ) (gave : Opens s l r m) where
  -- D1.4: the number of the first "no", and 0 where there is none
  pub open-number : opening_error_code r.answer ≡ first_failing (opening_checks s l)
  open-number = ap (λ (x : CallResult Opening). opening_error_code x.answer) gave ∙ opening-checks s l

  opened-left : (n : ℕ) → r.answer ≡ O.Refused n → LeftByOpening s l n r.decoder × (m ≡ l)
  opened-left n e =
      subst (λ (x : CallResult Opening). x.answer ≡ O.Refused n → LeftByOpening s l n x.decoder × (x.store ≡ l)) (sym gave) (opening-after s l n) e

  -- D1.3
  pub open_named : (n : ℕ) → r.answer ≡ O.Refused n → member n opening_error_codes ≡ true
  open_named n e = opening_named (opened-left n e).0

  -- D1.4, both ways
  pub open-says : (n : ℕ) → 0 < n → IsFirstFailing n (opening_checks s l) → r.answer ≡ O.Refused n
  open-says n h k = go r.answer (open-number ∙ first-is (opening_checks s l) k)
    where
      go : (o : Opening) → opening_error_code o ≡ n → o ≡ O.Refused n
      go O.Ready e = let no : ⊥ = omega arith in absurd no
      go (O.Refused i) e = ap O.Refused e

  pub open_means : (n : ℕ) → r.answer ≡ O.Refused n → IsFirstFailing n (opening_checks s l)
  open_means n e = is-first (opening_checks s l) n (opening-positive n (open_named n e)) (sym open-number ∙ ap opening_error_code e)

  -- D1.5: what is left behind each number
  pub open-left : (n : ℕ) → r.answer ≡ O.Refused n → AfterOpening s l n r.decoder × (m ≡ l)
  open-left n e = let k = opened-left n e in (record { first = open_means n e; left = k.0 }, k.1)

  -- the rows of the table
  pub open-1 : r.answer ≡ O.Refused 1 → (longest_stream < length s) × (r.decoder ≡ fresh)
  open-1 e = Rows.opening-1 (opened-left 1 e).0 refl

  pub open-3 : r.answer ≡ O.Refused 3 → AfterError3 s fresh r.decoder
  open-3 e = Rows.header-3 (Rows.opening-header (opened-left 3 e).0 (omega arith) (omega arith)) refl

  pub open-4 : r.answer ≡ O.Refused 4 → AfterError4 s fresh r.decoder
  open-4 e = Rows.header-4 (Rows.opening-header (opened-left 4 e).0 (omega arith) (omega arith)) refl

  pub open-5 : r.answer ≡ O.Refused 5 → AfterError5 s fresh r.decoder
  open-5 e = Rows.header-5 (Rows.opening-header (opened-left 5 e).0 (omega arith) (omega arith)) refl

  pub open-6 : r.answer ≡ O.Refused 6 → IsFirstFailing 6 (opening_checks s l) × (length l < store_bytes (with_header s fresh)) × (r.decoder ≡ fresh)
  open-6 e = let k = Rows.opening-6 (opened-left 6 e).0 refl in (open_means 6 e, k.0, k.1)

  -- Q5, O.5
  pub open-5-next : r.answer ≡ O.Refused 5 → TriesAgain s r.decoder
  unfolding fresh
  open-5-next e = tries-again (open-5 e) refl

  -- QC: whatever the number, the store is as it was
  pub open-store : (n : ℕ) → r.answer ≡ O.Refused n → m ≡ l
  open-store n e = (opened-left n e).1

-- D1.5, the other way: what a row admits is what `open` gives
pub open-only : (s l : List ℕ) (n : ℕ) (x : Decoder) → AfterOpening s l n x → Opens s l (record { decoder = x; answer = O.Refused n }) l
open-only s l n x a =
    let o = opening s l in
    let r : Opened = record { decoder = o.decoder; answer = o.answer } in
    let e : o.answer ≡ O.Refused n = open-says s l r o.store refl n (opening-positive n (opening_named a.left)) a.first in
    let k = open-left s l r o.store refl n e in
    ap₂ (λ (y : Decoder) (m : List ℕ). call_result (O.Refused n) y m) (opening-one a k.0) (sym k.1)
    ∙ ap (λ (v : Opening). call_result v o.decoder o.store) (sym e)

-- ---- decode

module _ (d : Decoder) (s l : List ℕ) (r : DecodeResult) (m : List ℕ) (gave : Decodes d s l r m) where
  -- D1.4
  pub decode-number : decode_error_code r.outcome ≡ first_failing (decode_checks d s l)
  decode-number = ap (λ (x : CallResult Outcome). decode_error_code x.answer) gave ∙ decode-checks d s l

  decoded-left : (n : ℕ) → r.outcome ≡ H.Refused n → LeftByDecode d s l n r.decoder m
  decoded-left n e =
      subst (λ (x : CallResult Outcome). x.answer ≡ H.Refused n → LeftByDecode d s l n x.decoder x.store) (sym gave) (decode-after d s l n) e

  -- D1.3
  pub decode_named : (n : ℕ) → r.outcome ≡ H.Refused n → member n decode_error_codes ≡ true
  decode_named n e = decode-error-listed (decoded-left n e)

  -- D1.4, both ways
  pub decode-says : (n : ℕ) → 0 < n → IsFirstFailing n (decode_checks d s l) → r.outcome ≡ H.Refused n
  decode-says n h k = go r.outcome (decode-number ∙ first-is (decode_checks d s l) k)
    where
      go : (o : Outcome) → decode_error_code o ≡ n → o ≡ H.Refused n
      go (H.Picture i) e = let no : ⊥ = omega arith in absurd no
      go (H.Refused i) e = ap H.Refused e

  pub decode_means : (n : ℕ) → r.outcome ≡ H.Refused n → IsFirstFailing n (decode_checks d s l)
  decode_means n e = is-first (decode_checks d s l) n (positive n (decode_named n e)) (sym decode-number ∙ ap decode_error_code e)

  -- D1.5
  pub decode-left : (n : ℕ) → r.outcome ≡ H.Refused n → AfterDecode d s l n r.decoder m
  decode-left n e = record { first = decode_means n e; left = decoded-left n e }

  -- the rows of the table
  pub decode-1 : r.outcome ≡ H.Refused 1 → (longest_stream < length s) × (r.decoder ≡ d) × (m ≡ l)
  decode-1 e = Rows.after-decode-1 (decoded-left 1 e) refl

  pub decode-2 : r.outcome ≡ H.Refused 2 → (possible d ≡ false) × (r.decoder ≡ d) × (m ≡ l)
  decode-2 e = Rows.after-decode-2 (decoded-left 2 e) refl

  header-left : (n : ℕ) → r.outcome ≡ H.Refused n → 2 < n → n < 6
      → (d.sequence.has_sequence_header ≡ false) × AfterHeader s d n r.decoder × (m ≡ l)
  header-left n e p q = Rows.decode-header (decoded-left n e) p q

  pub decode-3 : r.outcome ≡ H.Refused 3 → (d.sequence.has_sequence_header ≡ false) × AfterError3 s d r.decoder × (m ≡ l)
  decode-3 e = let h = header-left 3 e (omega arith) (omega arith) in (h.0, Rows.header-3 h.1 refl, h.2)

  pub decode-4 : r.outcome ≡ H.Refused 4 → (d.sequence.has_sequence_header ≡ false) × AfterError4 s d r.decoder × (m ≡ l)
  decode-4 e = let h = header-left 4 e (omega arith) (omega arith) in (h.0, Rows.header-4 h.1 refl, h.2)

  pub decode-5 : r.outcome ≡ H.Refused 5 → (d.sequence.has_sequence_header ≡ false) × AfterError5 s d r.decoder × (m ≡ l)
  decode-5 e = let h = header-left 5 e (omega arith) (omega arith) in (h.0, Rows.header-5 h.1 refl, h.2)

  pub decode-5-next : r.outcome ≡ H.Refused 5 → TriesAgain s r.decoder
  decode-5-next e = let h = decode-5 e in tries-again h.1 h.0

  pub decode-6 : r.outcome ≡ H.Refused 6 → AfterError6 d s l r.decoder m
  decode-6 e = Rows.after-decode-6 (decoded-left 6 e) refl (decode_means 6 e)

  pub decode-7 : r.outcome ≡ H.Refused 7 → AfterError7 d s l r.decoder m
  decode-7 e = Rows.after-decode-7 (decoded-left 7 e) refl (decode_means 7 e)

  -- QA: for the stop mark nothing is changed
  pub decode-8 : r.outcome ≡ H.Refused 8 → ((d.stop ≡ 8) × (r.decoder ≡ d) × (m ≡ l)) ⊎ AfterError8Or9 d s l 8 r.decoder m
  decode-8 e = Rows.decode-8-9 (decoded-left 8 e) (omega arith) (decode_means 8 e)

  pub decode-9 : r.outcome ≡ H.Refused 9 → ((d.stop ≡ 9) × (r.decoder ≡ d) × (m ≡ l)) ⊎ AfterError8Or9 d s l 9 r.decoder m
  decode-9 e = Rows.decode-8-9 (decoded-left 9 e) (omega arith) (decode_means 9 e)

-- D1.5, the other way
pub decode-only : (d : Decoder) (s l : List ℕ) (n : ℕ) (x : Decoder) (m : List ℕ) → AfterDecode d s l n x m
    → Decodes d s l (record { decoder = x; outcome = H.Refused n }) m
decode-only d s l n x m a =
    let o = decode d s l in
    let r : DecodeResult = record { decoder = o.decoder; outcome = o.answer } in
    let e : o.answer ≡ H.Refused n = decode-says d s l r o.store refl n (positive n (decode-error-listed a.left)) a.first in
    let k = decode-one a (decode-left d s l r o.store refl n e) in
    ap₂ (λ (y : Decoder) (m : List ℕ). call_result (H.Refused n) y m) k.0 k.1
    ∙ ap (λ (v : Outcome). call_result v o.decoder o.store) (sym e)

-- ---- write_rgb_scaled

module _ (d : Decoder) (l : List ℕ) (k : ℕ) (a : List ℕ) (w h : ℕ) (r : Converted) (b : List ℕ) (gave : Converts d l k a w h r b) where
  -- D1.4
  pub convert_number : conversion_error_code r ≡ first_failing (conversion_checks d l k a w h)
  convert_number = ap (λ (x : ConversionOutput). conversion_error_code x.answer) gave ∙ conversion-checks d l k a w h

  -- D1.3, D1.5: whatever the number, the area is as it was
  pub convert-left : (n : ℕ) → r ≡ C.Refused n → (member n conversion_error_codes ≡ true) × (b ≡ a)
  convert-left n e =
      subst (λ (x : ConversionOutput). x.answer ≡ C.Refused n → (member n conversion_error_codes ≡ true) × (x.area ≡ a)) (sym gave)
      (conversion-after d l k a w h n) e

  -- D1.4, both ways: the questions 2, 6, 10 and 11
  pub convert-says : (n : ℕ) → 0 < n → IsFirstFailing n (conversion_checks d l k a w h) → r ≡ C.Refused n
  convert-says n p q = go r (convert_number ∙ first-is (conversion_checks d l k a w h) q)
    where
      go : (o : Converted) → conversion_error_code o ≡ n → o ≡ C.Refused n
      go C.Written e = let no : ⊥ = omega arith in absurd no
      go (C.Refused i) e = ap C.Refused e

  pub convert_means : (n : ℕ) → r ≡ C.Refused n → IsFirstFailing n (conversion_checks d l k a w h)
  convert_means n e =
      is-first (conversion_checks d l k a w h) n (conversion-positive n (convert-left n e).0) (sym convert_number ∙ ap conversion_error_code e)

  -- the rows of the table
  pub convert-2 : r ≡ C.Refused 2 → possible d ≡ false
  convert-2 e = Rows.convert-2 (convert_means 2 e)

  pub convert-6 : r ≡ C.Refused 6 → (possible d ≡ true) × (length l < store_bytes d)
  convert-6 e = let x = Rows.convert-6 (convert_means 6 e) in (x.0, leb-false (store_bytes d) (length l) x.1)

  pub convert-10 : r ≡ C.Refused 10 → (possible d ≡ true) × (store_bytes d ≤ length l) × ((d.sequence.has_sequence_header && leb k 2) ≡ false)
  convert-10 e = let x = Rows.convert-10 (convert_means 10 e) in (x.0, leb-true (store_bytes d) (length l) x.1, x.2)

  pub convert-11 : r ≡ C.Refused 11
      → (possible d ≡ true) × (store_bytes d ≤ length l) × ((d.sequence.has_sequence_header && leb k 2) ≡ true) × (fits w h a ≡ false)
  convert-11 e = let x = Rows.convert-11 (convert_means 11 e) in (x.0, leb-true (store_bytes d) (length l) x.1, x.2, x.3)
