-- RULES D1.3 to D1.5, D2.2: `mpeg1_write_rgb_scaled`. Each theorem is of any call: by its contract it left y, and nothing else is assumed. The record and the
-- store are lent to be read.
use mathlib.Core.Path.{◌≡◌, refl, sym, ap, ◌∙◌}
use mathlib.Core.Bool.{true, false, not, ◌&&◌, or-true}
use mathlib.Core.List.{List}
use mathlib.Core.Logic.{◌⊎◌, inl, inr}
use Prim.Native.Nat.{ℕ, ◌<◌, ◌≤◌, ◌*◌}
use native.Mathlib.Omega.{arith}
use borrow.Author.Tests.{not-true, not-false}
use lib.Dec.{leb}
use lib.ListN.{length}
use Rattle.argb.specs.Scaled.{scaled}
use Rattle.conversion.specs.Pictures.{picture_in, fits}
use Rattle.laws.proofs.Tests.{by-case}
use Rattle.decoder.specs.declared.record.Decoder.{Decoder}
use Rattle.decoder.specs.declared.answers.Converted.{Converted}
use Rattle.decoder.specs.declared.answers.Converted.TheVariants as C
use Rattle.decoder.specs.Record.{store_bytes}
use Rattle.decoder.specs.Answers.{conversion_error_code}
use Rattle.decoder.specs.Possible.{possible}
use Rattle.decoder.specs.Conversion.{converted}
use Rattle.demands.specs.Checks.{first_failing}
use Rattle.demands.specs.ErrorCodes.{member, conversion_error_codes}
use Rattle.demands.proofs.Demand1 as D1
use Rattle.demands.proofs.Demand2 as D2
use Rattle.memory.specs.Memory.{Memory, record_of, is_record}
use Rattle.mpeg1.specs.Calls.{Converts, converts, host_convert, HostConverts}
use Rattle.host_demands.specs.Checks.{host_conversion_error_codes, host_conversion_checks}

member_named : (o : Converted) → ((n : ℕ) → o ≡ C.Refused n → member n conversion_error_codes ≡ true)
    → member (conversion_error_code o) host_conversion_error_codes ≡ true
unfolding member
member_named C.Written h = refl
member_named (C.Refused n) h = rw (h n refl, or-true) refl

refused : (n : ℕ) (o : Converted) → conversion_error_code o ≡ n → 0 < n → o ≡ C.Refused n
refused n C.Written e h = let no : ⊥ = omega arith in absurd no
refused n (C.Refused m) e h = ap C.Refused e

module _ (l : List ℕ) (x : Memory) (k : ℕ) (a : List ℕ) (w h : ℕ) (y : Converts) (gave : HostConverts l x k a w h y) where
  abbrev d : Decoder
  d = record_of x

  abbrev answer : Converted
  answer = (converted d l k a w h).answer

  abbrev area : List ℕ
  area = (converted d l k a w h).area

  -- the memory held no record, or the conversion was asked
  data Case : Type 0 where
    no_record : is_record x ≡ false → y ≡ converts 2 a → Case
    asked : is_record x ≡ true → y ≡ converts (conversion_error_code answer) area → Case

  case : Case
  unfolding host_convert
  case = by-case (λ z. y ≡ z → Case) (not (is_record x)) (λ e q. no_record (not-true (is_record x) e) q) (λ e q. asked (not-false (is_record x) e) q) gave

  code : {n : ℕ} → y ≡ converts (conversion_error_code answer) area → y.answer ≡ n → conversion_error_code answer ≡ n
  code q e = sym (ap (λ z. z.answer) q) ∙ e

  -- a number but 2 is the conversion's own
  own : (n : ℕ) → y.answer ≡ n → 2 < n → answer ≡ C.Refused n
  own n e p = go case
    where
      go : Case → answer ≡ C.Refused n
      go (no_record i q) = let no : ⊥ = omega (arith, ap (λ z. z.answer) q) in absurd no
      go (asked i q) = refused n answer (code q e) (omega arith)

  -- D1.3
  pub host_convert_named : member y.answer host_conversion_error_codes ≡ true
  unfolding member
  host_convert_named = go case
    where
      go : Case → member y.answer host_conversion_error_codes ≡ true
      go (no_record i q) = rw q refl
      go (asked i q) = rw q (member_named answer (λ n e. (D1.convert-left d l k a w h answer area refl n e).0))

  -- D1.4: the number of the first "no", and 0 where there is none
  pub host_convert-number : y.answer ≡ first_failing (host_conversion_checks l x k a w h)
  unfolding first_failing
  host_convert-number = go case
    where
      go : Case → y.answer ≡ first_failing (host_conversion_checks l x k a w h)
      go (no_record i q) = rw (q, i) refl
      go (asked i q) = rw (q, i) (D1.convert_number d l k a w h answer area refl)

  -- D2.2: the pixels of the record's picture
  pub host_convert-0 : y.answer ≡ 0 → y.area ≡ scaled (picture_in (record_of x).sequence l k) w h a
  host_convert-0 e = go case
    where
      go : Case → y.area ≡ scaled (picture_in d.sequence l k) w h a
      go (no_record i q) = let no : ⊥ = omega (arith, ap (λ z. z.answer) q) in absurd no
      go (asked i q) =
          let none = sym (D1.convert_number d l k a w h answer area refl) ∙ code q e in
          ap (λ z. z.area) q ∙ D2.convert-area d l k a w h answer area refl (D2.convert-written d l k a w h answer area refl none)

  -- D1.5: whatever the number, the area is as it was
  pub host_convert-left : (n : ℕ) → y.answer ≡ n → 0 < n → y.area ≡ a
  host_convert-left n e p = go case
    where
      go : Case → y.area ≡ a
      go (no_record i q) = ap (λ z. z.area) q
      go (asked i q) = ap (λ z. z.area) q ∙ (D1.convert-left d l k a w h answer area refl n (refused n answer (code q e) p)).1

  -- the rows of the table
  pub host_convert-2 : y.answer ≡ 2 → (is_record x ≡ false) ⊎ (possible (record_of x) ≡ false)
  host_convert-2 e = go case
    where
      go : Case → (is_record x ≡ false) ⊎ (possible d ≡ false)
      go (no_record i q) = inl i
      go (asked i q) = inr (D1.convert-2 d l k a w h answer area refl (refused 2 answer (code q e) (omega arith)))

  pub host_convert-6 : y.answer ≡ 6 → (possible (record_of x) ≡ true) × (length l < store_bytes (record_of x))
  host_convert-6 e = D1.convert-6 d l k a w h answer area refl (own 6 e (omega arith))

  pub host_convert-10 : y.answer ≡ 10
      → (possible (record_of x) ≡ true) × (store_bytes (record_of x) ≤ length l) × (((record_of x).sequence.has_sequence_header && leb k 2) ≡ false)
  host_convert-10 e = D1.convert-10 d l k a w h answer area refl (own 10 e (omega arith))

  pub host_convert-11 : y.answer ≡ 11
      → (possible (record_of x) ≡ true) × (store_bytes (record_of x) ≤ length l) × (((record_of x).sequence.has_sequence_header && leb k 2) ≡ true)
      × (fits w h a ≡ false)
  host_convert-11 e = D1.convert-11 d l k a w h answer area refl (own 11 e (omega arith))
