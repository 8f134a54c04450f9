-- RULES D1.3: the numbers of each call.
use mathlib.Core.Path.{◌≡◌, refl, subst}
use mathlib.Core.Bool.{true, not, ◌&&◌, false≢true}
use mathlib.Core.List.{List}
use mathlib.Core.Logic.{◌⊎◌, inl, inr}
use Prim.Native.Nat.{ℕ, zero, suc, ◌≤◌}
use native.Mathlib.Omega.{arith}
use lib.Dec.{leb}
use lib.ListN.{length}
use Rattle.laws.proofs.Tests.{by-case}
use Rattle.conversion.specs.Pictures.{picture_in, fits}
use Rattle.decoder.specs.declared.record.Decoder.{Decoder}
use Rattle.decoder.specs.declared.answers.Converted.{Converted}
use Rattle.decoder.specs.declared.answers.Converted.TheVariants as C
use Rattle.decoder.specs.Record.{store_bytes}
use Rattle.decoder.specs.Possible.{possible}
use Rattle.argb.specs.Scaled.{scaled}
use Rattle.decoder.specs.Conversion.{ConversionOutput, converted}
use Rattle.picture_state.specs.Stop.{Cause, dc_outside, prediction_outside, error_code}
use Rattle.demands.specs.After as A
use Rattle.demands.specs.After.{LeftByOpening, LeftByDecode}
use Rattle.demands.specs.ErrorCodes.{member, opening_error_codes, decode_error_codes, conversion_error_codes}

pub opening_named : {s l : List ℕ} {n : ℕ} {x : Decoder} → LeftByOpening s l n x → member n opening_error_codes ≡ true
unfolding member
opening_named (A.after-1 h) = refl
opening_named (A.after-header (A.after-3 n e)) = refl
opening_named (A.after-header (A.after-4 e h)) = refl
opening_named (A.after-header (A.after-5 e h z)) = refl
opening_named (A.after-6 h) = refl

cause_named : (c : Cause) → member (error_code c) decode_error_codes ≡ true
unfolding member
cause_named (dc_outside address block predictor difference) = refl
cause_named (prediction_outside address plane h v) = refl

mark_named : (n : ℕ) → (n ≡ 8) ⊎ (n ≡ 9) → member n decode_error_codes ≡ true
unfolding member
mark_named n (inl e) = rw e refl
mark_named n (inr e) = rw e refl

pub decode-error-listed : {d : Decoder} {s l : List ℕ} {n : ℕ} {x : Decoder} {m : List ℕ} → LeftByDecode d s l n x m → member n decode_error_codes ≡ true
unfolding member
decode-error-listed (A.after-1 h) = refl
decode-error-listed (A.after-2 h) = refl
decode-error-listed {d} (A.after_stop h) = mark_named d.stop h
decode-error-listed (A.after-header e (A.after-3 n f)) = refl
decode-error-listed (A.after-header e (A.after-4 f h)) = refl
decode-error-listed (A.after-header e (A.after-5 f h z)) = refl
decode-error-listed (A.after-6 h) = refl
decode-error-listed (A.after-7 i t u) = refl
decode-error-listed (A.after-8-9 {c = c} z t i e q) = rw q (cause_named c)

-- 0 is none of them
pub positive : (n : ℕ) → member n decode_error_codes ≡ true → 1 ≤ n
unfolding member
positive zero h = absurd (false≢true h)
positive (suc n) h = omega arith

-- what the conversion leaves: the area as it was, or the pixels
abbrev Row : List ℕ → List ℕ → Converted → List ℕ → Type 0
Row a p o b = elim o [ C.Written ↦ b ≡ p | C.Refused n ↦ (member n conversion_error_codes ≡ true) × (b ≡ a) ]

area-row : (d : Decoder) (l : List ℕ) (k : ℕ) (a : List ℕ) (w h : ℕ)
    → Row a (scaled (picture_in d.sequence l k) w h a) (converted d l k a w h).answer (converted d l k a w h).area
unfolding converted member
area-row d l k a w h =
    let P : ConversionOutput → Type 0 = λ r. Row a (scaled (picture_in d.sequence l k) w h a) r.answer r.area in
    by-case P (not (possible d)) (λ e. (refl, refl)) (λ e.
    by-case P (not (leb (store_bytes d) (length l))) (λ e. (refl, refl)) (λ e.
    by-case P (not (d.sequence.has_sequence_header && leb k 2)) (λ e. (refl, refl)) (λ e.
    by-case P (not (fits w h a)) (λ e. (refl, refl)) (λ e. refl))))

pub conversion-after : (d : Decoder) (l : List ℕ) (k : ℕ) (a : List ℕ) (w h n : ℕ) → (converted d l k a w h).answer ≡ C.Refused n
    → (member n conversion_error_codes ≡ true) × ((converted d l k a w h).area ≡ a)
conversion-after d l k a w h n e =
    subst (λ (o : Converted). Row a (scaled (picture_in d.sequence l k) w h a) o (converted d l k a w h).area) e (area-row d l k a w h)

-- RULES D2.2
pub conversion-written : (d : Decoder) (l : List ℕ) (k : ℕ) (a : List ℕ) (w h : ℕ) → (converted d l k a w h).answer ≡ C.Written
    → (converted d l k a w h).area ≡ scaled (picture_in d.sequence l k) w h a
conversion-written d l k a w h e =
    subst (λ (o : Converted). Row a (scaled (picture_in d.sequence l k) w h a) o (converted d l k a w h).area) e (area-row d l k a w h)

pub opening-positive : (n : ℕ) → member n opening_error_codes ≡ true → 1 ≤ n
unfolding member
opening-positive zero h = absurd (false≢true h)
opening-positive (suc n) h = omega arith

pub conversion-positive : (n : ℕ) → member n conversion_error_codes ≡ true → 1 ≤ n
unfolding member
conversion-positive zero h = absurd (false≢true h)
conversion-positive (suc n) h = omega arith
