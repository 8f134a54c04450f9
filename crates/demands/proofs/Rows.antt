-- RULES "The numbers": its rows, read off what a call has left.
use mathlib.Core.Path.{◌≡◌, refl, subst}
use mathlib.Core.Bool.{Bool, true, false}
use mathlib.Core.List.{List, [], ◌∷◌}
use mathlib.Core.Logic.{◌⊎◌, inl, inr, ⊎_elim}
use Prim.Native.Nat.{ℕ, ◌<◌}
use native.Mathlib.Omega.{arith}
use lib.ListN.{length}
use Rattle.decoder.specs.declared.record.Decoder.{Decoder}
use Rattle.decoder.specs.Record.{fresh, store_bytes}
use Rattle.decoder.specs.Possible.{possible}
use Rattle.picture_state.specs.Stop.{Cause, dc_outside, prediction_outside, error_code}
use Rattle.demands.specs.Checks.{check, IsFirstFailing, this-one, a-later, with_header, decode_checks}
use Rattle.demands.specs.After as A
use Rattle.demands.specs.After.{AfterHeader, LeftByOpening, LeftByDecode}
use Rattle.demands.specs.AfterErrors.{AfterError3, AfterError4, AfterError5, AfterError6, AfterError7, AfterError8Or9}
use Rattle.bits.specs.Bounds.{longest_stream}

-- ---- the questions on the header

module _ {s : List ℕ} {d : Decoder} where
  pub header-number : {n : ℕ} {x : Decoder} → AfterHeader s d n x → (2 < n) × (n < 6)
  header-number (A.after-3 n e) = (omega arith, omega arith)
  header-number (A.after-4 e h) = (omega arith, omega arith)
  header-number (A.after-5 e h z) = (omega arith, omega arith)

  pub header-3 : {n : ℕ} {x : Decoder} → AfterHeader s d n x → n ≡ 3 → AfterError3 s d x
  header-3 (A.after-3 n e) q = record { searched = n; position = _; ended = e; is = refl }
  header-3 (A.after-4 e h) q = let no : ⊥ = omega arith in absurd no
  header-3 (A.after-5 e h z) q = let no : ⊥ = omega arith in absurd no

  pub header-4 : {n : ℕ} {x : Decoder} → AfterHeader s d n x → n ≡ 4 → AfterError4 s d x
  header-4 (A.after-3 n e) q = let no : ⊥ = omega arith in absurd no
  header-4 (A.after-4 e h) q = record { code = e; few = h }
  header-4 (A.after-5 e h z) q = let no : ⊥ = omega arith in absurd no

  pub header-5 : {n : ℕ} {x : Decoder} → AfterHeader s d n x → n ≡ 5 → AfterError5 s d x
  header-5 (A.after-3 n e) q = let no : ⊥ = omega arith in absurd no
  header-5 (A.after-4 e h) q = let no : ⊥ = omega arith in absurd no
  header-5 (A.after-5 {x = b} e h z) q = record { at_code = b; code = e; bits = h; zero = z; is = refl }

-- ---- opening

module _ {s l : List ℕ} where
  pub opening-1 : {n : ℕ} {x : Decoder} → LeftByOpening s l n x → n ≡ 1 → (longest_stream < length s) × (x ≡ fresh)
  opening-1 (A.after-1 h) q = (h, refl)
  opening-1 (A.after-header h) q = let k = header-number h in let no : ⊥ = omega arith in absurd no
  opening-1 (A.after-6 h) q = let no : ⊥ = omega arith in absurd no

  pub opening-header : {n : ℕ} {x : Decoder} → LeftByOpening s l n x → 2 < n → n < 6 → AfterHeader s fresh n x
  opening-header (A.after-1 h) p q = let no : ⊥ = omega arith in absurd no
  opening-header (A.after-header h) p q = h
  opening-header (A.after-6 h) p q = let no : ⊥ = omega arith in absurd no

  pub opening-6 : {n : ℕ} {x : Decoder} → LeftByOpening s l n x → n ≡ 6 → (length l < store_bytes (with_header s fresh)) × (x ≡ fresh)
  opening-6 (A.after-1 h) q = let no : ⊥ = omega arith in absurd no
  opening-6 (A.after-header h) q = let k = header-number h in let no : ⊥ = omega arith in absurd no
  opening-6 (A.after-6 h) q = (h, refl)

-- ---- a hand-out

pub cause-number : (c : Cause) {n : ℕ} → n ≡ error_code c → (n ≡ 8) ⊎ (n ≡ 9)
cause-number (dc_outside address block predictor difference) e = inl e
cause-number (prediction_outside address plane h v) e = inr e

module _ {d : Decoder} {s l : List ℕ} where
  pub after-decode-1 : {n : ℕ} {x : Decoder} {m : List ℕ} → LeftByDecode d s l n x m → n ≡ 1 → (longest_stream < length s) × (x ≡ d) × (m ≡ l)
  after-decode-1 (A.after-1 h) p = (h, refl, refl)
  after-decode-1 (A.after-2 h) p = let no : ⊥ = omega arith in absurd no
  after-decode-1 (A.after_stop h) p = let no : ⊥ = ⊎_elim (λ (e : d.stop ≡ 8). omega arith) (λ (e : d.stop ≡ 9). omega arith) h in absurd no
  after-decode-1 (A.after-header f h) p = let k = header-number h in let no : ⊥ = omega arith in absurd no
  after-decode-1 (A.after-6 h) p = let no : ⊥ = omega arith in absurd no
  after-decode-1 (A.after-7 i t u) p = let no : ⊥ = omega arith in absurd no
  after-decode-1 (A.after-8-9 {c = c} z t i e q) p = let no : ⊥ = ⊎_elim (λ g. omega arith) (λ g. omega arith) (cause-number c q) in absurd no

  pub after-decode-2 : {n : ℕ} {x : Decoder} {m : List ℕ} → LeftByDecode d s l n x m → n ≡ 2 → (possible d ≡ false) × (x ≡ d) × (m ≡ l)
  after-decode-2 (A.after-1 h) p = let no : ⊥ = omega arith in absurd no
  after-decode-2 (A.after-2 h) p = (h, refl, refl)
  after-decode-2 (A.after_stop h) p = let no : ⊥ = ⊎_elim (λ (e : d.stop ≡ 8). omega arith) (λ (e : d.stop ≡ 9). omega arith) h in absurd no
  after-decode-2 (A.after-header f h) p = let k = header-number h in let no : ⊥ = omega arith in absurd no
  after-decode-2 (A.after-6 h) p = let no : ⊥ = omega arith in absurd no
  after-decode-2 (A.after-7 i t u) p = let no : ⊥ = omega arith in absurd no
  after-decode-2 (A.after-8-9 {c = c} z t i e q) p = let no : ⊥ = ⊎_elim (λ g. omega arith) (λ g. omega arith) (cause-number c q) in absurd no

  pub decode-header : {n : ℕ} {x : Decoder} {m : List ℕ} → LeftByDecode d s l n x m → 2 < n → n < 6
      → (d.sequence.has_sequence_header ≡ false) × AfterHeader s d n x × (m ≡ l)
  decode-header (A.after-1 h) p q = let no : ⊥ = omega arith in absurd no
  decode-header (A.after-2 h) p q = let no : ⊥ = omega arith in absurd no
  decode-header (A.after_stop h) p q = let no : ⊥ = ⊎_elim (λ (e : d.stop ≡ 8). omega arith) (λ (e : d.stop ≡ 9). omega arith) h in absurd no
  decode-header (A.after-header f h) p q = (f, h, refl)
  decode-header (A.after-6 h) p q = let no : ⊥ = omega arith in absurd no
  decode-header (A.after-7 i t u) p q = let no : ⊥ = omega arith in absurd no
  decode-header (A.after-8-9 {c = c} z t i e r) p q = let no : ⊥ = ⊎_elim (λ g. omega arith) (λ g. omega arith) (cause-number c r) in absurd no

  pub after-decode-6 : {n : ℕ} {x : Decoder} {m : List ℕ} → LeftByDecode d s l n x m → n ≡ 6 → IsFirstFailing n (decode_checks d s l) → AfterError6 d s l x m
  after-decode-6 (A.after-1 h) p k = let no : ⊥ = omega arith in absurd no
  after-decode-6 (A.after-2 h) p k = let no : ⊥ = omega arith in absurd no
  after-decode-6 (A.after_stop h) p k = let no : ⊥ = ⊎_elim (λ (e : d.stop ≡ 8). omega arith) (λ (e : d.stop ≡ 9). omega arith) h in absurd no
  after-decode-6 (A.after-header f h) p k = let j = header-number h in let no : ⊥ = omega arith in absurd no
  after-decode-6 (A.after-6 h) p k = record { first = subst (λ (n : ℕ). IsFirstFailing n (decode_checks d s l)) p k; short = h; decoder = refl; store = refl }
  after-decode-6 (A.after-7 i t u) p k = let no : ⊥ = omega arith in absurd no
  after-decode-6 (A.after-8-9 {c = c} z t i e q) p k = let no : ⊥ = ⊎_elim (λ g. omega arith) (λ g. omega arith) (cause-number c q) in absurd no

  pub after-decode-7 : {n : ℕ} {x : Decoder} {m : List ℕ} → LeftByDecode d s l n x m → n ≡ 7 → IsFirstFailing n (decode_checks d s l) → AfterError7 d s l x m
  after-decode-7 (A.after-1 h) p k = let no : ⊥ = omega arith in absurd no
  after-decode-7 (A.after-2 h) p k = let no : ⊥ = omega arith in absurd no
  after-decode-7 (A.after_stop h) p k = let no : ⊥ = ⊎_elim (λ (e : d.stop ≡ 8). omega arith) (λ (e : d.stop ≡ 9). omega arith) h in absurd no
  after-decode-7 (A.after-header f h) p k = let j = header-number h in let no : ⊥ = omega arith in absurd no
  after-decode-7 (A.after-6 h) p k = let no : ⊥ = omega arith in absurd no
  after-decode-7 (A.after-7 i t u) p k = record { first = k; given = _; step = i; none = t; kept = u; decoder = refl; store = refl }
  after-decode-7 (A.after-8-9 {c = c} z t i e q) p k = let no : ⊥ = ⊎_elim (λ g. omega arith) (λ g. omega arith) (cause-number c q) in absurd no

  -- RULES QA: at once, for the stop mark; else for the picture
  pub decode-8-9 : {n : ℕ} {x : Decoder} {m : List ℕ} → LeftByDecode d s l n x m → 7 < n → IsFirstFailing n (decode_checks d s l)
      → ((d.stop ≡ n) × (x ≡ d) × (m ≡ l)) ⊎ AfterError8Or9 d s l n x m
  decode-8-9 (A.after-1 h) p k = let no : ⊥ = omega arith in absurd no
  decode-8-9 (A.after-2 h) p k = let no : ⊥ = omega arith in absurd no
  decode-8-9 (A.after_stop h) p k = inl (refl, refl, refl)
  decode-8-9 (A.after-header f h) p k = let j = header-number h in let no : ⊥ = omega arith in absurd no
  decode-8-9 (A.after-6 h) p k = let no : ⊥ = omega arith in absurd no
  decode-8-9 (A.after-7 i t u) p k = let no : ⊥ = omega arith in absurd no
  decode-8-9 (A.after-8-9 {c = c} z t i e q) p k =
      inr (record { first = k; mark = z; given = _; step = i; ready = t; cause = c; left = e; number = q; decoder = refl })

-- ---- the conversion

module _ {p q t f : Bool} where
  pub convert-2 : IsFirstFailing 2 (check 2 p ∷ check 6 q ∷ check 10 t ∷ check 11 f ∷ []) → p ≡ false
  convert-2 (this-one e z) = z
  convert-2 (a-later u (this-one e z)) = let no : ⊥ = omega arith in absurd no
  convert-2 (a-later u (a-later v (this-one e z))) = let no : ⊥ = omega arith in absurd no
  convert-2 (a-later u (a-later v (a-later w (this-one e z)))) = let no : ⊥ = omega arith in absurd no
  convert-2 (a-later u (a-later v (a-later w (a-later i x)))) = elim x [ ]

  pub convert-6 : IsFirstFailing 6 (check 2 p ∷ check 6 q ∷ check 10 t ∷ check 11 f ∷ []) → (p ≡ true) × (q ≡ false)
  convert-6 (this-one e z) = let no : ⊥ = omega arith in absurd no
  convert-6 (a-later u (this-one e z)) = (u, z)
  convert-6 (a-later u (a-later v (this-one e z))) = let no : ⊥ = omega arith in absurd no
  convert-6 (a-later u (a-later v (a-later w (this-one e z)))) = let no : ⊥ = omega arith in absurd no
  convert-6 (a-later u (a-later v (a-later w (a-later i x)))) = elim x [ ]

  pub convert-10 : IsFirstFailing 10 (check 2 p ∷ check 6 q ∷ check 10 t ∷ check 11 f ∷ []) → (p ≡ true) × (q ≡ true) × (t ≡ false)
  convert-10 (this-one e z) = let no : ⊥ = omega arith in absurd no
  convert-10 (a-later u (this-one e z)) = let no : ⊥ = omega arith in absurd no
  convert-10 (a-later u (a-later v (this-one e z))) = (u, v, z)
  convert-10 (a-later u (a-later v (a-later w (this-one e z)))) = let no : ⊥ = omega arith in absurd no
  convert-10 (a-later u (a-later v (a-later w (a-later i x)))) = elim x [ ]

  pub convert-11 : IsFirstFailing 11 (check 2 p ∷ check 6 q ∷ check 10 t ∷ check 11 f ∷ []) → (p ≡ true) × (q ≡ true) × (t ≡ true) × (f ≡ false)
  convert-11 (this-one e z) = let no : ⊥ = omega arith in absurd no
  convert-11 (a-later u (this-one e z)) = let no : ⊥ = omega arith in absurd no
  convert-11 (a-later u (a-later v (this-one e z))) = let no : ⊥ = omega arith in absurd no
  convert-11 (a-later u (a-later v (a-later w (this-one e z)))) = (u, v, w, z)
  convert-11 (a-later u (a-later v (a-later w (a-later i x)))) = elim x [ ]
