-- RULES D1.3 to D1.5, D2.1, D2.3: `mpeg1_decode`. Each theorem is of any call: by its contract it left y, and nothing else is assumed.
use mathlib.Core.Path.{◌≡◌, refl, sym, ap, subst, ◌∙◌}
use mathlib.Core.Bool.{true, false, not, ◌&&◌, or-true}
use mathlib.Core.List.{List}
use mathlib.Core.Logic.{◌⊎◌, inl, inr}
use Prim.Native.Nat.{ℕ, ◌<◌, ◌≤◌}
use native.Mathlib.Omega.{arith}
use borrow.Author.Tests.{not-true, not-false, leb-false}
use lib.Dec.{leb}
use lib.Ieee.{Float}
use lib.ListN.{length}
use Rattle.bits.specs.Bounds.{longest_stream}
use Rattle.laws.proofs.Tests.{by-case, both}
use Rattle.playback.specs.declared.outcome.{Shown.Shown, Outcome.Outcome}
use Rattle.playback.specs.declared.outcome.Outcome.TheVariants as H
use Rattle.decoder.specs.declared.record.Decoder.{Decoder}
use Rattle.decoder.specs.declared.answers.DecodeResult.{DecodeResult}
use Rattle.decoder.specs.Record.{CallResult, store_bytes}
use Rattle.decoder.specs.Answers.{decode_error_code}
use Rattle.decoder.specs.Possible.{possible}
use Rattle.decoder.specs.Decode.{decode}
use Rattle.demands.specs.Checks.{first_failing, with_header_if_missing}
use Rattle.demands.specs.ErrorCodes.{member, decode_error_codes}
use Rattle.demands.specs.Outputs.{DecodeOutputs}
use Rattle.demands.specs.AfterErrors.{AfterError3, AfterError4, AfterError5, AfterError7, AfterError8Or9}
use Rattle.demands.specs.Stores.{SameFrom}
use Rattle.demands.proofs.Demand1 as D1
use Rattle.demands.proofs.Demand2 as D2
use Rattle.demands.proofs.ErrorCodes.{positive}
use Rattle.demands.proofs.Reached.{same_from}
use Rattle.memory.specs.Memory.{Memory, over, written, record_of, is_record}
use Rattle.memory.proofs.WriteBack.{written_back}
use Rattle.mpeg1.specs.Calls.{HostOutput, host_output, host_result, saved, picture_numbers, picture_count, decode_output, host_decode, HostDecodes}
use Rattle.host_demands.specs.Leaves.{Leaves, SameBehind, unchanged, Untold, Tells}
use Rattle.host_demands.specs.Checks.{host_decode_error_codes, host_decode_checks}
use Rattle.host_demands.proofs.Behind.{same-behind, left_behind}

member_named : (o : Outcome) → ((n : ℕ) → o ≡ H.Refused n → member n decode_error_codes ≡ true) → member (decode_error_code o) host_decode_error_codes ≡ true
unfolding member
member_named (H.Picture i) h = refl
member_named (H.Refused n) h = rw (h n refl, or-true) refl

module _ (s l : List ℕ) (x : Memory) (k : List ℕ) (t : Float) (y : HostOutput) (gave : HostDecodes s l x k t y) where
  abbrev d : Decoder
  d = record_of x

  -- what `decode` gave
  abbrev decoded : DecodeResult
  decoded = record { decoder = (decode d s l).decoder; outcome = (decode d s l).answer }

  abbrev store : List ℕ
  store = (decode d s l).store

  -- the memory held a record, and `decode` was asked
  record Asked : Type 0 where
    short : leb (length s) longest_stream ≡ true
    held : is_record x ≡ true
    room : leb picture_count (length k) ≡ true
    is : y ≡ decode_output (decode d s l) x k t

  data Case : Type 0 where
    too_long : leb (length s) longest_stream ≡ false → y ≡ unchanged 1 l x k t → Case
    no_record : leb (length s) longest_stream ≡ true → (is_record x && leb picture_count (length k)) ≡ false → y ≡ unchanged 2 l x k t → Case
    asked : Asked → Case

  case : Case
  unfolding host_decode
  case =
      by-case (λ z. y ≡ z → Case) (not (leb (length s) longest_stream)) (λ e q. too_long (not-true (leb (length s) longest_stream) e) q) (λ e.
      let short = not-false (leb (length s) longest_stream) e in
      by-case (λ z. y ≡ z → Case) (not (is_record x && leb picture_count (length k)))
      (λ f q. no_record short (not-true (is_record x && leb picture_count (length k)) f) q)
      (λ f q. let h = both (is_record x) (leb picture_count (length k)) (not-false (is_record x && leb picture_count (length k)) f) in
      asked (record { short = short; held = h.0; room = h.1; is = q }))) gave.left

  -- what is kept of it, whatever it answered
  kept : Asked → y.kept ≡ saved (decode_error_code (decode d s l).answer) (decode d s l) x
  kept a = go (decode d s l).answer refl
    where
      go : (o : Outcome) → (decode d s l).answer ≡ o → y.kept ≡ saved (decode_error_code o) (decode d s l) x
      go (H.Picture i) q = ap (λ z. z.kept) (rw q at a.is)
      go (H.Refused n) q = ap (λ z. z.kept) (rw q at a.is)

  -- it was asked, and answered a number
  record Refused (n : ℕ) : Type 0 where
    asked : Asked
    code : (decode d s l).answer ≡ H.Refused n
    is : y ≡ host_output (saved n (decode d s l) x) k t

  answers : (n : ℕ) (o : Outcome) → (decode d s l).answer ≡ o → Asked → y.kept.answer ≡ n → 0 < n → Refused n
  answers n (H.Picture i) q a e h = let e' : 0 ≡ n = rw q at (sym (ap (λ z. z.kept.answer) a.is) ∙ e) in let no : ⊥ = omega arith in absurd no
  answers n (H.Refused m) q a e h =
      let is : y ≡ host_output (saved m (decode d s l) x) k t = rw q at a.is in
      let same : m ≡ n = sym (ap (λ z. z.kept.answer) is) ∙ e in
      record { asked = a; code = q ∙ ap H.Refused same; is = is ∙ ap (λ i. host_output (saved i (decode d s l) x) k t) same }

  own : (n : ℕ) → y.kept.answer ≡ n → 2 < n → Refused n
  own n e h = go case
    where
      go : Case → Refused n
      go (too_long u q) = let no : ⊥ = omega (arith, ap (λ z. z.kept.answer) q) in absurd no
      go (no_record u f q) = let no : ⊥ = omega (arith, ap (λ z. z.kept.answer) q) in absurd no
      go (asked a) = answers n (decode d s l).answer refl a e (omega arith)

  leaves : {n : ℕ} (P : Decoder → Type 0) → Refused n → P (decode d s l).decoder → Leaves P x y.kept.memory
  leaves P w p = record {
    decoder = (decode d s l).decoder;
    is = p;
    wrote = ap (λ z. z.kept.memory) w.is;
    holds = gave.held w.asked.held w.asked.short w.asked.room;
  }

  stored : {n : ℕ} → Refused n → y.kept.store ≡ store
  stored w = ap (λ z. z.kept.store) w.is

  untold : {n : ℕ} → Refused n → Untold k t y
  untold w = (ap (λ z. z.picture) w.is, ap (λ z. z.time) w.is)

  -- the record as passed in, written back over the memory that it was read of
  same : {n : ℕ} → Refused n → (decode d s l).decoder ≡ d → store ≡ l → y ≡ unchanged n l x k t
  same {n} w p q = w.is ∙ rw (p, q, written_back x w.asked.held) refl

  -- D1.3
  pub host-decode_named : member y.kept.answer host_decode_error_codes ≡ true
  unfolding member
  host-decode_named = go case
    where
      go : Case → member y.kept.answer host_decode_error_codes ≡ true
      go (too_long u q) = rw q refl
      go (no_record u f q) = rw q refl
      go (asked a) = rw (kept a) (member_named (decode d s l).answer (D1.decode_named d s l decoded store refl))

  -- D1.4: the number of the first "no", and 0 where there is none
  pub host-decode-number : y.kept.answer ≡ first_failing (host_decode_checks s l x k)
  unfolding first_failing
  host-decode-number = go case
    where
      go : Case → y.kept.answer ≡ first_failing (host_decode_checks s l x k)
      go (too_long u q) = rw (q, u) refl
      go (no_record u f q) = rw (q, u, f) refl
      go (asked a) = rw (kept a, a.short, a.held, a.room) (D1.decode-number d s l decoded store refl)

  -- D1.5, D2.1: the rows of the table
  pub host-decode-0 : y.kept.answer ≡ 0 → Tells s l x k y
  host-decode-0 e = go case
    where
      tells : (o : Outcome) → (decode d s l).answer ≡ o → Asked → Tells s l x k y
      tells (H.Picture i) q a =
          let is : y ≡ host_output (saved 0 (decode d s l) x) (over (picture_numbers i) k) i.time = rw q at a.is in
          record {
            shown = i;
            memory = record {
              decoder = (decode d s l).decoder;
              is = subst (DecodeOutputs d s l i (decode d s l).decoder) (sym (ap (λ z. z.kept.store) is)) (D2.decode-hands-out d s l decoded store refl i q);
              wrote = ap (λ z. z.kept.memory) is;
              holds = gave.held a.held a.short a.room;
            };
            picture = ap (λ z. z.picture) is;
            time = ap (λ z. z.time) is;
          }
      tells (H.Refused n) q a =
          let is : y ≡ host_output (saved n (decode d s l) x) k t = rw q at a.is in
          let zero : n ≡ 0 = sym (ap (λ z. z.kept.answer) is) ∙ e in
          let no : ⊥ = omega (arith, positive n (D1.decode_named d s l decoded store refl n q)) in absurd no

      go : Case → Tells s l x k y
      go (too_long u q) = let no : ⊥ = omega (arith, ap (λ z. z.kept.answer) q) in absurd no
      go (no_record u f q) = let no : ⊥ = omega (arith, ap (λ z. z.kept.answer) q) in absurd no
      go (asked a) = tells (decode d s l).answer refl a

  -- nothing is changed
  pub host-decode-1 : y.kept.answer ≡ 1 → (longest_stream < length s) × (y ≡ unchanged 1 l x k t)
  host-decode-1 e = go case
    where
      go : Case → (longest_stream < length s) × (y ≡ unchanged 1 l x k t)
      go (too_long u q) = (leb-false (length s) longest_stream u, q)
      go (no_record u f q) = let no : ⊥ = omega (arith, ap (λ z. z.kept.answer) q) in absurd no
      go (asked a) =
          let w = answers 1 (decode d s l).answer refl a e (omega arith) in
          let row = D1.decode-1 d s l decoded store refl w.code in (row.0, same w row.1 row.2)

  pub host-decode-2 : y.kept.answer ≡ 2
      → (((is_record x && leb picture_count (length k)) ≡ false) ⊎ (possible (record_of x) ≡ false)) × (y ≡ unchanged 2 l x k t)
  host-decode-2 e = go case
    where
      go : Case → (((is_record x && leb picture_count (length k)) ≡ false) ⊎ (possible (record_of x) ≡ false)) × (y ≡ unchanged 2 l x k t)
      go (too_long u q) = let no : ⊥ = omega (arith, ap (λ z. z.kept.answer) q) in absurd no
      go (no_record u f q) = (inl f, q)
      go (asked a) =
          let w = answers 2 (decode d s l).answer refl a e (omega arith) in
          let row = D1.decode-2 d s l decoded store refl w.code in (inr row.0, same w row.1 row.2)

  -- the store stays, and nothing is told of a picture
  pub host-decode-3 : y.kept.answer ≡ 3 → Leaves (AfterError3 s (record_of x)) x y.kept.memory × (y.kept.store ≡ l) × Untold k t y
  host-decode-3 e =
      let w = own 3 e (omega arith) in
      let row = D1.decode-3 d s l decoded store refl w.code in (leaves (AfterError3 s d) w row.1, stored w ∙ row.2, untold w)

  pub host-decode-4 : y.kept.answer ≡ 4 → Leaves (AfterError4 s (record_of x)) x y.kept.memory × (y.kept.store ≡ l) × Untold k t y
  host-decode-4 e =
      let w = own 4 e (omega arith) in
      let row = D1.decode-4 d s l decoded store refl w.code in (leaves (AfterError4 s d) w row.1, stored w ∙ row.2, untold w)

  pub host-decode-5 : y.kept.answer ≡ 5 → Leaves (AfterError5 s (record_of x)) x y.kept.memory × (y.kept.store ≡ l) × Untold k t y
  host-decode-5 e =
      let w = own 5 e (omega arith) in
      let row = D1.decode-5 d s l decoded store refl w.code in (leaves (AfterError5 s d) w row.1, stored w ∙ row.2, untold w)

  -- nothing is changed
  pub host-decode-6 : y.kept.answer ≡ 6 → (length l < store_bytes (with_header_if_missing s (record_of x))) × (y ≡ unchanged 6 l x k t)
  host-decode-6 e =
      let w = own 6 e (omega arith) in
      let row = D1.decode-6 d s l decoded store refl w.code in (row.short, same w row.decoder row.store)

  pub host-decode-7 : y.kept.answer ≡ 7 → Leaves (λ r. AfterError7 (record_of x) s l r y.kept.store) x y.kept.memory × Untold k t y
  host-decode-7 e =
      let w = own 7 e (omega arith) in
      let row = D1.decode-7 d s l decoded store refl w.code in
      (leaves (λ r. AfterError7 d s l r y.kept.store) w (subst (AfterError7 d s l (decode d s l).decoder) (sym (stored w)) row), untold w)

  -- QA: for the stop mark nothing is changed
  abbrev Stopped : ℕ → Type 0
  Stopped n =
      (((record_of x).stop ≡ n) × (y ≡ unchanged n l x k t))
      ⊎ (Leaves (λ r. AfterError8Or9 (record_of x) s l n r y.kept.store) x y.kept.memory × Untold k t y)

  stopped : (n : ℕ) → Refused n → ((d.stop ≡ n) × ((decode d s l).decoder ≡ d) × (store ≡ l)) ⊎ AfterError8Or9 d s l n (decode d s l).decoder store → Stopped n
  stopped n w (inl m) = inl (m.0, same w m.1 m.2)
  stopped n w (inr m) =
      inr (leaves (λ r. AfterError8Or9 d s l n r y.kept.store) w (subst (AfterError8Or9 d s l n (decode d s l).decoder) (sym (stored w)) m), untold w)

  pub host-decode-8 : y.kept.answer ≡ 8 → Stopped 8
  host-decode-8 e = let w = own 8 e (omega arith) in stopped 8 w (D1.decode-8 d s l decoded store refl w.code)

  pub host-decode-9 : y.kept.answer ≡ 9 → Stopped 9
  host-decode-9 e = let w = own 9 e (omega arith) in stopped 9 w (D1.decode-9 d s l decoded store refl w.code)

  -- D2.3: whatever the answer, what lies behind the record and behind 1,152 × macroblocks bytes of the store stays
  pub host-decode-same : SameBehind x y.kept.memory × SameFrom (store_bytes (with_header_if_missing s (record_of x))) l y.kept.store
  host-decode-same = go case
    where
      go : Case → SameBehind x y.kept.memory × SameFrom (store_bytes (with_header_if_missing s (record_of x))) l y.kept.store
      go (too_long u q) = rw q (same-behind, same_from)
      go (no_record u f q) = rw q (same-behind, same_from)
      go (asked a) =
          let same = D2.decode-same d s l decoded store refl in (
            left_behind (gave.held a.held a.short a.room) (ap (λ z. z.memory) (kept a)),
            subst (SameFrom (store_bytes (with_header_if_missing s d)) l) (sym (ap (λ z. z.store) (kept a))) same,
          )
