-- RULES D1.3 to D1.5, D2.1, D2.3: `mpeg1_open`. Each theorem is of any call: by its contract it left y, and nothing else is assumed.
use mathlib.Core.Path.{◌≡◌, refl, sym, ap, subst, ◌∙◌}
use mathlib.Core.Bool.{true, false, not, or-true, false≢true}
use mathlib.Core.List.{List}
use Prim.Native.Nat.{ℕ, ◌<◌, ◌≤◌}
use native.Mathlib.Omega.{arith}
use borrow.Author.Tests.{not-true, not-false}
use lib.ListN.{length}
use Rattle.bits.specs.Bounds.{longest_stream}
use Rattle.laws.proofs.Tests.{by-case}
use Rattle.decoder.specs.declared.record.Decoder.{Decoder}
use Rattle.decoder.specs.declared.answers.{Opening.Opening, Opened.Opened}
use Rattle.decoder.specs.declared.answers.Opening.TheVariants as O
use Rattle.decoder.specs.Record.{fresh, store_bytes}
use Rattle.decoder.specs.Answers.{opening_error_code}
use Rattle.decoder.specs.Opening.{opening}
use Rattle.demands.specs.Checks.{first_failing, with_header}
use Rattle.demands.specs.ErrorCodes.{member, opening_error_codes}
use Rattle.demands.specs.Outputs.{OpeningLeaves}
use Rattle.demands.specs.AfterErrors.{AfterError3, AfterError4, AfterError5}
use Rattle.demands.specs.Stores.{SameFrom}
use Rattle.demands.proofs.Demand1 as D1
use Rattle.demands.proofs.Demand2 as D2
use Rattle.demands.proofs.Reached.{same_from}
use Rattle.memory.specs.Memory.{Memory, written, has_room}
use Rattle.mpeg1.specs.Calls.{HostResult, host_result, saved, host_open, HostOpens}
use Rattle.host_demands.specs.Leaves.{Leaves, SameBehind}
use Rattle.host_demands.specs.Checks.{host_opening_error_codes, host_opening_checks}
use Rattle.host_demands.proofs.Behind.{same-behind, left_behind}

member_named : (o : Opening) → ((n : ℕ) → o ≡ O.Refused n → member n opening_error_codes ≡ true) → member (opening_error_code o) host_opening_error_codes ≡ true
unfolding member
member_named O.Ready h = refl
member_named (O.Refused n) h = rw (h n refl, or-true, or-true) refl

refused : (n : ℕ) (o : Opening) → opening_error_code o ≡ n → 0 < n → o ≡ O.Refused n
refused n O.Ready e h = let no : ⊥ = omega arith in absurd no
refused n (O.Refused m) e h = ap O.Refused e

module _ (s l : List ℕ) (x : Memory) (y : HostResult) (gave : HostOpens s l x y) where
  -- there is no room for a record, or opening was asked
  data Case : Type 0 where
    no_room : has_room x ≡ false → y ≡ host_result 2 l x → Case
    asked : has_room x ≡ true → y ≡ saved (opening_error_code (opening s l).answer) (opening s l) x → Case

  case : Case
  unfolding host_open
  case =
      by-case (λ z. y ≡ z → Case) (not (has_room x)) (λ e q. no_room (not-true (has_room x) e) q) (λ e q. asked (not-false (has_room x) e) q) gave.left

  -- what opening gave
  abbrev opened : Opened
  opened = record { decoder = (opening s l).decoder; answer = (opening s l).answer }

  abbrev store : List ℕ
  store = (opening s l).store

  -- a number but 2 is its own
  record Own (n : ℕ) : Type 0 where
    room : has_room x ≡ true
    is : y ≡ saved n (opening s l) x
    code : opening_error_code (opening s l).answer ≡ n

  own : (n : ℕ) → y.answer ≡ n → (n ≡ 2 → ⊥) → Own n
  own n e f = go case
    where
      go : Case → Own n
      go (no_room h q) = absurd (f (sym e ∙ ap (λ z. z.answer) q))
      go (asked h q) =
          let code : opening_error_code (opening s l).answer ≡ n = sym (ap (λ z. z.answer) q) ∙ e in
          record { room = h; is = q ∙ ap (λ k. saved k (opening s l) x) code; code = code }

  leaves : {n : ℕ} (P : Decoder → Type 0) → Own n → P (opening s l).decoder → Leaves P x y.memory
  leaves P w p = record { decoder = (opening s l).decoder; is = p; wrote = ap (λ z. z.memory) w.is; holds = gave.held w.room }

  own-refused : {n : ℕ} → Own n → 0 < n → (opening s l).answer ≡ O.Refused n
  own-refused {n} w h = refused n (opening s l).answer w.code h

  stored : {n : ℕ} → Own n → 0 < n → y.store ≡ l
  stored {n} w h = ap (λ z. z.store) w.is ∙ D1.open-store s l opened store refl n (own-refused w h)

  -- D1.3
  pub host_open_named : member y.answer host_opening_error_codes ≡ true
  unfolding member
  host_open_named = go case
    where
      go : Case → member y.answer host_opening_error_codes ≡ true
      go (no_room h q) = rw q refl
      go (asked h q) = rw q (member_named (opening s l).answer (D1.open_named s l opened store refl))

  -- D1.4: the number of the first "no", and 0 where there is none
  pub host_open-number : y.answer ≡ first_failing (host_opening_checks s l x)
  unfolding first_failing
  host_open-number = go case
    where
      go : Case → y.answer ≡ first_failing (host_opening_checks s l x)
      go (no_room h q) = rw (q, h) refl
      go (asked h q) = rw (q, h) (D1.open-number s l opened store refl)

  -- D1.5, D2.1: the rows of the table
  pub host_open-0 : y.answer ≡ 0 → Leaves (λ d. OpeningLeaves s l d y.store) x y.memory
  host_open-0 e =
      let w = own 0 e (λ f. omega arith) in
      let ready = D2.open-ready s l opened store refl (sym (D1.open-number s l opened store refl) ∙ w.code) in
      leaves (λ d. OpeningLeaves s l d y.store) w
      (subst (λ m. OpeningLeaves s l (opening s l).decoder m) (sym (ap (λ z. z.store) w.is)) (D2.open-opened s l opened store refl ready))

  pub host_open-1 : y.answer ≡ 1 → (longest_stream < length s) × Leaves (λ d. d ≡ fresh) x y.memory × (y.store ≡ l)
  host_open-1 e =
      let w = own 1 e (λ f. omega arith) in
      let row = D1.open-1 s l opened store refl (own-refused w (omega arith)) in
      (row.0, leaves (λ d. d ≡ fresh) w row.1, stored w (omega arith))

  -- nothing is written
  pub host_open-2 : y.answer ≡ 2 → (has_room x ≡ false) × (y ≡ host_result 2 l x)
  unfolding member
  host_open-2 e = go case
    where
      go : Case → (has_room x ≡ false) × (y ≡ host_result 2 l x)
      go (no_room h q) = (h, q)
      go (asked h q) =
          absurd
          (false≢true
          (D1.open_named s l opened store refl 2 (refused 2 (opening s l).answer (sym (ap (λ z. z.answer) q) ∙ e) (omega arith))))

  pub host_open-3 : y.answer ≡ 3 → Leaves (AfterError3 s fresh) x y.memory × (y.store ≡ l)
  host_open-3 e =
      let w = own 3 e (λ f. omega arith) in
      (leaves (AfterError3 s fresh) w (D1.open-3 s l opened store refl (own-refused w (omega arith))), stored w (omega arith))

  pub host_open-4 : y.answer ≡ 4 → Leaves (AfterError4 s fresh) x y.memory × (y.store ≡ l)
  host_open-4 e =
      let w = own 4 e (λ f. omega arith) in
      (leaves (AfterError4 s fresh) w (D1.open-4 s l opened store refl (own-refused w (omega arith))), stored w (omega arith))

  pub host_open-5 : y.answer ≡ 5 → Leaves (AfterError5 s fresh) x y.memory × (y.store ≡ l)
  host_open-5 e =
      let w = own 5 e (λ f. omega arith) in
      (leaves (AfterError5 s fresh) w (D1.open-5 s l opened store refl (own-refused w (omega arith))), stored w (omega arith))

  pub host_open-6 : y.answer ≡ 6 → (length l < store_bytes (with_header s fresh)) × Leaves (λ d. d ≡ fresh) x y.memory × (y.store ≡ l)
  host_open-6 e =
      let w = own 6 e (λ f. omega arith) in
      let row = D1.open-6 s l opened store refl (own-refused w (omega arith)) in
      (row.1, leaves (λ d. d ≡ fresh) w row.2, stored w (omega arith))

  -- D2.3: whatever the answer, what lies behind the record and behind 1,152 × macroblocks bytes of the store stays
  pub host_open-same : SameBehind x y.memory × SameFrom (store_bytes (with_header s fresh)) l y.store
  host_open-same = go case
    where
      go : Case → SameBehind x y.memory × SameFrom (store_bytes (with_header s fresh)) l y.store
      go (no_room h q) = rw q (same-behind, same_from)
      go (asked h q) =
          let same = D2.open-same s l opened store refl in
          (left_behind (gave.held h) (ap (λ z. z.memory) q), subst (SameFrom (store_bytes (with_header s fresh)) l) (sym (ap (λ z. z.store) q)) same)
