-- RULES D1.5, D2.3, QC, QG: what each call leaves behind its numbers, whole.
use mathlib.Core.Path.{◌≡◌, refl, sym, ap, subst, ◌∙◌}
use mathlib.Core.Bool.{Bool, true, false, cond, not, ◌||◌}
use mathlib.Core.List.{List}
use mathlib.Core.Logic.{◌⊎◌, inl, inr}
use Prim.Native.Nat.{ℕ, ◌-◌, ◌≤◌}
use native.Mathlib.Omega.{arith}
use lib.Dec.{eqb, leb}
use lib.ListN.{length, get_or}
use borrow.Author.Tests.{eqb-true, leb-true, leb-false}
use Rattle.laws.proofs.Tests.{by-case}
use Rattle.picture_state.specs.declared.types.{Matrices.Matrices, Sizes.Sizes}
use Rattle.picture_state.proofs.Possible.{stores-of, picture-of}
use Rattle.picture_state.specs.State.{first_stores}
use Rattle.header.specs.Store.{cleared}
use Rattle.header.proofs.Clearing.{cleared-later, cleared-length}
use Rattle.decoder.specs.declared.record.Decoder.{Decoder}
use Rattle.decoder.specs.declared.answers.Opening.{Opening}
use Rattle.decoder.specs.declared.answers.Opening.TheVariants as O
use Rattle.playback.specs.declared.outcome.{Shown.Shown, Outcome.Outcome}
use Rattle.playback.specs.declared.outcome.Outcome.TheVariants as H
use Rattle.playback.specs.Steps.{LoopEnd}
use Rattle.decoder.specs.Record.{CallResult, decoding_state_of, fresh, store_bytes}
use Rattle.decoder.specs.Possible.{possible_stop, possible, possible_with}
use Rattle.decoder.specs.Headers.{CheckResult, refused, passed, accepted, check_header, check_store}
use Rattle.decoder.specs.Opening.{opened, opening_from, opening}
use Rattle.decoder.specs.Decode.{call_result_of, check_header_and_store, start_state, after_checks, decode}
use Rattle.decoder.proofs.Fits.{possible-parts}
use Rattle.demands.specs.Checks.{with_header, with_header_if_missing}
use Rattle.demands.specs.Stores.{SameFrom}
use Rattle.demands.specs.After as A
use Rattle.demands.specs.After.{LeftByOpening, LeftByDecode}
use Rattle.demands.specs.Outputs.{OpeningLeaves, DecodeOutputs}
use Rattle.demands.proofs.AfterHeader.{CheckAfter, IsHeaded, header-after, header-passed}
use Rattle.demands.proofs.Reached.{same_from, then_same, RoomFor, CallEnd, hands, seven, stops, pictures-end}
use Rattle.demands.proofs.Keeps.{sized}
use Rattle.bits.specs.Bounds.{longest_stream}

-- ---- opening

abbrev OpeningRow : List ℕ → List ℕ → Opening → Decoder → List ℕ → Type 0
OpeningRow s l o x m = elim o [ O.Ready ↦ OpeningLeaves s l x m | O.Refused n ↦ LeftByOpening s l n x × (m ≡ l) ]

abbrev OpenedRow : List ℕ → List ℕ → CallResult Opening → Type 0
OpenedRow s l r = OpeningRow s l r.answer r.decoder r.store

opened-row : (s l : List ℕ) (a : CheckResult) → CheckAfter s fresh a → IsHeaded s fresh a → OpenedRow s l (opened l (check_store fresh l a))
unfolding opened check_store
opened-row s l (refused n x) h e = (A.after-header h, refl)
opened-row s l (passed x) h e =
    by-case (λ a. OpenedRow s l (opened l a)) (leb (store_bytes x) (length l))
    (λ t. record { decoder = e; long = leb-true (store_bytes x) (length l) t; store = refl })
    (λ t. (A.after-6 (omega (arith, leb-false (store_bytes x) (length l) t, ap store_bytes e)), refl))

opening-row : (s l : List ℕ) → OpenedRow s l (opening s l)
unfolding opening opening_from
opening-row s l =
    by-case (OpenedRow s l) (leb (length s) longest_stream)
    (λ e. opened-row s l (check_header s fresh) (header-after s fresh (leb-true (length s) longest_stream e)) (header-passed s fresh))
    (λ e. (A.after-1 (leb-false (length s) longest_stream e), refl))

pub opening-after : (s l : List ℕ) (n : ℕ) → (opening s l).answer ≡ O.Refused n → LeftByOpening s l n (opening s l).decoder × ((opening s l).store ≡ l)
opening-after s l n e = subst (λ (o : Opening). OpeningRow s l o (opening s l).decoder (opening s l).store) e (opening-row s l)

pub opening-ready : (s l : List ℕ) → (opening s l).answer ≡ O.Ready → OpeningLeaves s l (opening s l).decoder (opening s l).store
opening-ready s l e = subst (λ (o : Opening). OpeningRow s l o (opening s l).decoder (opening s l).store) e (opening-row s l)

-- ---- a possible record

-- RULES QA: a stop mark other than 0 is 8 or 9
marks : (n : ℕ) → possible_stop n ≡ true → eqb n 0 ≡ false → (n ≡ 8) ⊎ (n ≡ 9)
marks n h z = go (eqb n 8) refl (rw z at h)
  where
    go : (b : Bool) → eqb n 8 ≡ b → (b || eqb n 9) ≡ true → (n ≡ 8) ⊎ (n ≡ 9)
    go true e k = inl (eqb-true n 8 e)
    go false e k = inr (eqb-true n 9 k)

not_false : (b : Bool) → not b ≡ false → b ≡ true
not_false true h = refl
not_false false h = sym h

not_true : (b : Bool) → not b ≡ true → b ≡ false
not_true true h = sym h
not_true false h = refl

-- ---- the record and the store with which a hand-out comes to its pictures

module _ (d : Decoder) (s l : List ℕ) where
  pub cleared-same : (n : ℕ) → n ≤ length l → SameFrom n l (cleared n l)
  cleared-same n h = record {
    long = cleared-length n l h;
    same = λ i w. subst (λ (j : ℕ). get_or (cleared n l) j 0 ≡ get_or l j 0) (omega arith) (cleared-later n l (i - n));
  }

  begun-same : (x : Decoder) → store_bytes x ≤ length l → SameFrom (store_bytes x) l (start_state d x l).store
  unfolding start_state
  begun-same x h =
      by-case (SameFrom (store_bytes x) l) d.sequence.has_sequence_header (λ e. same_from) (λ e. cleared-same (store_bytes x) h)

  begun-room : possible d ≡ true → store_bytes (with_header_if_missing s d) ≤ length l
      → RoomFor (with_header_if_missing s d).sequence.sizes (start_state d (with_header_if_missing s d) l)
  unfolding start_state accepted
  begun-room p = go d.sequence.has_sequence_header refl
    where
      go : (b : Bool) → d.sequence.has_sequence_header ≡ b → store_bytes (cond b d (with_header s d)) ≤ length l
          → let x = cond b d (with_header s d) in RoomFor x.sequence.sizes (decoding_state_of x (cond b l (cleared (store_bytes x) l)))
      go true e h =
          let q = possible-parts d p in
          record { area = (sized d.sequence e q.sequence).area; stores = (picture-of d.state.picture q.picture).stores; long = h }
      go false e h =
          record { area = refl; stores = stores-of first_stores refl; long = omega (arith, h, cleared-length (store_bytes (with_header s d)) l h) }

  -- ---- a hand-out

  abbrev Answered : Outcome → Decoder → List ℕ → Type 0
  Answered o x m = elim o [ H.Picture i ↦ DecodeOutputs d s l i x m | H.Refused n ↦ LeftByDecode d s l n x m ]

  record Row (r : CallResult Outcome) : Type 0 where
    after : Answered r.answer r.decoder r.store
    same : SameFrom (store_bytes (with_header_if_missing s d)) l r.store

  -- the sizes and the matrices of the header
  abbrev sizes : Sizes
  sizes = (with_header_if_missing s d).sequence.sizes

  abbrev matrices : Matrices
  matrices = (with_header_if_missing s d).sequence.matrices

  module _ (long : store_bytes (with_header_if_missing s d) ≤ length l) (mark : d.stop ≡ 0) where
    on-to : {m : List ℕ} → SameFrom (store_bytes (with_header_if_missing s d)) (start_state d (with_header_if_missing s d) l).store m
        → SameFrom (store_bytes (with_header_if_missing s d)) l m
    on-to h = then_same (begun-same (with_header_if_missing s d) long) h

    ended-row : {e : LoopEnd} → CallEnd s sizes matrices (start_state d (with_header_if_missing s d) l) e
        → Row (call_result_of d (with_header_if_missing s d) e)
    unfolding call_result_of
    ended-row (hands k i h) =
        record { after = record { given = _; step = k.step; left = _; outputs = i; decoder = refl; store = refl }; same = on-to h }
    ended-row (seven k t u) = record { after = A.after-7 k.step t u; same = on-to k.same }
    ended-row (stops k t e h) = record { after = A.after-8-9 mark t k.step e refl; same = on-to h }

  store-row : possible d ≡ true → d.stop ≡ 0 → Row (after_checks s d l (check_store d l (passed (with_header_if_missing s d))))
  unfolding after_checks check_store
  store-row p mark =
      by-case (λ a. Row (after_checks s d l a)) (leb (store_bytes (with_header_if_missing s d)) (length l))
      (λ e. let h = leb-true (store_bytes (with_header_if_missing s d)) (length l) e in
      ended-row h mark (pictures-end s sizes matrices (start_state d (with_header_if_missing s d) l) (begun-room p h)))
      (λ e. record { after = A.after-6 (leb-false (store_bytes (with_header_if_missing s d)) (length l) e); same = same_from })

  header_row : possible d ≡ true → d.stop ≡ 0 → d.sequence.has_sequence_header ≡ false → (a : CheckResult) → CheckAfter s d a → IsHeaded s d a
      → Row (after_checks s d l (check_store d l a))
  unfolding after_checks check_store
  header_row p mark f (refused n x) h e = record { after = A.after-header f h; same = same_from }
  header_row p mark f (passed x) h e =
      let is : x ≡ with_header_if_missing s d = e ∙ sym (rw f refl) in
      subst (λ (y : Decoder). Row (after_checks s d l (check_store d l (passed y)))) (sym is) (store-row p mark)

  first-row : length s ≤ longest_stream → possible d ≡ true → d.stop ≡ 0 → Row (after_checks s d l (check_header_and_store s d l))
  unfolding check_header_and_store
  first-row h p mark = go d.sequence.has_sequence_header refl
    where
      go : (b : Bool) → d.sequence.has_sequence_header ≡ b → Row (after_checks s d l (check_store d l (cond b (passed d) (check_header s d))))
      go true e =
          let is : with_header_if_missing s d ≡ d = rw e refl in
          subst (λ (y : Decoder). Row (after_checks s d l (check_store d l (passed y)))) is (store-row p mark)
      go false e = header_row p mark e (check_header s d) (header-after s d h) (header-passed s d)

  decode-row : Row (decode d s l)
  unfolding decode
  decode-row =
      by-case Row (not (leb (length s) longest_stream))
      (λ e. record { after = A.after-1 (leb-false (length s) longest_stream (not_true (leb (length s) longest_stream) e)); same = same_from }) (λ e.
      by-case Row (not (possible_with s d)) (λ f. record { after = A.after-2 (not_true (possible d) f); same = same_from }) (λ f.
      by-case Row (not (eqb d.stop 0))
      (λ g. let mark = (possible-parts d (not_false (possible d) f)).mark in
      record { after = A.after_stop (marks d.stop mark (not_true (eqb d.stop 0) g)); same = same_from })
      (λ g. first-row (leb-true (length s) longest_stream (not_false (leb (length s) longest_stream) e)) (not_false (possible d) f)
      (eqb-true d.stop 0 (not_false (eqb d.stop 0) g)))))

  pub decode-after : (n : ℕ) → (decode d s l).answer ≡ H.Refused n → LeftByDecode d s l n (decode d s l).decoder (decode d s l).store
  decode-after n e = subst (λ (o : Outcome). Answered o (decode d s l).decoder (decode d s l).store) e decode-row.after

  pub decode-outputs : (i : Shown) → (decode d s l).answer ≡ H.Picture i → DecodeOutputs d s l i (decode d s l).decoder (decode d s l).store
  decode-outputs i e = subst (λ (o : Outcome). Answered o (decode d s l).decoder (decode d s l).store) e decode-row.after

  -- RULES D2.3
  pub decode-keeps-rest : SameFrom (store_bytes (with_header_if_missing s d)) l (decode d s l).store
  decode-keeps-rest = decode-row.same
