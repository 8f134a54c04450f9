-- RULES D1.4, D1.5: for one input and one number there is one record and one store that the row of the number admits: those of the call. Assumes nothing.
use mathlib.Core.Path.{◌≡◌, refl, sym, ap, ◌∙◌}
use mathlib.Core.Bool.{true, false, not}
use mathlib.Core.List.{List}
use mathlib.Core.Logic.{◌⊎◌, inl, inr, ⊎_elim}
use Prim.Native.Nat.{ℕ, ◌<◌}
use native.Mathlib.Omega.{arith}
use lib.IntN.{ℤ, pos, negsuc}
use borrow.Author.Tests.{not-true}
use Rattle.laws.specs.Loops.{finish}
use Rattle.laws.proofs.Loops.{steps-again, steps-stop}
use Rattle.laws.proofs.Tests.{both}
use Rattle.bits.specs.Programs.{RunResult, run, eq_z}
use Rattle.header.specs.Store.{cleared}
use Rattle.header.specs.declared.sequences.Size.{Size}
use Rattle.header.specs.Sequences.{size}
use Rattle.picture_state.specs.declared.types.{Matrices.Matrices, Sizes.Sizes}
use Rattle.picture_state.specs.Result.{error}
use Rattle.picture_state.specs.Stop.{Stop, error_code}
use Rattle.playback.specs.declared.outcome.{Shown.Shown, Outcome.Outcome}
use Rattle.playback.specs.declared.outcome.Outcome.TheVariants as H
use Rattle.playback.specs.State.{position, start_code}
use Rattle.playback.specs.Search.{ensure_start_code, is_followed}
use Rattle.playback.specs.Display.{is_waiting, flushed}
use Rattle.playback.specs.Steps.{DecodingState, LoopEnd, finished, aborted, after_picture_search, after_picture, decoded, searched, picture_step, pictures}
use Rattle.playback.specs.Cases.{is_picture_ready, Outputs, b-picture, reference-picture, flushed-picture}
use Rattle.playback.proofs.Cases.{step-seven, step-b, step-held}
use Rattle.decoder.specs.declared.record.Decoder.{Decoder}
use Rattle.decoder.specs.Record as R
use Rattle.decoder.specs.Record.{with_search_result, with_decoding_state}
use Rattle.decoder.specs.Headers.{find_sequence, with_size_read}
use Rattle.decoder.specs.Answers.{result, number, decode_answer}
use Rattle.decoder.specs.Decode.{start_state}
use Rattle.demands.specs.Checks.{IsFirstFailing, with_header_if_missing, picture_end, decode_checks}
use Rattle.demands.specs.After as A
use Rattle.demands.specs.After.{AtSequenceCode, already-there, found-by_search, after_size_fields, AfterHeader, LeftByOpening, LeftByDecode, AfterOpening}
use Rattle.demands.specs.After.{AfterDecode}
use Rattle.demands.specs.After.{StepReached, first_step, second-step}
use Rattle.demands.specs.AfterErrors.{AfterError3, AfterError4, AfterError5, TriesAgain, AfterError6, AfterError7, AfterError8Or9}
use Rattle.demands.specs.Outputs.{OpeningLeaves, DecodeOutputs}
use Rattle.demands.proofs.Codes.{found-same, none-same}
use Rattle.demands.proofs.AfterHeader.{at_code, size-read}
use Rattle.demands.proofs.Rows as Rows

-- ---- the header

module _ {s : List ℕ} {d : Decoder} where
  at_same : {x y : Decoder} → AtSequenceCode s d x → AtSequenceCode s d y → x ≡ y
  at_same (already-there e) (already-there f) = refl
  at_same (already-there e) (found-by_search n k) = absurd (n e)
  at_same (found-by_search n k) (already-there e) = absurd (n e)
  at_same (found-by_search n k) (found-by_search m j) = ap (λ (e : ℕ). with_search_result (pos 0xb3) e d) (found-same k j)

  pub row-3 : {x y : Decoder} → AfterError3 s d x → AfterError3 s d y → x ≡ y
  row-3 r q = r.is ∙ ap (λ (e : ℕ). with_search_result (negsuc 0) e d) (none-same r.ended q.ended) ∙ sym q.is

  pub row-4 : {x y : Decoder} → AfterError4 s d x → AfterError4 s d y → x ≡ y
  row-4 r q = at_same r.code q.code

  pub row-5 : {x y : Decoder} → AfterError5 s d x → AfterError5 s d y → x ≡ y
  row-5 r q = r.is ∙ ap (after_size_fields s) (at_same r.code q.code) ∙ sym q.is

  pub header-one : {n : ℕ} {x y : Decoder} → AfterHeader s d n x → AfterHeader s d n y → x ≡ y
  header-one (A.after-3 u e) k = row-3 (Rows.header-3 (A.after-3 u e) refl) (Rows.header-3 k refl)
  header-one (A.after-4 c h) k = row-4 (Rows.header-4 (A.after-4 c h) refl) (Rows.header-4 k refl)
  header-one (A.after-5 c h z) k = row-5 (Rows.header-5 (A.after-5 c h z) refl) (Rows.header-5 k refl)

-- RULES Q5, O.5
code-still : (s : List ℕ) (x : Decoder) → R.start_code x ≡ pos 0xb3 → find_sequence s x ≡ x
unfolding find_sequence ensure_start_code
code-still s x c =
    let has : eq_z (R.start_code x) (pos 0xb3) ≡ true = ap (λ (k : ℤ). eq_z k (pos 0xb3)) c in
    rw has refl

pub tries-again : {s : List ℕ} {d x : Decoder} → AfterError5 s d x → d.sequence.has_sequence_header ≡ false → TriesAgain s x
tries-again {s} {d} {x} r h =
    let code = ap R.start_code r.is ∙ at_code r.code in
    let still = code-still s x code in
    record {
      code = code;
      header = ap (λ (y : Decoder). y.sequence.has_sequence_header) r.is ∙ go r.code;
      still = still;
      size = λ b. ap (λ (y : Decoder). with_size_read (run size s (R.position y)) y) still
          ∙ ap (λ (o : RunResult Size). with_size_read o x) (size-read s (R.position x) b);
    }
  where
    go : {y : Decoder} → AtSequenceCode s d y → y.sequence.has_sequence_header ≡ false
    go (already-there e) = h
    go (found-by_search n k) = h

-- so that call does not answer 3, 4 leaves this record, and 5 the size read from there
module _ {s : List ℕ} {x y : Decoder} (t : TriesAgain s x) where
  pub again-3 : AfterError3 s x y → ⊥
  again-3 r = r.searched t.code

  pub again-4 : AfterError4 s x y → y ≡ x
  again-4 r = at_same r.code (already-there t.code)

  pub again-5 : AfterError5 s x y → y ≡ after_size_fields s x
  again-5 r = r.is ∙ ap (after_size_fields s) (at_same r.code (already-there t.code))

-- ---- opening

module _ {s l : List ℕ} where
  pub opening-one : {n : ℕ} {x y : Decoder} → AfterOpening s l n x → AfterOpening s l n y → x ≡ y
  opening-one a b = go a.left b.left
    where
      go : {n : ℕ} {x y : Decoder} → LeftByOpening s l n x → LeftByOpening s l n y → x ≡ y
      go (A.after-1 h) k = sym (Rows.opening-1 k refl).1
      go (A.after-header h) k = let i = Rows.header-number h in header-one h (Rows.opening-header k i.0 i.1)
      go (A.after-6 h) k = sym (Rows.opening-6 k refl).1

  pub ready-one : {x y : Decoder} {m k : List ℕ} → OpeningLeaves s l x m → OpeningLeaves s l y k → (x ≡ y) × (m ≡ k)
  ready-one {x} {y} a b =
      let e : x ≡ y = a.decoder ∙ sym b.decoder in
      (e, a.store ∙ ap (λ (z : Decoder). cleared (R.store_bytes z) l) e ∙ sym b.store)

-- ---- the turns: what a row says of one is how they end

module _ (s : List ℕ) (z : Sizes) (m : Matrices) where
  ends_by : {x y : DecodingState} {e : LoopEnd} → StepReached s z m x y → picture_step s z m y ≡ finish e → pictures s z m x ≡ e
  unfolding pictures
  ends_by {x} first_step h = steps-stop (picture_step s z m) 1 _ x _ h
  ends_by {x} {y} (second-step k) h = steps-again (picture_step s z m) 1 _ x y k ∙ steps-stop (picture_step s z m) 0 _ y _ h

  step-aborts : (y : DecodingState) {e : Stop} → is_picture_ready s (after_picture_search s y).state ≡ true
      → picture_end s z m (after_picture_search s y) ≡ error e → picture_step s z m y ≡ finish (aborted (error_code e.cause) e.store)
  unfolding picture_step searched decoded after_picture
  step-aborts y i r =
      let x = (after_picture_search s y).state in
      let k = both (not (eq_z (start_code x) (negsuc 0))) (is_followed s (position x)) i in
      rw (not-true (eq_z (start_code x) (negsuc 0)) k.0, k.1, r)

  step-outputs : (y : DecodingState) {i : Shown} {o : DecodingState} → Outputs s z m (after_picture_search s y) i o
      → picture_step s z m y ≡ finish (finished (H.Picture i) o)
  unfolding picture_step searched flushed
  step-outputs y (b-picture t r b) = step-b s z m y (after_picture_search s y).state refl t r b
  step-outputs y (reference-picture t r b h) = step-held s z m y (after_picture_search s y).state refl t r b h
  step-outputs y (flushed-picture t u) =
      let x = (after_picture_search s y).state in
      let k = both (eq_z (start_code x) (negsuc 0)) (is_waiting s x) u in
      rw (k.0, k.1)

-- what an end leaves: a state, if it has one; the store; and what it hands out
abbrev end_state : DecodingState → LoopEnd → DecodingState
end_state y (finished o x) = x
end_state y (aborted n l) = y

abbrev end_store : LoopEnd → List ℕ
end_store (finished o x) = x.store
end_store (aborted n l) = l

abbrev pub end_outcome : LoopEnd → Outcome
end_outcome (finished o x) = o
end_outcome (aborted n l) = H.Refused n

abbrev shown_in : Shown → Outcome → Shown
shown_in j o = elim (decode_answer o) [ result i ↦ i | number n ↦ j ]

-- ---- a hand-out

-- the end of its turns
abbrev pub end_of : Decoder → List ℕ → List ℕ → LoopEnd
end_of d s l = let q = (with_header_if_missing s d).sequence in pictures s q.sizes q.matrices (start_state d (with_header_if_missing s d) l)

module _ {d : Decoder} {s l : List ℕ} where
  seven-end : {x : Decoder} {m : List ℕ} (r : AfterError7 d s l x m) → end_of d s l ≡ finished (H.Refused 7) (after_picture_search s r.given)
  seven-end r = ends_by s _ _ r.step (step-seven s _ _ r.given (after_picture_search s r.given).state refl r.none r.kept)

  pub row-6 : {x y : Decoder} {m k : List ℕ} → AfterError6 d s l x m → AfterError6 d s l y k → (x ≡ y) × (m ≡ k)
  row-6 r q = (r.decoder ∙ sym q.decoder, r.store ∙ sym q.store)

  pub row-7 : {x y : Decoder} {m k : List ℕ} → AfterError7 d s l x m → AfterError7 d s l y k → (x ≡ y) × (m ≡ k)
  row-7 r q =
      let e : after_picture_search s r.given ≡ after_picture_search s q.given = ap (end_state r.given) (sym (seven-end r) ∙ seven-end q) in
      (r.decoder ∙ ap (with_decoding_state (with_header_if_missing s d)) e ∙ sym q.decoder, r.store ∙ ap (λ (y : DecodingState). y.store) e ∙ sym q.store)

  stop-end : {n : ℕ} {x : Decoder} {m : List ℕ} → AfterError8Or9 d s l n x m → end_of d s l ≡ aborted n m
  stop-end {m = m} r = ends_by s _ _ r.step (step-aborts s _ _ r.given r.ready r.left) ∙ ap (λ (k : ℕ). aborted k m) (sym r.number)

  pub row-8-9 : {n : ℕ} {x y : Decoder} {m k : List ℕ} → AfterError8Or9 d s l n x m → AfterError8Or9 d s l n y k → (x ≡ y) × (m ≡ k)
  row-8-9 r q = (r.decoder ∙ sym q.decoder, ap end_store (sym (stop-end r) ∙ stop-end q))

  -- a picture
  pub output-end : {i : Shown} {x : Decoder} {m : List ℕ} (r : DecodeOutputs d s l i x m) → end_of d s l ≡ finished (H.Picture i) r.left
  output-end r = ends_by s _ _ r.step (step-outputs s _ _ r.given r.outputs)

  pub output-one : {i j : Shown} {x y : Decoder} {m k : List ℕ} → DecodeOutputs d s l i x m → DecodeOutputs d s l j y k → (i ≡ j) × (x ≡ y) × (m ≡ k)
  output-one {i} {j} r q =
      let e = sym (output-end r) ∙ output-end q in
      let left : r.left ≡ q.left = ap (end_state r.given) e in (
        ap (λ (u : LoopEnd). shown_in i (end_outcome u)) e,
        r.decoder ∙ ap (with_decoding_state (with_header_if_missing s d)) left ∙ sym q.decoder,
        r.store ∙ ap (λ (y : DecodingState). y.store) left ∙ sym q.store,
      )

  -- whichever the number
  pub decode-one : {n : ℕ} {x y : Decoder} {m k : List ℕ} → AfterDecode d s l n x m → AfterDecode d s l n y k → (x ≡ y) × (m ≡ k)
  decode-one a b = go a.left a.first b.left b.first
    where
      marked : {n : ℕ} {y : Decoder} {k : List ℕ} → (d.stop ≡ n) → 7 < n → ((d.stop ≡ n) × (y ≡ d) × (k ≡ l)) ⊎ AfterError8Or9 d s l n y k → (d ≡ y) × (l ≡ k)
      marked e h (inl q) = (sym q.1, sym q.2)
      marked e h (inr q) = let z = q.mark in let no : ⊥ = omega arith in absurd no

      stopped : {n : ℕ} {x y : Decoder} {m k : List ℕ} → 7 < n → AfterError8Or9 d s l n x m → ((d.stop ≡ n) × (y ≡ d) × (k ≡ l)) ⊎ AfterError8Or9 d s l n y k
          → (x ≡ y) × (m ≡ k)
      stopped h r (inl q) = let z = r.mark in let w = q.0 in let no : ⊥ = omega arith in absurd no
      stopped h r (inr q) = row-8-9 r q

      go : {n : ℕ} {x y : Decoder} {m k : List ℕ} → LeftByDecode d s l n x m → IsFirstFailing n (decode_checks d s l) → LeftByDecode d s l n y k
          → IsFirstFailing n (decode_checks d s l) → (x ≡ y) × (m ≡ k)
      go (A.after-1 h) f c g = let q = Rows.after-decode-1 c refl in (sym q.1, sym q.2)
      go (A.after-2 h) f c g = let q = Rows.after-decode-2 c refl in (sym q.1, sym q.2)
      go (A.after_stop h) f c g =
          let big : 7 < d.stop = ⊎_elim (λ (e : d.stop ≡ 8). omega arith) (λ (e : d.stop ≡ 9). omega arith) h in
          marked refl big (Rows.decode-8-9 c big g)
      go (A.after-header t h) f c g =
          let i = Rows.header-number h in let q = Rows.decode-header c i.0 i.1 in (header-one h q.1, sym q.2)
      go (A.after-6 h) f c g = row-6 (Rows.after-decode-6 (A.after-6 h) refl f) (Rows.after-decode-6 c refl g)
      go (A.after-7 i t u) f c g = row-7 (Rows.after-decode-7 (A.after-7 i t u) refl f) (Rows.after-decode-7 c refl g)
      go {n} (A.after-8-9 {c = o} z t i e q) f c g =
          let big : 7 < n = ⊎_elim (λ (e : n ≡ 8). omega arith) (λ (e : n ≡ 9). omega arith) (Rows.cause-number o q) in
          stopped big (record { first = f; mark = z; given = _; step = i; ready = t; cause = o; left = e; number = q; decoder = refl })
          (Rows.decode-8-9 c big g)
