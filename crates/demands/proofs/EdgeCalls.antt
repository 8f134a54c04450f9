-- RULES H: the header edge, of what `open` and `decode` gave: with 136 bytes behind the code neither 3 nor 4, with fewer 4.
use mathlib.Core.Path.{◌≡◌, refl, sym, subst, ◌∙◌}
use mathlib.Core.Bool.{false, true≢false}
use mathlib.Core.List.{List, [], ◌∷◌, ◌++◌}
use mathlib.Core.Logic.{◌⊎◌, inl, inr, ⊎_elim}
use Prim.Native.Nat.{ℕ, ◌+◌, ◌≤◌, ◌<◌}
use native.Mathlib.Omega.{arith}
use lib.Dec.{eqb}
use lib.IntN.{pos}
use lib.ListN.{length}
use borrow.Author.Tests.{le-leb, lt-leb}
use Rattle.laws.specs.Loops.{Step, continue, finish}
use Rattle.laws.proofs.Tests.{by-case}
use Rattle.bits.specs.Bounds.{longest_stream}
use Rattle.bits.specs.Programs.{eq_z}
use Rattle.header.specs.Store.{cleared}
use Rattle.decoder.specs.declared.record.Decoder.{Decoder}
use Rattle.decoder.specs.declared.answers.Opening.TheVariants as O
use Rattle.decoder.specs.declared.answers.{Opened.Opened, DecodeResult.DecodeResult}
use Rattle.playback.specs.declared.outcome.Outcome.TheVariants as H
use Rattle.picture_state.specs.declared.types.{Matrices.Matrices, Sizes.Sizes}
use Rattle.playback.specs.State.{fresh_state}
use Rattle.playback.specs.Steps.{DecodingState, LoopEnd, after_picture_search, picture_step}
use Rattle.playback.specs.Cases.{is_picture_ready}
use Rattle.decoder.specs.Record.{fresh, decoding_state_of, position, start_code, store_bytes}
use Rattle.decoder.specs.Possible.{possible}
use Rattle.decoder.specs.Calls.{Opens, Decodes}
use Rattle.demands.specs.StartCodes.{SequenceAt}
use Rattle.demands.specs.Checks as Q
use Rattle.demands.specs.Checks.{Check, check, IsFirstFailing, this-one, a-later, with_header, picture_end, step_checks, pictures_checks, opening_checks}
use Rattle.demands.proofs.Demand1.{open-says, open_means, decode_means}
use Rattle.demands.proofs.Order.{Begins, checks_unheaded, says-4}
use Rattle.demands.proofs.HeaderEdge.{edge-code, edge-bits}

-- ---- the questions of pictures are 7, 8 and 9

either : {n : ℕ} (a : List Check) {b : List Check} → IsFirstFailing n (a ++ b) → IsFirstFailing n a ⊎ IsFirstFailing n b
either [] k = inr k
either (q ∷ a) (this-one e z) = inl (this-one e z)
either (q ∷ a) (a-later y k) = go (either a k)
  where
    go : {m : ℕ} {b : List Check} → IsFirstFailing m a ⊎ IsFirstFailing m b → IsFirstFailing m (q ∷ a) ⊎ IsFirstFailing m b
    go (inl i) = inl (a-later y i)
    go (inr i) = inr i

-- those of a turn
step-number : {n : ℕ} (s : List ℕ) (z : Sizes) (m : Matrices) (x : DecodingState) → IsFirstFailing n (step_checks s z m x) → 6 < n
unfolding step_checks
step-number {n} s z m x =
    by-case (λ (qs : List Check). IsFirstFailing n (Q.check_has_picture s x.state ∷ qs) → 6 < n) (is_picture_ready s x.state) (λ t k. three k) (λ t k. one k)
  where
    three : IsFirstFailing n (Q.check_has_picture s x.state ∷ Q.are_dcs_inside (picture_end s z m x) ∷ Q.are_predictions_inside (picture_end s z m x) ∷ [])
        → 6 < n
    three (this-one e z) = omega arith
    three (a-later y (this-one e z)) = omega arith
    three (a-later y (a-later u (this-one e z))) = omega arith
    three (a-later y (a-later u (a-later v x))) = elim x [ ]

    one : IsFirstFailing n (Q.check_has_picture s x.state ∷ []) → 6 < n
    one (this-one e z) = omega arith
    one (a-later y x) = elim x [ ]

pictures-number : {n : ℕ} (s : List ℕ) (z : Sizes) (m : Matrices) (x : DecodingState) → IsFirstFailing n (pictures_checks s z m x) → 6 < n
unfolding pictures_checks
pictures-number {n} s z m x k = go (picture_step s z m x) (either (step_checks s z m (after_picture_search s x)) k)
  where
    go : (t : Step DecodingState LoopEnd)
        → IsFirstFailing n (step_checks s z m (after_picture_search s x))
        ⊎ IsFirstFailing n (elim t [ continue y ↦ step_checks s z m (after_picture_search s y) | finish e ↦ [] ])
        → 6 < n
    go t (inl i) = step-number s z m (after_picture_search s x) i
    go (continue y) (inr i) = step-number s z m (after_picture_search s y) i
    go (finish e) (inr i) = elim i [ ]

-- a number that is neither 3 nor 4
other : {j n : ℕ} → (n ≡ 3) ⊎ (n ≡ 4) → j ≡ n → (j ≡ 3 → ⊥) → (j ≡ 4 → ⊥) → ⊥
other {j} {n} w e p q = ⊎_elim (λ (g : n ≡ 3). p (e ∙ g)) (λ (g : n ≡ 4). q (e ∙ g)) w

-- 136 bytes behind the code are enough: the code is there, and so are the bits
module _ (s : List ℕ) (d : Decoder) (b : ℕ) (unread : eq_z (start_code d) (pos 0xb3) ≡ false)
    (k : SequenceAt s (position d) b) (f : b + 4 + 136 ≤ length s) where
  code-there : (Q.check_sequence_code s d).passes ≡ false → ⊥
  code-there z = true≢false (sym (edge-code s d b unread k) ∙ z)

  bits-there : (Q.check_header_bits s d).passes ≡ false → ⊥
  bits-there z = true≢false (sym (edge-bits s d b unread k ∙ le-leb (b + 4 + 136) (length s) f) ∙ z)

-- ---- open

module _ (s l : List ℕ) (r : Opened) (m : List ℕ) (gave : Opens s l r m) (b : ℕ) (k : SequenceAt s (position fresh) b) where
  unread : eq_z (start_code fresh) (pos 0xb3) ≡ false
  unfolding fresh fresh_state
  unread = refl

  pub open_edge-fails : length s ≤ longest_stream → length s < b + 4 + 136 → r.answer ≡ O.Refused 4
  open_edge-fails h f =
      open-says s l r m gave 4 (omega arith)
      (a-later (le-leb (length s) longest_stream h) (a-later (edge-code s fresh b unread k)
      (this-one refl (edge-bits s fresh b unread k ∙ lt-leb (b + 4 + 136) (length s) f))))

  pub open_edge-passes : b + 4 + 136 ≤ length s → (n : ℕ) → r.answer ≡ O.Refused n → (n ≡ 3) ⊎ (n ≡ 4) → ⊥
  open_edge-passes f n e w = go (open_means s l r m gave n e)
    where
      go : IsFirstFailing n (opening_checks s l) → ⊥
      go (this-one e z) = other w e (λ g. omega arith) (λ g. omega arith)
      go (a-later y (this-one e z)) = code-there s fresh b unread k f z
      go (a-later y (a-later u (this-one e z))) = bits-there s fresh b unread k f z
      go (a-later y (a-later u (a-later v (this-one e z)))) = other w e (λ g. omega arith) (λ g. omega arith)
      go (a-later y (a-later u (a-later v (a-later t (this-one e z))))) = other w e (λ g. omega arith) (λ g. omega arith)
      go (a-later y (a-later u (a-later v (a-later t (a-later i x))))) = elim x [ ]

-- ---- decode, with no header and no start code of one in the record

module _ (d : Decoder) (s l : List ℕ) (r : DecodeResult) (m : List ℕ) (gave : Decodes d s l r m) (begins : Begins d s)
    (none : d.sequence.has_sequence_header ≡ false) (no_code : eq_z (start_code d) (pos 0xb3) ≡ false) (b : ℕ) (k : SequenceAt s (position d) b) where
  pub decode_edge-fails : length s < b + 4 + 136 → r.outcome ≡ H.Refused 4
  decode_edge-fails f =
      says-4 d s l r m gave begins none (edge-code s d b no_code k) (edge-bits s d b no_code k ∙ lt-leb (b + 4 + 136) (length s) f)

  pub decode_edge-passes : b + 4 + 136 ≤ length s → (n : ℕ) → r.outcome ≡ H.Refused n → (n ≡ 3) ⊎ (n ≡ 4) → ⊥
  decode_edge-passes f n e w =
      go (decoding_state_of (with_header s d) (cleared (store_bytes (with_header s d)) l))
      (subst (IsFirstFailing n) (checks_unheaded d s l none) (decode_means d s l r m gave n e))
    where
      go : (x : DecodingState)
          → IsFirstFailing n (Q.check_stream_length s ∷ check 2 (possible d) ∷ check d.stop
          (eqb d.stop 0) ∷ Q.check_sequence_code s d ∷ Q.check_header_bits s d ∷ Q.check_non_zero_size s d ∷
          Q.check_store_length (with_header s d) l ∷ pictures_checks s (with_header s d).sequence.sizes (with_header s d).sequence.matrices x)
          → ⊥
      go x (this-one e z) = other w e (λ g. omega arith) (λ g. omega arith)
      go x (a-later y (this-one e z)) = other w e (λ g. omega arith) (λ g. omega arith)
      go x (a-later y (a-later u (this-one e z))) = let i = begins.mark in other w e (λ g. omega arith) (λ g. omega arith)
      go x (a-later y (a-later u (a-later v (this-one e z)))) = code-there s d b no_code k f z
      go x (a-later y (a-later u (a-later v (a-later t (this-one e z))))) = bits-there s d b no_code k f z
      go x (a-later y (a-later u (a-later v (a-later t (a-later q (this-one e z)))))) = other w e (λ g. omega arith) (λ g. omega arith)
      go x (a-later y (a-later u (a-later v (a-later t (a-later q (a-later o (this-one e z))))))) = other w e (λ g. omega arith) (λ g. omega arith)
      go x (a-later y (a-later u (a-later v (a-later t (a-later q (a-later o (a-later p i))))))) =
          let q = (with_header s d).sequence in
          let h = pictures-number s q.sizes q.matrices x i in
          ⊎_elim (λ (g : n ≡ 3). omega arith) (λ (g : n ≡ 4). omega arith) w
