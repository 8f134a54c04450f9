-- RULES D1.4: each call answers the number of its first question whose answer is "no", and a result where there is none. Assumes nothing.
use mathlib.Core.Path.{◌≡◌, refl, sym, ap, subst, ◌∙◌}
use mathlib.Core.Bool.{Bool, true, false, cond, not, ◌&&◌, ◌||◌}
use mathlib.Core.List.{List, [], ◌∷◌, ◌++◌, append-nil}
use mathlib.Core.Logic.{◌⊎◌, inl, inr}
use Prim.Native.Nat.{ℕ, ◌<◌}
use native.Mathlib.Omega.{arith}
use lib.Dec.{eqb, leb}
use lib.IntN.{negsuc}
use lib.ListN.{length}
use Rattle.laws.specs.Loops.{Step, continue, finish}
use Rattle.bits.specs.Bounds.{longest_stream}
use Rattle.bits.specs.Bits.{has}
use Rattle.bits.specs.Programs.{RunResult, eq_z}
use Rattle.picture_state.specs.declared.types.{Matrices.Matrices, Sizes.Sizes}
use Rattle.picture_state.specs.Result.{Result, error}
use Rattle.picture_state.specs.Stop.{Cause, dc_outside, prediction_outside, error_code, Stop}
use Rattle.picture.specs.Pictures.{PictureState}
use Rattle.conversion.specs.Pictures.{fits}
use Rattle.decoder.specs.declared.record.Decoder.{Decoder}
use Rattle.decoder.specs.declared.answers.Opening.{Opening}
use Rattle.playback.specs.declared.outcome.Outcome.{Outcome}
use Rattle.playback.specs.declared.outcome.Outcome.TheVariants as H
use Rattle.playback.specs.State as S
use Rattle.playback.specs.Steps.{DecodingState, LoopEnd, finished, aborted, picture_state_of, after_picture_search, picture_run, picture_step, pictures}
use Rattle.playback.specs.Cases.{is_picture_ready, is_flush, ReadsPicture, b-picture, reference-picture, flushed-picture, StepCase, outputs, keeps-reference}
use Rattle.playback.specs.Cases.{aborts}
use Rattle.playback.specs.Cases.{no-picture}
use Rattle.playback.proofs.Cases.{picture-step-is}
use Rattle.playback.proofs.TwoSteps.{Each, by_steps}
use Rattle.decoder.specs.Record.{CallResult, fresh, position, start_code, store_bytes}
use Rattle.decoder.specs.Possible.{possible, possible_with}
use Rattle.decoder.specs.Headers.{CheckResult, refused, passed, find_sequence, check_size, check_header, check_store}
use Rattle.decoder.specs.Opening.{opened, opening_from, opening}
use Rattle.decoder.specs.Decode.{call_result_of, check_header_and_store, start_state, after_checks, decode}
use Rattle.decoder.specs.Conversion.{ConversionOutput, converted}
use Rattle.decoder.specs.Answers.{opening_error_code, decode_error_code, conversion_error_code}
use Rattle.demands.specs.Checks as Q
use Rattle.demands.specs.Checks.{Check, check, first_failing, IsFirstFailing, this-one, a-later, with_size, with_header, step_checks, pictures_checks}

-- ---- the first "no" of a list, both ways

pub first-is : (qs : List Check) {n : ℕ} → IsFirstFailing n qs → first_failing qs ≡ n
unfolding first_failing
first-is [] x = elim x [ ]
first-is (q ∷ qs) (this-one e h) = rw h e
first-is (q ∷ qs) (a-later h k) = rw h (first-is qs k)

pub is-first : (qs : List Check) (n : ℕ) → 0 < n → first_failing qs ≡ n → IsFirstFailing n qs
unfolding first_failing
is-first [] n h e = let no : ⊥ = omega arith in absurd no
is-first (q ∷ qs) n h e = go q.passes refl e (is-first qs n h)
  where
    go : (b : Bool) → q.passes ≡ b → cond b (first_failing qs) q.number ≡ n → (first_failing qs ≡ n → IsFirstFailing n qs) → IsFirstFailing n (q ∷ qs)
    go true y e k = a-later y (k e)
    go false y e k = this-one e y

-- ---- a choice of the call is the answer to a question

module _ {R : Type 0} (N : R → ℕ) where
  if_yes : (b : Bool) {x y : R} {m n : ℕ} → N x ≡ m → N y ≡ n → N (cond b x y) ≡ cond b m n
  if_yes true p q = p
  if_yes false p q = q

  if_not : (b : Bool) {x y : R} {m n : ℕ} → N x ≡ n → N y ≡ m → N (cond b x y) ≡ cond (not b) m n
  if_not true p q = p
  if_not false p q = q

  unless : (b : Bool) {x y : R} {m n : ℕ} → N x ≡ n → N y ≡ m → N (cond (not b) x y) ≡ cond b m n
  unless true p q = q
  unless false p q = p

-- the questions 3, 4, 5, and qs behind them
header_checks : (N : CheckResult → ℕ) → ((n : ℕ) (x : Decoder) → N (refused n x) ≡ n) → (s : List ℕ) (d : Decoder) (qs : List Check)
    → N (passed (with_header s d)) ≡ first_failing qs
    → N (check_header s d) ≡ first_failing (Q.check_sequence_code s d ∷ Q.check_header_bits s d ∷ Q.check_non_zero_size s d ∷ qs)
unfolding check_header check_size first_failing
header_checks N says s d qs rest =
    if_not N (eq_z (start_code (find_sequence s d)) (negsuc 0)) (says 3 _)
    (unless N (has s (position (find_sequence s d)) 1088) (says 4 _)
    (if_not N (eqb (with_size s d).sequence.width 0 || eqb (with_size s d).sequence.height 0) (says 5 _) rest))

-- ---- opening

pub opening-checks : (s l : List ℕ) → opening_error_code (opening s l).answer ≡ first_failing (Q.opening_checks s l)
unfolding opening opening_from opened check_store first_failing
opening-checks s l =
    if_yes (λ (r : CallResult Opening). opening_error_code r.answer) (leb (length s) longest_stream)
    (header_checks (λ a. opening_error_code (opened l (check_store fresh l a)).answer) (λ n x. refl) s fresh (Q.check_store_length (with_header s fresh) l ∷ [])
    (if_yes (λ a. opening_error_code (opened l a).answer) (leb (store_bytes (with_header s fresh)) (length l)) refl refl)) refl

-- ---- the pictures of a hand-out

abbrev end_number : LoopEnd → ℕ
end_number (finished o x) = decode_error_code o
end_number (aborted n l) = n

-- a turn that goes on has said "yes" to its questions
abbrev Yes : List Check → Type 0
Yes qs = (rs : List Check) → first_failing (qs ++ rs) ≡ first_failing rs

abbrev Says : List Check → LoopEnd → Type 0
Says qs e = end_number e ≡ first_failing qs

module _ (s : List ℕ) (z : Sizes) (m : Matrices) where
  -- a picture is there, and is read to its end
  read_checks : (x : DecodingState) {f : PictureState} {a : ℕ} → is_picture_ready s x.state ≡ true → ReadsPicture s z m x f a
      → step_checks s z m x ≡ check 7 true ∷ check 8 true ∷ check 9 true ∷ []
  unfolding step_checks
  read_checks x i r = rw i
      (ap (λ (o : RunResult (Result Stop PictureState)). check 7 true ∷ Q.are_dcs_inside o.value ∷ Q.are_predictions_inside o.value ∷ []) r)

  -- it leaves early
  if-ok_checks : (x : DecodingState) {e : Stop} {a : ℕ} → is_picture_ready s x.state ≡ true → picture_run s z m x ≡ record { value = error e; at = a }
      → step_checks s z m x ≡ check 7 true ∷ check 8 (not (Q.is_dc e.cause)) ∷ check 9 (not (Q.is_prediction e.cause)) ∷ []
  unfolding step_checks
  if-ok_checks x i r =
      rw i (ap (λ (o : RunResult (Result Stop PictureState)). check 7 true ∷ Q.are_dcs_inside o.value ∷ Q.are_predictions_inside o.value ∷ []) r)

  -- none is there
  none_checks : (x : DecodingState) {b : Bool} → is_picture_ready s x.state ≡ false → is_flush s x.state ≡ b → step_checks s z m x ≡ check 7 b ∷ []
  unfolding step_checks
  none_checks x i u = rw (i, u)

  if-ok-says : (x : DecodingState) {e : Stop} {a : ℕ} → is_picture_ready s x.state ≡ true → picture_run s z m x ≡ record { value = error e; at = a }
      → error_code e.cause ≡ first_failing (step_checks s z m x)
  unfolding first_failing
  if-ok-says x {e} i r = go e.cause ∙ ap first_failing (sym (if-ok_checks x i r))
    where
      go : (c : Cause) → error_code c ≡ first_failing (check 7 true ∷ check 8 (not (Q.is_dc c)) ∷ check 9 (not (Q.is_prediction c)) ∷ [])
      go (dc_outside address block predictor difference) = refl
      go (prediction_outside address plane h v) = refl

  step-says : (x : DecodingState) {t : Step DecodingState LoopEnd} → StepCase s z m x t → Each (λ y. Yes (step_checks s z m x)) (Says (step_checks s z m x)) t
  unfolding first_failing
  step-says x (outputs (b-picture i r b)) = ap first_failing (sym (read_checks x i r))
  step-says x (outputs (reference-picture i r b h)) = ap first_failing (sym (read_checks x i r))
  step-says x (outputs (flushed-picture i u)) = ap first_failing (sym (none_checks x i u))
  step-says x (keeps-reference i r b h) = λ rs. ap (λ (qs : List Check). first_failing (qs ++ rs)) (read_checks x i r)
  step-says x (aborts i r) = if-ok-says x i r
  step-says x (no-picture i u) = ap first_failing (sym (none_checks x i u))

  -- the turn from x on
  from-says : (x : DecodingState) (t : Step DecodingState LoopEnd) → picture_step s z m x ≡ t
      → Each (λ y. Yes (step_checks s z m (after_picture_search s x))) (Says (step_checks s z m (after_picture_search s x))) t
  from-says x t e = step-says (after_picture_search s x) (subst (StepCase s z m (after_picture_search s x)) e (picture-step-is s z m x))

  pictures_say : (x : DecodingState) → Says (pictures_checks s z m x) (pictures s z m x)
  unfolding pictures_checks
  pictures_say x =
      by_steps s z m x (λ y. Yes (step_checks s z m (after_picture_search s x))) (λ y v. Unit {0}) (Says (pictures_checks s z m x))
      (λ t e. first t e (from-says x t e)) (λ y e k t f. second y e k t (from-says y t f))
    where
      -- the questions of one turn, and of two
      first : (t : Step DecodingState LoopEnd) → picture_step s z m x ≡ t
          → Each (λ y. Yes (step_checks s z m (after_picture_search s x))) (Says (step_checks s z m (after_picture_search s x))) t
          → Each (λ y. Yes (step_checks s z m (after_picture_search s x))) (Says (pictures_checks s z m x)) t
      first (continue y) e h = h
      first (finish v) e h = rw e (h ∙ ap first_failing (sym (append-nil (step_checks s z m (after_picture_search s x)))))

      second : (y : DecodingState) → picture_step s z m x ≡ continue y → Yes (step_checks s z m (after_picture_search s x)) → (t : Step DecodingState LoopEnd)
          → Each (λ v. Yes (step_checks s z m (after_picture_search s y))) (Says (step_checks s z m (after_picture_search s y))) t
          → Each (λ v. Unit {0}) (Says (pictures_checks s z m x)) t
      second y e k (continue v) h = tt
      second y e k (finish v) h = rw e (h ∙ sym (k (step_checks s z m (after_picture_search s y))))

-- ---- a hand-out

ended-number : (d x : Decoder) (e : LoopEnd) → decode_error_code (call_result_of d x e).answer ≡ end_number e
unfolding call_result_of
ended-number d x (finished o y) = refl
ended-number d x (aborted n l) = refl

module _ (d : Decoder) (s l : List ℕ) where
  abbrev N : CheckResult → ℕ
  N a = decode_error_code (after_checks s d l a).answer

  -- the questions of the pictures
  abbrev asks : Decoder → List Check
  asks x = pictures_checks s x.sequence.sizes x.sequence.matrices (start_state d x l)

  store_checks : (x : Decoder) → N (check_store d l (passed x)) ≡ first_failing (Q.check_store_length x l ∷ asks x)
  unfolding check_store after_checks first_failing
  store_checks x =
      if_yes N (leb (store_bytes x) (length l)) (ended-number d x _ ∙ pictures_say s x.sequence.sizes x.sequence.matrices (start_state d x l)) refl

  first_checks : (b : Bool)
      → N (check_store d l (cond b (passed d) (check_header s d)))
      ≡ first_failing (cond b [] (Q.check_sequence_code s d ∷ Q.check_header_bits s d ∷ Q.check_non_zero_size s d ∷ []) ++
      (Q.check_store_length (cond b d (with_header s d)) l ∷ asks (cond b d (with_header s d))))
  unfolding check_store after_checks
  first_checks true = store_checks d
  first_checks false = header_checks (λ a. N (check_store d l a)) (λ n x. refl) s d _ (store_checks (with_header s d))

  pub decode-checks : decode_error_code (decode d s l).answer ≡ first_failing (Q.decode_checks d s l)
  unfolding decode check_header_and_store Q.decode_checks first_failing
  decode-checks =
      let M : CallResult Outcome → ℕ = λ r. decode_error_code r.answer in
      unless M (leb (length s) longest_stream) refl
      (unless M (possible_with s d) refl
      (unless M (eqb d.stop 0) refl (first_checks d.sequence.has_sequence_header)))

-- ---- the conversion

pub conversion-checks : (d : Decoder) (l : List ℕ) (k : ℕ) (a : List ℕ) (w h : ℕ)
    → conversion_error_code (converted d l k a w h).answer ≡ first_failing (Q.conversion_checks d l k a w h)
unfolding converted first_failing
conversion-checks d l k a w h =
    let M : ConversionOutput → ℕ = λ r. conversion_error_code r.answer in
    unless M (possible d) refl
    (unless M (leb (store_bytes d) (length l)) refl
    (unless M (d.sequence.has_sequence_header && leb k 2) refl
    (unless M (fits w h a) refl refl)))
