-- RULES Q9: a prediction ends a call exactly at the first plane that reaches out. Assumes nothing.
use mathlib.Core.Path.{◌≡◌, refl, sym, ap, subst, ◌∙◌}
use mathlib.Core.Bool.{Bool, true, false, cond, ◌&&◌, ◌||◌, false≢true}
use mathlib.Core.List.{List}
use mathlib.Core.Logic.{◌⊎◌, inl, inr, ⊎_elim}
use Prim.Native.Nat.{ℕ, zero, suc, ◌+◌}
use native.Mathlib.Omega.{arith}
use borrow.Author.Tests.{ltb-true, lt-ltb}
use lib.Dec.{ltb, eqb}
use lib.IntN.{ℤ, pos, nat_abs}
use lib.Signed.{lt_z}
use Rattle.laws.proofs.Ints.{v, lit, lt_no, le_yes, yes_le, no_lt}
use Rattle.laws.proofs.Tests.{by-case}
use Rattle.prediction.specs.declared.position.{Macroblock.Macroblock, BlockPosition.BlockPosition}
use Rattle.std.specs.Prelude.{Some, None, Ok, Err}
use Rattle.prediction.specs.Planes.{Predicted}
use Rattle.prediction.specs.Predict.{PredictionSource, half_sample_outside}
use Rattle.prediction.specs.declared.planes.Plane.{Plane}
use Rattle.prediction.specs.declared.planes.Plane.TheVariants.{Y, Cr, Cb}
use Rattle.prediction.specs.Predict.{block_position_of, start, max_address, reach, prediction_source, chroma}
use Rattle.prediction.specs.Planes.{PredictionOutcome, PlaneAfter, macroblocks, block_size, plane_start}
use Rattle.prediction.specs.Planes.{predict_from_source, and_then_plane, predict_plane_from_store}
use Rattle.prediction.specs.Planes.{predicted_planes}
use Rattle.prediction.proofs.Macroblocks.{first-refused, second-refused}
use Rattle.picture_state.specs.declared.types.{Context.Context, Motion.Motion, Slice.Slice}
use Rattle.picture_state.specs.Result.{Result, ok, error, and_then}
use Rattle.picture_state.specs.Stop.{prediction_outside, Stop, stop}
use Rattle.picture_state.proofs.Results.{error-is_not-ok, error_injective}
use Rattle.macroblock_head.specs.Predictions.{unless_refused, predict_from, predict_both, predict, predict_skipped}
use Rattle.macroblock_head.specs.Stops.{ReachesOut, PlaneStop, in-y, in-cr, DirectionStop, PredictionStop, forward, backward, second, SkippedStop}

-- ---- a block

abbrev is_past : PredictionSource → Bool
is_past f = elim f [ Ok _ ↦ false | Err _ ↦ true ]

module _ (p : BlockPosition) (h v' : ℤ) where
  abbrev from : ℤ
  from = start p h v'

  fetch-past : is_past (prediction_source p h v') ≡ true → ReachesOut p h v'
  unfolding prediction_source
  fetch-past = go (lt_z from (pos 0)) (lt_z (pos (max_address p)) from) (ltb (max_address p) (nat_abs from + reach p h v')) refl refl refl
    where
      go : (b c t : Bool) → lt_z from (pos 0) ≡ b → lt_z (pos (max_address p)) from ≡ c → ltb (max_address p) (nat_abs from + reach p h v') ≡ t
          → is_past (cond (b || c) (Ok None) (cond t (Err half_sample_outside) (Ok (Some (nat_abs from))))) ≡ true → ReachesOut p h v'
      go true c t k l m e = absurd (false≢true e)
      go false true t k l m e = absurd (false≢true e)
      go false false false k l m e = absurd (false≢true e)
      go false false true k l m e = record {
        from = yes_le (lit 0) (v from) (omega (arith, lt_no (v from) (lit 0) k));
        to = yes_le (v from) (lit (max_address p)) (omega (arith, lt_no (lit (max_address p)) (v from) l));
        past = ltb-true _ _ m;
      }

  past_fetch : ReachesOut p h v' → is_past (prediction_source p h v') ≡ true
  unfolding prediction_source
  past_fetch r =
      let low : lt_z from (pos 0) ≡ false = no_lt (v from) (lit 0) (omega (arith, le_yes (lit 0) (v from) r.from)) in
      let high : lt_z (pos (max_address p)) from ≡ false = no_lt (lit (max_address p)) (v from) (omega (arith, le_yes (v from) (lit (max_address p)) r.to)) in
      rw (low, high, lt-ltb (max_address p) (nat_abs from + reach p h v') r.past)

-- ---- the planes

abbrev is_refused : Predicted → Bool
is_refused a = elim a [ Ok _ ↦ false | Err _ ↦ true ]

module _ (m : Macroblock) (address k to : ℕ) (h v' : ℤ) (interpolate : Bool) (l : List ℕ) where
  abbrev plane : Plane → ℤ → ℤ → List ℕ → PlaneAfter
  plane = predict_plane_from_store m k to interpolate

  -- what is done with the block of a plane
  abbrev followed : Plane → ℤ → ℤ → List ℕ → PredictionSource → PredictionOutcome
  followed q x y l w =
      predict_from_source w (block_position_of m (block_size q)) (plane_start k q (macroblocks m)) (plane_start to q (macroblocks m)) x y interpolate l

  plane-answer : (q : Plane) (x y : ℤ) (l : List ℕ) → is_refused (plane q x y l).answer ≡ is_past (prediction_source (block_position_of m (block_size q)) x y)
  unfolding predict_from_source
  plane-answer q x y l = go (prediction_source (block_position_of m (block_size q)) x y)
    where
      go : (w : PredictionSource) → is_refused (followed q x y l w).answer ≡ is_past w
      go (Ok None) = refl
      go (Err _) = refl
      go (Ok (Some a)) = refl

  -- a plane that is refused is as it was
  plane-store : (q : Plane) (x y : ℤ) (l : List ℕ) → is_past (prediction_source (block_position_of m (block_size q)) x y) ≡ true → (plane q x y l).store ≡ l
  unfolding predict_from_source
  plane-store q x y l = go (prediction_source (block_position_of m (block_size q)) x y)
    where
      go : (w : PredictionSource) → is_past w ≡ true → (followed q x y l w).store ≡ l
      go (Ok None) e = absurd (false≢true e)
      go (Err _) e = refl
      go (Ok (Some a)) e = absurd (false≢true e)

  refused-of : (a : Predicted) → is_refused a ≡ true → a ≡ Err half_sample_outside
  refused-of (Ok _) e = absurd (false≢true e)
  refused-of (Err _) e = refl

  done-of : (a : Predicted) → is_refused a ≡ false → a ≡ Ok tt
  done-of (Ok _) e = refl
  done-of (Err _) e = absurd (false≢true (sym e))

  -- the cause that a plane's prediction gives, if any
  abbrev at : PlaneAfter → Stop
  at o = stop (prediction_outside address o.plane o.h o.v) o.store

  stopped-at : (o : PlaneAfter) {e : Stop} → unless_refused address o ≡ error e → (is_refused o.answer ≡ true) × (e ≡ at o)
  unfolding unless_refused
  stopped-at o {e} = go o.answer
    where
      go : (a : Predicted) → ◌≡◌ {A = Result Stop (List ℕ)} (elim a as (λ x. Result Stop (List ℕ)) [ Ok _ ↦ ok o.store | Err _ ↦ error (at o) ]) (error e)
          → (is_refused a ≡ true) × (e ≡ at o)
      go (Ok _) h = absurd (error-is_not-ok (sym h))
      go (Err _) h = (refl, sym (error_injective h))

  stops_at : (o : PlaneAfter) → o.answer ≡ Err half_sample_outside → unless_refused address o ≡ error (at o)
  unfolding unless_refused
  stops_at o h = rw h

  then-stopped : (o : PlaneAfter) (f : List ℕ → PlaneAfter) {e : Stop} → unless_refused address (and_then_plane o f) ≡ error e
      → ((is_refused o.answer ≡ true) × (unless_refused address o ≡ error e))
      ⊎ ((is_refused o.answer ≡ false) × (unless_refused address (f o.store) ≡ error e))
  unfolding and_then_plane
  then-stopped o f {e} = go o.answer
    where
      go : (a : Predicted) → unless_refused address (elim a as (λ x. PlaneAfter) [ Ok _ ↦ f o.store | Err _ ↦ o ]) ≡ error e
          → ((is_refused a ≡ true) × (unless_refused address o ≡ error e)) ⊎ ((is_refused a ≡ false) × (unless_refused address (f o.store) ≡ error e))
      go (Ok _) h = inr (refl, h)
      go (Err _) h = inl (refl, h)

  abbrev first : PlaneAfter
  first = plane Y h v' l

  abbrev next : PlaneAfter
  next = plane Cr (chroma h) (chroma v') first.store

  planes-stopped : {e : Stop} → unless_refused address (predicted_planes m k to h v' interpolate l) ≡ error e
      → PlaneStop m address k to h v' interpolate l e
  unfolding predicted_planes
  planes-stopped {e} w = ⊎_elim in-first behind-first (then-stopped first _ w)
    where
      in-first : (is_refused first.answer ≡ true) × (unless_refused address first ≡ error e) → PlaneStop m address k to h v' interpolate l e
      in-first r =
          let p = sym (plane-answer Y h v' l) ∙ r.0 in
          subst (PlaneStop m address k to h v' interpolate l)
          (sym ((stopped-at first r.1).1 ∙ ap (stop (prediction_outside address Y h v')) (plane-store Y h v' l p)))
          (in-y (fetch-past (block_position_of m (block_size Y)) h v' p))

      in-next : (is_refused first.answer ≡ false) → (is_refused next.answer ≡ true) × (unless_refused address next ≡ error e)
          → PlaneStop m address k to h v' interpolate l e
      in-next d r =
          let p = sym (plane-answer Cr (chroma h) (chroma v') first.store) ∙ r.0 in
          subst (PlaneStop m address k to h v' interpolate l)
          (sym ((stopped-at next r.1).1
          ∙ ap (stop (prediction_outside address Cr (chroma h) (chroma v'))) (plane-store Cr (chroma h) (chroma v') first.store p)))
          (in-cr (λ o. false≢true (sym d ∙ plane-answer Y h v' l ∙ past_fetch (block_position_of m (block_size Y)) h v' o))
          (fetch-past (block_position_of m (block_size Cr)) (chroma h) (chroma v') p))

      -- Cb has the block and the vector of Cr
      in-last : (is_refused next.answer ≡ false) × (unless_refused address (plane Cb (chroma h) (chroma v') next.store) ≡ error e)
          → PlaneStop m address k to h v' interpolate l e
      in-last r =
          absurd (false≢true (sym r.0 ∙ plane-answer Cr (chroma h) (chroma v') first.store
          ∙ sym (plane-answer Cb (chroma h) (chroma v') next.store) ∙ (stopped-at (plane Cb (chroma h) (chroma v') next.store) r.1).0))

      behind-first : (is_refused first.answer ≡ false)
          × (unless_refused address (and_then_plane next (plane Cb (chroma h) (chroma v'))) ≡ error e) → PlaneStop m address k to h v' interpolate l e
      behind-first r = ⊎_elim (in-next r.0) in-last (then-stopped next (plane Cb (chroma h) (chroma v')) r.1)

  planes-stop : {e : Stop} → PlaneStop m address k to h v' interpolate l e → unless_refused address (predicted_planes m k to h v' interpolate l) ≡ error e
  planes-stop (in-y r) =
      let p = past_fetch (block_position_of m (block_size Y)) h v' r in
      let q = refused-of first.answer (plane-answer Y h v' l ∙ p) in
      ap (unless_refused address) (first-refused m k to h v' interpolate l q) ∙ stops_at first q
      ∙ ap (λ (l : List ℕ). error (stop (prediction_outside address Y h v') l)) (plane-store Y h v' l p)
  planes-stop (in-cr n r) =
      let p = past_fetch (block_position_of m (block_size Cr)) (chroma h) (chroma v') r in
      let q = refused-of next.answer (plane-answer Cr (chroma h) (chroma v') first.store ∙ p) in
      ap (unless_refused address) (second-refused m k to h v' interpolate l (done-of first.answer (inside n (is_refused first.answer) refl)) q)
      ∙ stops_at next q
      ∙ ap (λ (l : List ℕ). error (stop (prediction_outside address Cr (chroma h) (chroma v')) l)) (plane-store Cr (chroma h) (chroma v') first.store p)
    where
      inside : (ReachesOut (block_position_of m (block_size Y)) h v' → ⊥) → (t : Bool) → is_refused first.answer ≡ t → is_refused first.answer ≡ false
      inside n true e = absurd (n (fetch-past (block_position_of m (block_size Y)) h v' (sym (plane-answer Y h v' l) ∙ e)))
      inside n false e = e

-- ---- a macroblock

module _ (g : Context) (address k : ℕ) (x : Motion) (interpolate : Bool) (l : List ℕ) {e : Stop} where
  -- RULES Q9: what ends a prediction
  pub from-stopped : predict_from g address k x interpolate l ≡ error e → DirectionStop g address k x interpolate l e
  unfolding predict_from
  from-stopped h = planes-stopped _ address k g.stores.cur _ _ interpolate l h

  -- and that it does
  pub from-stops : DirectionStop g address k x interpolate l e → predict_from g address k x interpolate l ≡ error e
  unfolding predict_from
  from-stops h = planes-stop _ address k g.stores.cur _ _ interpolate l h

pub then-error : {A B : Type 0} (w : Result Stop A) (f : A → Result Stop B) {e : Stop} → and_then w f ≡ error e
    → (w ≡ error e) ⊎ ((x : A) × (w ≡ ok x) × (f x ≡ error e))
unfolding and_then
then-error (ok x) f h = inr (x, refl, h)
then-error (error d) f h = inl (ap error (error_injective h))

module _ (g : Context) (x : Slice) {e : Stop} where
  both_stopped : (address : ℕ) (l : List ℕ) → predict_both g address x l ≡ error e → PredictionStop g address x l e
  unfolding predict_both
  both_stopped address l h =
      ⊎_elim (λ k. forward (from-stopped g address _ _ _ l k))
      (λ k. second k.1 (last k.0 x.motion_backward.is_set k.2))
      (then-error (predict_from g address g.stores.fwd x.motion_forward false l) _ h)
    where
      last : (l₁ : List ℕ) (t : Bool) → cond t (predict_from g address g.stores.bwd x.motion_backward true l₁) (ok l₁) ≡ error e
          → DirectionStop g address g.stores.bwd x.motion_backward true l₁ e
      last l₁ true k = from-stopped g address _ _ _ l₁ k
      last l₁ false k = absurd (error-is_not-ok (sym k))

  -- RULES 7.17, 7.18, Q9
  pub predict-stopped : (address : ℕ) (l : List ℕ) → predict g address x l ≡ error e → PredictionStop g address x l e
  unfolding predict
  predict-stopped address l =
      by-case (λ (w : Result Stop (List ℕ)). w ≡ error e → PredictionStop g address x l e) (eqb g.picture_type 3 && x.motion_forward.is_set)
      (λ b h. both_stopped address l h)
      (λ b. by-case (λ (w : Result Stop (List ℕ)). w ≡ error e → PredictionStop g address x l e) (eqb g.picture_type 3)
      (λ b h. backward (from-stopped g address _ _ _ l h)) (λ b h. forward (from-stopped g address _ _ _ l h)))

  -- RULES 7.11, Q9
  pub skipped-stopped : (address n : ℕ) (l : List ℕ) → predict_skipped g x address n l ≡ error e → SkippedStop g x address n l e
  unfolding predict_skipped and_then
  skipped-stopped address zero l h = absurd (error-is_not-ok (sym h))
  skipped-stopped address (suc n) l h =
      ⊎_elim here (λ k. later k.0 k.1 (skipped-stopped (address + 1) n k.0 k.2)) (then-error (predict g address x l) _ h)
    where
      here : predict g address x l ≡ error e → SkippedStop g x address (suc n) l e
      here k =
          let z : address + 0 ≡ address = omega arith in
          record { before = 0; few = omega arith; store = l; written = refl; stops = rw z (predict-stopped address l k) }

      later : (l₁ : List ℕ) → predict g address x l ≡ ok l₁ → SkippedStop g x (address + 1) n l₁ e → SkippedStop g x address (suc n) l e
      later l₁ k r =
          let z : address + suc r.before ≡ address + 1 + r.before = omega arith in
          record { before = suc r.before; few = omega (arith, r.few); store = r.store; written = rw k r.written; stops = rw z r.stops }
