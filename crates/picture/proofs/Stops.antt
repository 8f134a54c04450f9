-- RULES Q8, Q9, QB: a picture ends a call exactly at the first value outside that its reading comes to; one that is read to its end comes to none.
use mathlib.Core.Path.{◌≡◌, refl, sym, ap, subst, ◌∙◌}
use mathlib.Core.Bool.{Bool, true, false, cond, not, ◌&&◌}
use mathlib.Core.List.{List}
use Prim.Native.Nat.{ℕ, zero, suc}
use lib.Dec.{eqb}
use lib.IntN.{ℤ, nat_abs}
use Rattle.laws.specs.Loops.{Step, continue, finish}
use Rattle.bits.specs.Programs.{Prog, RunResult, done, run, bind, next_start_code, loop, continue_with, stream_fuel}
use Rattle.bits.proofs.Programs.{run_bind}
use Rattle.bits.proofs.Gives.{Gives, g-done, g_if}
use Rattle.bits.proofs.Rules.{loop_suc}
use Rattle.picture_state.specs.declared.types.{Context.Context, Matrices.Matrices, Picture.Picture, Sizes.Sizes}
use Rattle.picture_state.specs.State.{SliceState, slice_state, with_start_code, with_stores}
use Rattle.picture_state.specs.Result.{Result, ok, error, if_ok, bind_result}
use Rattle.picture_state.specs.Stop.{Stop}
use Rattle.picture_state.proofs.Results.{error-is_not-ok, error_injective}
use Rattle.picture_state.proofs.Runs.{finish_injective}
use Rattle.slice.specs.Slices.{is_last, slice}
use Rattle.slice.specs.Stops.{SliceStop}
use Rattle.slice.proofs.Stops.{NoError, slice-stopped, slice-stops}
use Rattle.picture.specs.Pictures as P
use Rattle.picture.specs.Stops.{SlicesStop, in-slice, later, header_at, picture_read, PictureStop}

abbrev Turn : Type 0
Turn = Step P.SlicesLoopState (Result Stop P.PictureState)

module _ (g : Context) (m : Matrices) (s : List ℕ) where
  past-ok : (p : Picture) (w : SliceState) → Gives s NoError (P.after_slice g p (ok w))
  unfolding P.after_slice
  past-ok p w = g_if (is_last g w) (λ q. g-done tt) (λ q. g-done tt)

  module _ (x : P.SlicesLoopState) (a : ℕ) where
    abbrev f : P.PictureState
    f = x.picture_state

    abbrev code : RunResult ℤ
    code = run next_start_code s a

    -- the picture with the start code, and the slice's state
    abbrev p : Picture
    p = with_start_code code.value f.picture

    abbrev w : SliceState
    w = slice_state f.picture.slice f.block_data f.store

    abbrev in_slice : Prog Turn
    in_slice = bind (slice g m (nat_abs code.value) w) (P.after_slice g p)

    abbrev other : Prog Turn
    other =
        cond (P.is_extra code.value && not x.begun) (done (continue (P.slices_loop_state false (P.with_picture p f))))
        (done (finish (ok (P.with_picture p f))))

    step_run : (run (P.slices_step g m x) s a).value ≡ (run (cond (P.is_slice code.value) in_slice other) s code.at).value
    unfolding P.slices_step
    step_run = ap (λ (o : RunResult Turn). o.value) (run_bind next_start_code _ s a)

    abbrev read : RunResult (Result Stop SliceState)
    read = run (slice g m (nat_abs code.value) w) s code.at

    slice-run : (run in_slice s code.at).value ≡ (run (P.after_slice g p read.value) s read.at).value
    slice-run = ap (λ (o : RunResult Turn). o.value) (run_bind (slice g m (nat_abs code.value) w) (P.after_slice g p) s code.at)

    other-ok : Gives s NoError other
    other-ok = g_if (P.is_extra code.value && not x.begun) (λ q. g-done tt) (λ q. g-done tt)

    step-stopped : {e : Stop} {n : ℕ} → (run (P.slices_step g m x) s a).value ≡ finish (error e) → SlicesStop g m s e (suc n) x a
    unfolding P.after_slice run
    step-stopped {e} {n} h = go (P.is_slice code.value) refl (sym step_run ∙ h)
      where
        past : P.is_slice code.value ≡ true → (v : Result Stop SliceState) → read.value ≡ v
            → (run (P.after_slice g p v) s read.at).value ≡ finish (error e) → SlicesStop g m s e (suc n) x a
        past t (ok y) q k = let z : ⊥ = subst NoError k ((past-ok p y).value read.at) in absurd z
        past t (error d) q k = in-slice t (slice-stopped g m (nat_abs code.value) w s code.at (q ∙ ap error (error_injective (finish_injective k))))

        go : (t : Bool) → P.is_slice code.value ≡ t → (run (cond t in_slice other) s code.at).value ≡ finish (error e) → SlicesStop g m s e (suc n) x a
        go true q k = past q read.value refl (sym slice-run ∙ k)
        go false q k = let z : ⊥ = subst NoError k (other-ok.value code.at) in absurd z

    step-stops : {e : Stop} → P.is_slice code.value ≡ true → SliceStop g m (nat_abs code.value) w s code.at e
        → (run (P.slices_step g m x) s a).value ≡ finish (error e)
    unfolding P.after_slice run
    step-stops t k =
        step_run ∙ ap (λ (t : Bool). (run (cond t in_slice other) s code.at).value) t ∙ slice-run
        ∙ ap (λ (v : Result Stop SliceState). (run (P.after_slice g p v) s read.at).value) (slice-stops g m (nat_abs code.value) w s code.at k)

  module _ (d : P.PictureState) where
    abbrev looped : ℕ → P.SlicesLoopState → Prog (Result Stop P.PictureState)
    looped n = loop n (P.slices_step g m) (ok d)

    abbrev on : ℕ → RunResult Turn → Result Stop P.PictureState
    on n o = (run (continue_with (looped n) o.value) s o.at).value

    looped-run : (n : ℕ) (x : P.SlicesLoopState) (a : ℕ) → (run (looped (suc n) x) s a).value ≡ on n (run (P.slices_step g m x) s a)
    looped-run n x a = ap (λ (o : RunResult (Result Stop P.PictureState)). o.value) (loop_suc (suc n) n (P.slices_step g m) (ok d) x s a refl)

    looped-stopped : {e : Stop} (n : ℕ) (x : P.SlicesLoopState) (a : ℕ) → (run (looped n x) s a).value ≡ error e → SlicesStop g m s e n x a
    unfolding loop run
    looped-stopped zero x a h = absurd (error-is_not-ok (sym h))
    looped-stopped {e} (suc n) x a h =
        go (run (P.slices_step g m x) s a).value (run (P.slices_step g m x) s a).at refl (sym (looped-run n x a) ∙ h) (λ y b k. looped-stopped n y b k)
      where
        go : (t : Turn) (b : ℕ) → run (P.slices_step g m x) s a ≡ record { value = t; at = b } → (run (continue_with (looped n) t) s b).value ≡ error e
            → ((y : P.SlicesLoopState) (b : ℕ) → (run (looped n y) s b).value ≡ error e → SlicesStop g m s e n y b) → SlicesStop g m s e (suc n) x a
        go (continue y) b q k again = later q (again y b k)
        go (finish v) b q k again = step-stopped x a (ap (λ (o : RunResult Turn). o.value) q ∙ ap finish k)

    looped-stops : {e : Stop} {n : ℕ} {x : P.SlicesLoopState} {a : ℕ} → SlicesStop g m s e n x a → (run (looped n x) s a).value ≡ error e
    unfolding run
    looped-stops (in-slice {n} {x} {a} t k) =
        looped-run n x a ∙ ap (λ (t : Turn). (run (continue_with (looped n) t) s (run (P.slices_step g m x) s a).at).value) (step-stops x a t k)
    looped-stops (later {n} {x} {y} {a} {b} q k) = looped-run n x a ∙ ap (on n) q ∙ looped-stops k

-- ---- a picture

then-stopped : {A B : Type 0} (p : Prog (Result Stop A)) (h : A → B) (s : List ℕ) (a : ℕ) {e : Stop}
    → (run (bind_result p (λ x. done (ok (h x)))) s a).value ≡ error e → (run p s a).value ≡ error e
unfolding bind_result if_ok run
then-stopped {A} {B} p h s a {e} k =
    go (run p s a).value (sym (ap (λ (o : RunResult (Result Stop B)). o.value) (run_bind p (if_ok (λ x. done (ok (h x)))) s a)) ∙ k)
  where
    go : (v : Result Stop A) → (run (if_ok (λ x. done (ok (h x))) v) s (run p s a).at).value ≡ error e → v ≡ error e
    go (ok x) k = absurd (error-is_not-ok (sym k))
    go (error d) k = ap error (error_injective k)

then-stops : {A B : Type 0} (p : Prog (Result Stop A)) (h : A → B) (s : List ℕ) (a : ℕ) {e : Stop} → (run p s a).value ≡ error e
    → (run (bind_result p (λ x. done (ok (h x)))) s a).value ≡ error e
unfolding bind_result if_ok run
then-stops {A} {B} p h s a k =
    ap (λ (o : RunResult (Result Stop B)). o.value) (run_bind p (if_ok (λ x. done (ok (h x)))) s a)
    ∙ ap (λ (v : Result Stop A). (run (if_ok (λ x. done (ok (h x))) v) s (run p s a).at).value) k

module _ (z : Sizes) (m : Matrices) (f : P.PictureState) (s : List ℕ) (a : ℕ) where
  -- the picture with its header
  abbrev headed : P.PictureState
  headed = P.with_picture (P.with_picture_header (header_at s a).value f.picture) f

  abbrev slices_read : Prog (Result Stop P.PictureState)
  slices_read = P.slices (P.context_of z (picture_read f s a)) m (P.with_picture (picture_read f s a) f)

  picture-run : (run (P.picture z m f) s a).value
      ≡ (run (cond (P.is_decoded (header_at s a).value) (P.slices_in_roles z m headed) (done (ok headed))) s (header_at s a).at).value
  unfolding P.picture
  picture-run = ap (λ (o : RunResult (Result Stop P.PictureState)). o.value) (run_bind P.picture_header _ s a)

  roles-stopped : {e : Stop} → (run (P.slices_in_roles z m headed) s (header_at s a).at).value ≡ error e
      → (run slices_read s (header_at s a).at).value ≡ error e
  unfolding P.slices_in_roles
  roles-stopped {e} = go (eqb headed.picture.picture_type 3)
    where
      q : Bool → Picture
      q t = with_stores (cond t headed.picture.stores (P.roles_while_reading headed.picture.stores)) headed.picture

      turned : P.PictureState → P.PictureState
      turned f₁ = P.with_picture (with_stores (P.roles_after_reading headed.picture.stores) f₁.picture) f₁

      go : (t : Bool) → (run (cond t (P.slices (P.context_of z headed.picture) m headed)
          (bind_result (P.slices (P.context_of z (q false)) m (P.with_picture (q false) headed)) (λ f₁. done (ok (turned f₁))))) s (header_at s a).at).value
          ≡ error e
          → (run (P.slices (P.context_of z (q t)) m (P.with_picture (q t) headed)) s (header_at s a).at).value ≡ error e
      go true k = k
      go false k = then-stopped (P.slices (P.context_of z (q false)) m (P.with_picture (q false) headed)) turned s (header_at s a).at k

  roles-stops : {e : Stop} → (run slices_read s (header_at s a).at).value ≡ error e → (run (P.slices_in_roles z m headed) s (header_at s a).at).value ≡ error e
  unfolding P.slices_in_roles
  roles-stops {e} = go (eqb headed.picture.picture_type 3)
    where
      q : Bool → Picture
      q t = with_stores (cond t headed.picture.stores (P.roles_while_reading headed.picture.stores)) headed.picture

      turned : P.PictureState → P.PictureState
      turned f₁ = P.with_picture (with_stores (P.roles_after_reading headed.picture.stores) f₁.picture) f₁

      go : (t : Bool) → (run (P.slices (P.context_of z (q t)) m (P.with_picture (q t) headed)) s (header_at s a).at).value ≡ error e
          → (run (cond t (P.slices (P.context_of z headed.picture) m headed)
          (bind_result (P.slices (P.context_of z (q false)) m (P.with_picture (q false) headed)) (λ f₁. done (ok (turned f₁))))) s (header_at s a).at).value
          ≡ error e
      go true k = k
      go false k = then-stops (P.slices (P.context_of z (q false)) m (P.with_picture (q false) headed)) turned s (header_at s a).at k

  -- RULES Q8, Q9: an error of a picture is that of the first value outside that it comes to
  pub picture-stopped : {e : Stop} → (run (P.picture z m f) s a).value ≡ error e → PictureStop z m f s a e
  unfolding P.slices run
  picture-stopped {e} h = go (P.is_decoded (header_at s a).value) refl (sym picture-run ∙ h)
    where
      go : (t : Bool) → P.is_decoded (header_at s a).value ≡ t
          → (run (cond t (P.slices_in_roles z m headed) (done (ok headed))) s (header_at s a).at).value ≡ error e → PictureStop z m f s a e
      go true q k = record {
        decoded = q;
        stops = looped-stopped (P.context_of z (picture_read f s a)) m s (P.with_picture (picture_read f s a) f) stream_fuel _ (header_at s a).at
            (roles-stopped k);
      }
      go false q k = absurd (error-is_not-ok (sym k))

  pub picture-stops : {e : Stop} → PictureStop z m f s a e → (run (P.picture z m f) s a).value ≡ error e
  unfolding P.slices
  picture-stops k =
      picture-run ∙ ap (λ (t : Bool). (run (cond t (P.slices_in_roles z m headed) (done (ok headed))) s (header_at s a).at).value) k.decoded
      ∙ roles-stops (looped-stops (P.context_of z (picture_read f s a)) m s (P.with_picture (picture_read f s a) f) k.stops)

  -- RULES QB: a picture that is read to its end comes to none
  pub read-inside : {y : P.PictureState} → (run (P.picture z m f) s a).value ≡ ok y → {e : Stop} → PictureStop z m f s a e → ⊥
  read-inside h k = error-is_not-ok (sym (picture-stops k) ∙ h)
