-- RULES 7.2, D2.3: what a picture's run leaves: the other stores as they were, and the roles of the stores turned.
use mathlib.Core.Path.{◌≡◌, refl, sym, ap, ◌∙◌}
use mathlib.Core.Bool.{Bool, true, false, cond, true≢false}
use mathlib.Core.List.{List}
use Prim.Native.Nat.{ℕ, ◌*◌, ◌≤◌}
use lib.Dec.{eqb}
use lib.ListN.{length}
use Rattle.bits.specs.Programs.{Prog, run}
use Rattle.bits.proofs.Programs.{run_bind}
use Rattle.bits.proofs.Gives.{Gives, g-done, g_as, g_if}
use Rattle.laws.proofs.Tests.{by-case}
use Rattle.picture_state.specs.declared.types.{Stores.Stores, Sizes.Sizes, Matrices.Matrices, Picture.Picture}
use Rattle.picture_state.specs.State.{with_stores}
use Rattle.picture_state.specs.Result.{Result, ok, error}
use Rattle.picture_state.specs.Stop.{Stop}
use Rattle.picture.specs.Pictures as P
use Rattle.prediction.specs.Planes.{stores_bytes}
use Rattle.demands.specs.Stores.{SameBut}
use Rattle.picture_state.proofs.Exits.{OnResult, results_as, bind-results}
use Rattle.picture.proofs.Walk.{Framed, slices-results}
use Rattle.demands.proofs.OtherStores.{keeping}

-- RULES 7.2: the roles of the stores behind a picture of this type that is decoded
abbrev pub turned : ℕ → Stores → Stores
turned type t = cond (eqb type 3) t (P.roles_after_reading t)

pub same_but : {n k : ℕ} {l : List ℕ} → SameBut n k l l
same_but = record { long = refl; same = λ i w. refl }

-- what a picture leaves, from the state and the store f₀ on
pub record PictureLeaves (z : Sizes) (f₀ : P.PictureState) (decoded : Bool) (f : P.PictureState) : Type 0 where
  pub store : SameBut z.mb_size f₀.picture.stores.cur f₀.store f.store
  pub stores : decoded ≡ true → f.picture.stores ≡ turned f.picture.picture_type f₀.picture.stores
  pub others : decoded ≡ false → f.picture.stores ≡ f₀.picture.stores

module _ (s : List ℕ) (z : Sizes) (m : Matrices) (area : z.mb_size ≡ z.mb_width * z.mb_height) where
  -- a picture that leaves early
  abbrev pub Stopped : P.PictureState → Stop → Type 0
  Stopped f e = SameBut z.mb_size f.picture.stores.cur f.store e.store

  coded-left : (f : P.PictureState) → f.picture.stores.cur ≤ 2 → stores_bytes z.mb_size ≤ length f.store
      → Gives s (OnResult (PictureLeaves z f true) (Stopped f)) (P.slices_in_roles z m f)
  unfolding P.slices_in_roles
  coded-left f cur long =
      let p = f.picture in
      let q = with_stores (P.roles_while_reading p.stores) p in
      let c = keeping s (P.context_of z p) f.store area cur long m in
      let d = keeping s (P.context_of z q) f.store area cur long m in
      g_if (eqb p.picture_type 3)
      (λ b. g_as (results_as (Stopped f) {P = Framed c p} {Q = PictureLeaves z f true}
      (λ x k. record {
        store = k.store;
        stores = λ e. k.stores ∙ sym (ap (λ (t : ℕ). turned t p.stores) k.type ∙ three p.picture_type b);
        others = λ e. absurd (true≢false e);
      }))
      (slices-results c p f (record { type = refl; stores = refl; code = tt; slice = tt; block = tt; store = same_but })))
      (λ b. bind-results (Stopped f) {P = Framed d q} _
      (slices-results d q (P.with_picture q f) (record { type = refl; stores = refl; code = tt; slice = tt; block = tt; store = same_but }))
      (λ x k. g-done (record {
        store = k.store;
        stores = λ e. sym (ap (λ (t : ℕ). turned t p.stores) k.type ∙ other p.picture_type b);
        others = λ e. absurd (true≢false e);
      })))
    where
      three : (t : ℕ) → eqb t 3 ≡ true → turned t f.picture.stores ≡ f.picture.stores
      three t h = rw h refl

      other : (t : ℕ) → eqb t 3 ≡ false → turned t f.picture.stores ≡ P.roles_after_reading f.picture.stores
      other t h = rw h refl

  -- the stores' roles of x are those of f
  as_before : (f : P.PictureState) (x : Picture) → x.stores ≡ f.picture.stores → {b : Bool} → b ≡ true → (w : Result Stop P.PictureState)
      → OnResult (PictureLeaves z (P.with_picture x f) true) (Stopped (P.with_picture x f)) w → OnResult (PictureLeaves z f b) (Stopped f) w
  as_before f x e t (ok y) k =
      record { store = (rw e at k).store; stores = λ d. (rw e at k).stores refl; others = λ d. absurd (true≢false (sym t ∙ d)) }
  as_before f x e t (error q) k = rw e at k

  -- RULES 7.1 to 7.4, 8.4
  pub picture-left : (f : P.PictureState) → f.picture.stores.cur ≤ 2 → stores_bytes z.mb_size ≤ length f.store → (a : ℕ)
      → OnResult (PictureLeaves z f (P.is_decoded (run P.picture_header s a).value)) (Stopped f) (run (P.picture z m f) s a).value
  unfolding P.picture run
  picture-left f cur long a =
      let h = run P.picture_header s a in
      let x = P.with_picture_header h.value f.picture in
      let b = P.is_decoded h.value in
      rw (run_bind P.picture_header _ s a)
      (by-case (λ (q : Prog (Result Stop P.PictureState)). OnResult (PictureLeaves z f b) (Stopped f) (run q s h.at).value) b
      (λ d. as_before f x refl d (run (P.slices_in_roles z m (P.with_picture x f)) s h.at).value ((coded-left (P.with_picture x f) cur long).value h.at))
      (λ d. record { store = same_but; stores = λ k. absurd (true≢false (sym k ∙ d)); others = λ k. refl }))
