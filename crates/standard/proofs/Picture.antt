-- 2.4.2.5: a picture. Assumes RULES Q1.
use mathlib.Core.Path.{◌≡◌, refl, sym, ap, ◌∙◌, subst}
use mathlib.Core.Bool.{Bool, true, false, cond, true≢false}
use mathlib.Core.List.{List}
use Prim.Native.Nat.{ℕ, ◌≤◌}
use lib.Dec.{eqb}
use lib.IntN.{pos}
use lib.ListN.{length}
use Rattle.bits.specs.Bounds.{longest_stream}
use Rattle.bits.specs.Programs.{Prog, run, bind, eq_z}
use Rattle.bits.proofs.Programs.{run_bind}
use Rattle.picture_state.specs.declared.types.{Sizes.Sizes, Matrices.Matrices, Stores.Stores, Picture.Picture}
use Rattle.picture_state.specs.State.{with_stores, fresh_block}
use Rattle.picture_state.specs.Result.{Result, error, bind_result, pure}
use Rattle.picture_state.specs.Stop.{Stop}
use Rattle.picture.specs.Pictures as P
use Rattle.standard.specs.Standard as S
use Rattle.standard.specs.Standard.Prelude.{Forbidden}
use Rattle.standard.proofs.Agreement.{Agree, a-same, a-pure, a-bind, a-after, left-forbidden}
use Rattle.picture_state.proofs.Runs.{run_lift}
use Rattle.standard.proofs.Related.{Rule, coding}
use Rattle.standard.proofs.Slice.{Begun}
use Rattle.standard.proofs.Slices.{slices-agree}
use Rattle.standard.proofs.Header.{header-agrees}

-- the picture's header, its pels, the stores with their roles for the next picture, nothing left over, and a start code that is no picture's
pub record RefinesDecoded (d : S.Decoded) (f : P.PictureState) : Type 0 where
  pub pels : f.store ≡ d.pels
  pub stores : f.picture.stores ≡ d.stores
  pub type : f.picture.picture_type ≡ d.header.picture_coding_type
  pub begun : Begun d.header.forward d.header.backward f.picture.slice
  pub left : f.block_data ≡ fresh_block
  pub code : eq_z f.picture.start_code (pos 0) ≡ false

module _ (rule : Rule) (s : List ℕ) (long : length s ≤ longest_stream) (z : Sizes) (m : Matrices) where
  -- behind the header
  abbrev theirs : S.Direction → S.Direction → ℕ → Stores → Stores → List ℕ → Prog (Result Forbidden S.Decoded)
  theirs f b type before after l =
      bind_result (S.slices (coding rule (record { picture_type = type; sizes = z; stores = before }) m f b) l) (λ x.
      pure (record { header = record { picture_coding_type = type; forward = f; backward = b }; stores = after; pels = x }))

  coded-agrees : (f b : S.Direction) (y : P.PictureState) (e : ℕ) → Begun f b y.picture.slice → y.block_data ≡ fresh_block
      → Agree RefinesDecoded s e (theirs f b y.picture.picture_type (S.references y.picture.picture_type y.picture.stores)
      (S.roles_after y.picture.picture_type y.picture.stores) y.store) (P.slices_in_roles z m y)
  unfolding P.slices_in_roles
  coded-agrees f b y e begun none = go (eqb q.picture_type 3)
    where
      q : Picture
      q = y.picture

      t : Stores
      t = q.stores

      q' : Picture
      q' = with_stores (P.roles_while_reading t) q

      go : (x : Bool) → Agree RefinesDecoded s e
          (theirs f b q.picture_type (cond x t (P.roles_while_reading t)) (cond x t (P.roles_after_reading t)) y.store)
          (cond x (P.slices (P.context_of z q) m y)
          (bind_result (P.slices (P.context_of z q') m (P.with_picture q' y)) (λ f. pure (P.with_picture (with_stores (P.roles_after_reading t) f.picture) f))))
      go true =
          a-after _ (slices-agree rule (P.context_of z q) m f b s long q.picture_type t y e begun none refl refl)
          (λ l k r. record {
            pels = r.shown.pels;
            stores = r.shown.stores;
            type = r.shown.type;
            begun = r.shown.begun;
            left = r.shown.left;
            code = r.code;
          })
      go false =
          a-bind _ _ (slices-agree rule (P.context_of z q') m f b s long q.picture_type (P.roles_while_reading t) (P.with_picture q' y) e begun none refl refl)
          (λ l k e r. a-pure (record {
            pels = r.shown.pels;
            stores = refl;
            type = r.shown.type;
            begun = r.shown.begun;
            left = r.shown.left;
            code = r.code;
          }))

  -- 2.4.2.5, 2.4.4: the standard's picture() and ours
  pub picture-agrees : (y : P.PictureState) (df db : S.Direction) (a : ℕ) → Begun df db y.picture.slice → y.block_data ≡ fresh_block
      → Agree RefinesDecoded s a (S.picture rule.rules z m y.picture.stores df db y.store) (P.picture z m y)
  unfolding S.picture P.picture
  picture-agrees y df db a b none =
      let p = y.picture in
      let x : P.PictureHeader → P.PictureState = λ h. P.with_picture (P.with_picture_header h p) y in
      let K : Bool → P.PictureHeader → Prog (Result Stop P.PictureState) = λ t h. cond t (P.slices_in_roles z m (x h)) (pure (x h)) in
      let K' : P.PictureHeader → Prog (Result Stop P.PictureState) = λ h. K (P.is_decoded h) h in
      a-same (run_lift P.picture_header K' s a ∙ sym (run_bind P.picture_header K' s a)) (
      a-bind _ _ (header-agrees s p df db b a) (λ h k e r.
      let their : ℕ → Prog (Result Forbidden S.Decoded) = λ type.
      theirs h.forward h.backward type (S.references type p.stores) (S.roles_after type p.stores) y.store in
      a-same (ap (λ (t : Bool). run (K t k) s e) (sym r.decoded)) (
      subst (λ (type : ℕ). Agree RefinesDecoded s e (their type) (P.slices_in_roles z m (x k))) r.type (
      coded-agrees h.forward h.backward (x k) e r.begun none))))

  -- so a picture that conforms never ends with 8 or 9 (RULES Q8, Q9)
  pub never-leaves : (y : P.PictureState) (df db : S.Direction) (a : ℕ) → Begun df db y.picture.slice → y.block_data ≡ fresh_block
      → S.conforms (run (S.picture rule.rules z m y.picture.stores df db y.store) s a).value ≡ true
      → (q : Stop) → (run (P.picture z m y) s a).value ≡ error q → ⊥
  never-leaves y df db a b none c q e = absurd (true≢false (sym c ∙ left-forbidden (picture-agrees y df db a b none) q e))
