-- 2.4.4.2, 2.4.4.3: the prediction from one reference. Assumes nothing.
use mathlib.Core.Path.{◌≡◌, refl, sym, ap, ◌∙◌, subst}
use mathlib.Core.Bool.{Bool, true, false, cond, ◌&&◌}
use mathlib.Core.List.{List, [], ◌∷◌}
use mathlib.Core.Logic.{◌⊎◌, inl, inr}
use Prim.Native.Nat.{ℕ, ◌+◌, ◌*◌}
use borrow.Author.Tests.{ltb-true, leb-true}
use borrow.Rule.Slice.PartMut.{mid_of, put_mid}
use lib.Dec.{ltb, leb}
use lib.IntN.{ℤ, pos, ◌+ℤ◌}
use lib.ListN.{get_or}
use lib.Signed.{le_z, ◌≤ℤ◌}
use Rattle.laws.proofs.Tests.{both, each}
use Rattle.laws.proofs.Ints.{v, le_yes, le-by}
use Rattle.laws.proofs.Lists.{rows_alike}
use Rattle.prediction.specs.declared.position.{Macroblock.Macroblock, BlockPosition.BlockPosition}
use Rattle.prediction.specs.declared.planes.Plane.{Plane}
use Rattle.prediction.specs.declared.planes.Plane.TheVariants.{Y, Cr, Cb}
use Rattle.std.specs.Prelude.{Ok, Err}
use Rattle.prediction.specs.Planes.{Predicted}
use Rattle.prediction.specs.Predict.{BlockInPlane, block_position_of, macroblock_at, width, height, bytes}
use Rattle.prediction.specs.Predict.{address, prediction_source, predicted, chroma, in_halves}
use Rattle.prediction.specs.Planes.{PlaneAfter, of_plane, block_size, macroblocks, plane_start, predict_from_source, and_then_plane, predict_plane_from_store}
use Rattle.prediction.specs.Planes.{predicted_planes}
use Rattle.prediction.specs.Samples.{stored_sample}
use Rattle.prediction.specs.Standard.{whole_samples, chrominance, pel, interpolated, InPicture}
use Rattle.prediction.proofs.Standard as L
use Rattle.picture_state.specs.Result.{Result, ok, error, and_then}
use Rattle.picture_state.specs.Stop.{Stop}
use Rattle.macroblock_head.specs.Predictions as P
use Rattle.standard.specs.Standard as S
use Rattle.standard.specs.Standard.Prelude.{Forbidden}
use Rattle.standard.proofs.Agreement.{ResultMeets}
use Rattle.standard.proofs.Related.{motion_of}

pub also_meets : {A B C D : Type 0} {R : A → B → Type 0} (Q : C → D → Type 0) (w : Result Forbidden A) (u : Result Stop B)
    (f : A → Result Forbidden C) (k : B → Result Stop D)
    → ResultMeets R w u
    → ((x : A) (y : B) → R x y → ResultMeets Q (f x) (k y)) → ResultMeets Q (and_then w f) (and_then u k)
unfolding and_then
also_meets Q (ok x) (ok y) f k h m = m x y h
also_meets Q (ok x) (error d) f k h m = absurd h
also_meets Q (error d) u f k h m = tt

-- a refusal ends the prediction and leaves with 9
refused-next : (n : ℕ) (o : PlaneAfter) (f : List ℕ → PlaneAfter)
    → P.unless_refused n (and_then_plane o f) ≡ and_then (P.unless_refused n o) (λ l. P.unless_refused n (f l))
unfolding P.unless_refused and_then_plane and_then
refused-next n o f = go o.answer
  where
    answered : Predicted → PlaneAfter
    answered a = record { plane = o.plane; h = o.h; v = o.v; store = o.store; answer = a }

    go : (a : Predicted) → P.unless_refused n (and_then_plane (answered a) f) ≡ and_then (P.unless_refused n (answered a)) (λ l. P.unless_refused n (f l))
    go (Ok _) = refl
    go (Err _) = refl

size_of : (q : Plane) → (block_size q ≡ 8) ⊎ (block_size q ≡ 16)
size_of Y = inr refl
size_of Cr = inl refl
size_of Cb = inl refl

le_is : (a b : ℤ) → le_z a b ≡ true → a ≤ℤ b
le_is a b e = le-by (v a) (v b) (le_yes (v a) (v b) e)

averaged : (t : Bool) (a b : ℕ) → stored_sample t a b ≡ cond t (interpolated a b) b
averaged true a b = L.two-rounded a b
averaged false a b = refl

-- the planes of Cr and Cb behind that of Y
abbrev rest : S.Coding → Macroblock → ℕ → Bool → ℤ → ℤ → List ℕ → Result Forbidden (List ℕ)
rest g m k average right down l =
    and_then (S.predicted_plane g m k average Cr (chrominance right) (chrominance down) l)
    (S.predicted_plane g m k average Cb (chrominance right) (chrominance down))

-- the block at p, referring to samples inside
module _ (p : BlockPosition) (size : (p.size ≡ 8) ⊎ (p.size ≡ 16)) (right down : ℤ) (e : S.in_picture p right down ≡ true) where
  abbrev is_place : Bool
  is_place = ltb p.row p.down && ltb p.column p.across && leb p.across 256 && leb p.down 256

  parts : (is_place ≡ true) × (S.inside (p.row * p.size) p.size down (height p) ≡ true) × (S.inside (p.column * p.size) p.size right (width p)
      ≡ true)
  parts =
      let t = both (is_place && S.inside (p.row * p.size) p.size down (height p)) _ e in
      let u = both is_place _ t.0 in
      (u.0, u.1, t.1)

  place : (k : ℕ) → get_or (ltb p.row p.down ∷ ltb p.column p.across ∷ leb p.across 256 ∷ leb p.down 256 ∷ []) k true ≡ true
  place = each (ltb p.row p.down) (ltb p.column p.across ∷ leb p.across 256 ∷ leb p.down 256 ∷ []) parts.0

  placed : BlockInPlane p
  placed = record {
    size = size;
    inside = record {
      across = leb-true p.across 256 (place 2);
      down = leb-true p.down 256 (place 3);
      row = ltb-true p.row p.down (place 0);
      column = ltb-true p.column p.across (place 1);
    };
  }

  inside : InPicture p right down
  inside =
      let rows = both (le_z (pos 0) (pos (p.row * p.size) +ℤ whole_samples down)) _ parts.1 in
      let columns = both (le_z (pos 0) (pos (p.column * p.size) +ℤ whole_samples right)) _ parts.2 in
      record { top = le_is _ _ rows.0; bottom = le_is _ _ rows.1; left = le_is _ _ columns.0; right = le_is _ _ columns.1 }

  pels-same : (s d : List ℕ) (average : Bool)
      → predicted p s d right down average (L.row placed right down inside * width p + L.column placed right down inside) ≡ S.pels p s d right down average
  unfolding predicted
  pels-same s d average =
      rows_alike d (address p) (width p) p.size _ _ p.size (λ y x a b.
      ap (stored_sample average (get_or d (address p + y * width p + x) 0)) (L.sample-is placed right down inside s y x)
      ∙ averaged average (get_or d (address p + y * width p + x) 0) (pel s (width p) right down (p.row * p.size + y) (p.column * p.size + x)))

-- one plane
plane_meets : (g : S.Coding) (n : ℕ) (m : Macroblock) (k : ℕ) (average : Bool) (q : Plane) (right down : ℤ) (l : List ℕ)
    → ResultMeets ◌≡◌ (S.predicted_plane g m k average q right down l)
    (P.unless_refused n (predict_plane_from_store m k g.context.stores.cur average q right down l))
unfolding S.predicted_plane P.unless_refused predict_from_source
plane_meets g n m k average q right down l = go (S.in_picture p right down) refl
  where
    p : BlockPosition
    p = block_position_of m (block_size q)

    from : ℕ
    from = plane_start k q (macroblocks m)

    to : ℕ
    to = plane_start g.context.stores.cur q (macroblocks m)

    go : (t : Bool) → S.in_picture p right down ≡ t
        → ResultMeets ◌≡◌ (cond t (ok (put_mid to (bytes p) l (S.pels p (mid_of from (bytes p) l) (mid_of to (bytes p) l) right down average))) S.forbidden)
        (P.unless_refused n (of_plane q right down (predict_from_source (prediction_source p right down) p from to right down average l)))
    go true e =
        rw (L.is-copied (placed p (size_of q) right down e) right down (inside p (size_of q) right down e))
        (ap (put_mid to (bytes p) l) (sym (pels-same p (size_of q) right down e (mid_of from (bytes p) l) (mid_of to (bytes p) l) average)))
    go false e = tt

-- the three planes
pub from_meets : (g : S.Coding) (address k : ℕ) (d : S.Direction) (set : Bool) (x : S.Vector) (average : Bool) (l : List ℕ)
    → ResultMeets ◌≡◌ (S.predicted_from g address k d x average l) (P.predict_from g.context address k (motion_of d set x) average l)
unfolding S.predicted_from P.predict_from predicted_planes
from_meets g address k d set x average l =
    let m = macroblock_at g.context.sizes.mb_width g.context.sizes.mb_height address in
    let right = in_halves d.full_pel_vector x.right in
    let down = in_halves d.full_pel_vector x.down in
    let plane = plane_meets g address m k average in
    let ours = predict_plane_from_store m k g.context.stores.cur average in
    subst (ResultMeets ◌≡◌ (S.predicted_from g address k d x average l))
    (sym (refused-next address (ours Y right down l) (λ s. and_then_plane (ours Cr (chroma right) (chroma down) s) (ours Cb (chroma right) (chroma down))))) (
    also_meets ◌≡◌ (S.predicted_plane g m k average Y right down l) (P.unless_refused address (ours Y right down l)) _ _ (plane Y right down l) (λ a b e.
    subst (λ (b : List ℕ). ResultMeets ◌≡◌ (rest g m k average right down a)
    (P.unless_refused address (and_then_plane (ours Cr (chroma right) (chroma down) b) (ours Cb (chroma right) (chroma down))))) e (
    subst (ResultMeets ◌≡◌ (rest g m k average right down a))
    (sym (refused-next address (ours Cr (chroma right) (chroma down) a) (ours Cb (chroma right) (chroma down)))) (
    rw (L.chrominance-is right, L.chrominance-is down)
    (also_meets ◌≡◌ (S.predicted_plane g m k average Cr (chrominance right) (chrominance down) a)
    (P.unless_refused address (ours Cr (chrominance right) (chrominance down) a)) _ _
    (plane Cr (chrominance right) (chrominance down) a) (λ a b e.
    subst (λ (b : List ℕ). ResultMeets ◌≡◌ (S.predicted_plane g m k average Cb (chrominance right) (chrominance down) a)
    (P.unless_refused address (ours Cb (chrominance right) (chrominance down) b))) e
    (plane Cb (chrominance right) (chrominance down) a)))))))
