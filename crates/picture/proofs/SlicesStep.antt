-- The slices of a picture, with the turn of the stores. Assumes nothing.
use mathlib.Core.Path.{◌≡◌, refl}
use mathlib.Core.Bool.{Bool, true, false}
use mathlib.Core.List.{List}
use Prim.Native.Nat.{ℕ, zero, suc}
use lib.Dec.{eqb}
use lib.IntN.{ℤ}
use lib.ListN.{length}
use Rattle.bits.specs.declared.reader.Reader.{Reader}
use Rattle.bits.specs.Programs.{Prog, when◌then◌else◌}
use Rattle.codes.specs.DecodingTables.{tables_with}
use Rattle.tables.proofs.Made.{matrix_with}
use Rattle.picture_state.specs.declared.types.{Matrices.Matrices, Picture.Picture, PictureProgress.PictureProgress, Sizes.Sizes, SlicesProgress.SlicesProgress}
use Rattle.picture_state.specs.declared.types.Stores.{Stores}
use Rattle.picture_state.specs.State.{with_stores}
use Rattle.picture_state.specs.Result.{Result, bind_result, pure}
use Rattle.picture_state.specs.Stop.{Stop, stop_number}
use Rattle.picture.specs.Pictures as P
use Rattle.picture_state.specs.Promises.{matrices, matrices_in, result_of, RunsNumbered, StoreFits}
use Rattle.picture.specs.Promises.{picture_state_of, RefinesSlices, RefinesPicture}
use Rattle.picture_state.proofs.Results.{t-done, t-yes, t-no, r-bind, r_if-ok}
use Rattle.picture.specs.CodeResults.{progress_of}

-- what is done to the value where the way goes on
r-pure : {A B : Type 0} {q : Prog (Result Stop A)} {s : List ℕ} {from to : Reader} (h : A → B) (n : ℕ) (x : A) (l : List ℕ)
    → RunsNumbered q s from (result_of n x l) to → RunsNumbered (bind_result q (λ y. pure (h y))) s from (result_of n (h x) l) to
r-pure h zero x l r = r-bind _ r (t-done refl)
r-pure h (suc n) x l r = r_if-ok _ r

-- the roles while the slices are read are of stores that are there
pub held-during : (p : Picture) (z : Sizes) {store : List ℕ} {t : Stores}
    → t ≡ (when eqb p.picture_type 3 then p.stores else P.roles_while_reading p.stores) → StoreFits (P.context_of z p) store
    → StoreFits (P.context_of z (with_stores t p)) store
held-during p z {store} {t} e k = go (eqb p.picture_type 3) e
  where
    go : (b : Bool) → t ≡ (when b then p.stores else P.roles_while_reading p.stores) → StoreFits (P.context_of z (with_stores t p)) store
    go true e = rw e k
    go false e =
        rw e
        (record {
          across = k.across;
          down = k.down;
          size = k.size;
          stores = record {
            cur = k.stores.cur;
            fwd = k.stores.bwd;
            bwd = k.stores.bwd;
            cur-fwd = k.stores.cur-bwd;
            cur-bwd = k.stores.cur-bwd;
          };
          whole = k.whole;
        })

-- ---- the tables

-- the matrices among the tables that are made with them
pub made : (m : Matrices) {t : List ℕ} → length m.intra_quant_matrix ≡ 64 → length m.non_intra_quant_matrix ≡ 64
    → t ≡ tables_with m.intra_quant_matrix m.non_intra_quant_matrix → matrices_in t ≡ m
made m i o e =
    let with_them = matrix_with m.intra_quant_matrix m.non_intra_quant_matrix i o in
    rw e (λ k. matrices (with_them true k) (with_them false k))

-- ---- the picture

-- the picture's state while its slices are read with these roles of the stores, and before
abbrev during : Stores → Picture → List ℤ → List ℕ → P.PictureState
during t p left store = P.picture_state (with_stores t p) left store

-- a picture whose slices were read, before the stores turn; the start code before them is as the code has it
coded_with : (p : Picture) (z : Sizes) (t : Stores) (m : Matrices) (left : List ℤ) (store : List ℕ) {s : List ℕ} {from : Reader}
    (r : SlicesProgress) {left₁ : List ℤ} {store₁ : List ℕ} {first : ℤ} → let g = P.context_of z (with_stores t p) in
    first ≡ p.start_code → RefinesSlices (P.slices g m (picture_state_of g first p.slice left store)) g s from r left₁ store₁
    → RefinesPicture (P.slices g m (during t p left store)) s from (progress_of g t r) left₁ store₁
coded_with p z t m left store r f w = record { runs = rw f at w.runs; inside = w.reads.inside }

-- one with other roles of the stores
abbrev roled : Stores → PictureProgress → PictureProgress
roled t r = record { reader = r.reader; picture = with_stores t r.picture; stop = r.stop }

module _ (z : Sizes) (m : Matrices) (p : Picture) (left : List ℤ) (store : List ℕ) {s : List ℕ} {from : Reader} {left₁ : List ℤ}
    {store₁ : List ℕ} (r : PictureProgress) where
  coded-b : eqb p.picture_type 3 ≡ true → RefinesPicture (P.slices (P.context_of z p) m (P.picture_state p left store)) s from r left₁ store₁
      → RefinesPicture (P.slices_in_roles z m (P.picture_state p left store)) s from r left₁ store₁
  unfolding P.slices_in_roles
  coded-b h c = record { runs = t-yes _ h c.runs; inside = c.inside }

  coded-other : eqb p.picture_type 3 ≡ false → {before after : Stores} → before ≡ P.roles_while_reading p.stores → after ≡ P.roles_after_reading p.stores
      → RefinesPicture (P.slices (P.context_of z (with_stores before p)) m (during before p left store)) s from r left₁ store₁
      → RefinesPicture (P.slices_in_roles z m (P.picture_state p left store)) s from (roled after r) left₁ store₁
  unfolding P.slices_in_roles
  coded-other h e f c = record {
    runs = rw f
        (t-no _ h
        (r-pure (λ f. P.with_picture (with_stores (P.roles_after_reading p.stores) f.picture) f) (stop_number r.stop)
        (P.picture_state r.picture left₁ store₁) store₁
        (rw e at c.runs)));
    inside = c.inside;
  }

pub coded-of : (z : Sizes) {m : Matrices} (tables : List ℕ) → matrices_in tables ≡ m → (p : Picture) (left : List ℤ) (store : List ℕ) {s : List ℕ}
    {from : Reader} (r : SlicesProgress) {left₁ : List ℤ} {store₁ : List ℕ} {before after : Stores} {first : ℤ} {q : PictureProgress}
    → let g = P.context_of z (with_stores before p) in
    before ≡ (when eqb p.picture_type 3 then p.stores else P.roles_while_reading p.stores)
    → after ≡ (when eqb p.picture_type 3 then p.stores else P.roles_after_reading p.stores) → first ≡ p.start_code → q ≡ progress_of g after r
    → RefinesSlices (P.slices g (matrices_in tables) (picture_state_of g first p.slice left store)) g s from r left₁ store₁
    → RefinesPicture (P.slices_in_roles z m (P.picture_state p left store)) s from q left₁ store₁
coded-of z {m} tables k p left store {s} {from} r {left₁} {store₁} {before} {after} d a f h w =
    rw h (go (eqb p.picture_type 3) refl d a)
  where
    read : RefinesPicture (P.slices (P.context_of z (with_stores before p)) m (during before p left store)) s from
        (progress_of (P.context_of z (with_stores before p)) before r) left₁ store₁
    read = coded_with p z before m left store r f (rw k at w)

    go : (b : Bool) → eqb p.picture_type 3 ≡ b → before ≡ (when b then p.stores else P.roles_while_reading p.stores)
        → after ≡ (when b then p.stores else P.roles_after_reading p.stores)
        → RefinesPicture (P.slices_in_roles z m (P.picture_state p left store)) s from
        (progress_of (P.context_of z (with_stores before p)) after r) left₁ store₁
    go true y d a = rw a (coded-b z m p left store (progress_of (P.context_of z p) p.stores r) y (rw d at read))
    go false y d a = coded-other z m p left store (progress_of (P.context_of z (with_stores before p)) before r) y d a read
