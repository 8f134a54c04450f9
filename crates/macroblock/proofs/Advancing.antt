-- On to a later macroblock, as the code goes. Assumes nothing.
use mathlib.Core.Path.{◌≡◌, refl}
use mathlib.Core.Bool.{false}
use mathlib.Core.List.{List}
use Prim.Native.Nat.{ℕ, ◌+◌, ◌-◌, ◌*◌, ◌≤◌, ◌<◌}
use native.Mathlib.Omega.{arith}
use borrow.Author.Tests.{lt-ltb, le-ltb}
use lib.Dec.{T, eqb}
use lib.IntN.{ℤ, pos, nat_abs, ◌+ℤ◌}
use lib.Signed.{non_neg, le_z}
use mir.Syntax.{w32, w64}
use mir.Val.{Fits, to_z, of_z}
use mir.Facts.{to_z-of_z}
use Rattle.laws.proofs.Ints.{Dif, up, dn, v, lit, neg, ◌⊕◌, le-no, yes_le, fits_by, cast-by, cast_is}
use Rattle.laws.proofs.Tests.{by-case}
use Rattle.std.specs.Prelude.{Ok, Err}
use Rattle.prediction.specs.Planes.{Predicted}
use Rattle.prediction.specs.Predict.{half_sample_outside}
use Rattle.picture_state.specs.declared.types.{Context.Context, Slice.Slice}
use Rattle.picture_state.specs.Possible.{PossibleSlice}
use Rattle.picture_state.specs.Result.{and_then}
use Rattle.picture_state.proofs.Results.{numbered-ok, numbered_then}
use Rattle.macroblock_head.specs.Predictions.{predict_skipped}
use Rattle.macroblock.specs.Macroblocks.{skip_reset, advance}
use Rattle.picture_state.specs.State.{with_address}
use Rattle.picture_state.specs.Promises.{StoreFits, AddressInPicture}
use Rattle.macroblock_head.specs.Promises.{PossibleMotions, RefinesPrediction}
use Rattle.macroblock.specs.Promises.{AddressAfterBound, RefinesAdvance}
use Rattle.picture_state.proofs.Possible.{between-of, between-by}
use Rattle.picture_state.proofs.Kept.{motions-kept, reset-kept}
use Rattle.macroblock_head.proofs.Kept.{still_kept}
use Rattle.picture_state.proofs.Ready.{size-most}

-- ---- what a skip resets

module _ (g : Context) (x : Slice) where
  pub skip-address : (skip_reset g x).macroblock_address ≡ x.macroblock_address
  unfolding skip_reset
  skip-address = by-case (λ (y : Slice). y.macroblock_address ≡ x.macroblock_address) (eqb g.picture_type 2) (λ e. refl) (λ e. refl)

  skip-possible : PossibleSlice x → PossibleSlice (skip_reset g x)
  unfolding skip_reset
  skip-possible k =
      by-case PossibleSlice (eqb g.picture_type 2)
      (λ e. motions-kept (reset-kept k) (still_kept k).forward k.backward) (λ e. reset-kept k)

  pub skip-motions : PossibleSlice x → PossibleMotions (skip_reset g x)
  skip-motions k = let p = skip-possible k in record { forward = p.forward; backward = p.backward }

-- ---- the address that is reached

here-at : {g : Context} {store : List ℕ} → StoreFits g store → {a : ℤ} {p m : ℕ} → Dif a p m → m ≤ p → p < m + g.sizes.mb_size → AddressInPicture g a
here-at k d low high =
    record { natural = (cast-by {w = w64} d low (omega (arith, size-most k))).0; below = omega (arith, cast_is d low, k.size) }

moved-possible : {x : Slice} → PossibleSlice x → {a : ℤ} {p m : ℕ} → Dif a p m → m ≤ p + 1
    → p ≤ m + 402700000 → PossibleSlice (with_address a x)
moved-possible k d low high =
    record {
      scale = k.scale;
      address = between-by 1 402700000 d low high;
      forward = k.forward;
      backward = k.backward;
      predictors = k.predictors;
    }

module _ (g : Context) (n : ℕ) (x : Slice) {store : List ℕ} (k : StoreFits g store) (p : PossibleSlice x)
    (h : le_z (pos g.sizes.mb_size) (x.macroblock_address +ℤ pos n) ≡ false) where
  abbrev a : ℤ
  a = x.macroblock_address

  bounds : (dn a ≤ up a + 1) × (up a + n < dn a + g.sizes.mb_size) × (g.sizes.mb_size ≤ 65536)
  bounds = (omega (arith, between-of 1 402700000 (v a) p.address), omega (arith, le-no (lit g.sizes.mb_size) (v a ⊕ lit n) h), size-most k)

  pub reaches : {m : ℕ} → m ≤ n + 1 → AddressAfterBound a m
  reaches {m} l =
      record { from = yes_le (neg (lit 1)) (v a) (omega (arith, bounds)); to = yes_le (v a ⊕ lit m) (lit 402700000) (omega (arith, bounds)) }

  -- the next address, which the code makes a natural number
  next_low : dn a + 0 ≤ up a + 1
  next_low = omega (arith, bounds)

  pub next-read : {y : Slice} → y ≡ with_address (a +ℤ pos 1) x → to_z w32 (of_z w32 y.macroblock_address) ≡ a +ℤ pos 1
  next-read e = rw e (to_z-of_z (fits_by {w = w32} (v a ⊕ lit 1) (omega (arith, bounds)) (omega (arith, bounds))))

  pub next_cast : T (non_neg (a +ℤ pos 1)) × Fits w64 (nat_abs (a +ℤ pos 1))
  next_cast = cast-by {w = w64} (v a ⊕ lit 1) next_low (omega (arith, bounds))

  pub skip-room : 2 ≤ n → nat_abs (a +ℤ pos 1) + (n - 1) ≤ g.sizes.mb_width * g.sizes.mb_height
  skip-room m = omega (arith, cast_is (v a ⊕ lit 1) next_low, bounds, k.size)

  -- ---- on by 1

  pub advance-one : n < 2 → {y : Slice} → y ≡ with_address (a +ℤ pos 1) x → RefinesAdvance g n x store y 0 store
  unfolding advance
  advance-one l e =
      record {
        is = λ left. rw (lt-ltb n 2 l, e);
        possible = λ q. rw e (moved-possible q (v a ⊕ lit 1) (omega (arith, bounds)) (omega (arith, bounds)));
        here = λ z m. rw e (here-at k (v a ⊕ lit 1) (omega (arith, bounds)) (omega (arith, le-no (lit g.sizes.mb_size) (v a ⊕ lit 1) m)));
      }

  -- ---- over skipped macroblocks

  module _ (l : 2 ≤ n) {s : Slice} (is : s ≡ skip_reset g x) {first : ℕ} (at : first ≡ nat_abs (a +ℤ pos 1)) {r : Predicted} {store₁ : List ℕ}
      (told : RefinesPrediction (predict_skipped g s first (n - 1) store) r store₁) where
    pub advance-refused : r ≡ Err half_sample_outside → RefinesAdvance g n x store s 9 store₁
    unfolding advance
    advance-refused e =
        let t = rw (is, at, e) at told.is in
        record {
          is = λ left. rw (le-ltb n 2 l) (numbered_then _ _ t);
          possible = λ q. rw is (skip-possible g x q);
          here = λ z m. let w : ◌≡◌ {A = ℕ} 9 0 = z in let o : ⊥ = omega arith in absurd o;
        }

    pub advance-on : r ≡ Ok tt → {y : Slice} → y ≡ with_address (s.macroblock_address +ℤ pos n) s → RefinesAdvance g n x store y 0 store₁
    unfolding advance and_then
    advance-on e q =
        let t = numbered-ok (predict_skipped g (skip_reset g x) (nat_abs (a +ℤ pos 1)) (n - 1) store) (rw (is, at, e) at told.is) in
        let y-is : _ ≡ with_address (a +ℤ pos n) (skip_reset g x) = rw (is, skip-address g x) at q in
        record {
          is = λ left. rw (le-ltb n 2 l, t, q, is);
          possible = λ q. rw y-is (moved-possible (skip-possible g x q) (v a ⊕ lit n) (omega (arith, bounds)) (omega (arith, bounds)));
          here = λ z m. rw y-is (here-at k (v a ⊕ lit n) (omega (arith, bounds)) (omega (arith, bounds)));
        }
