-- What a possible state of a picture keeps to: the tests of specs/Possible.antt as facts, both ways. Assumes nothing.
use mathlib.Core.Path.{◌≡◌}
use mathlib.Core.Bool.{true}
use mathlib.Core.List.{[], ◌∷◌}
use Prim.Native.Nat.{ℕ, ◌+◌, ◌≤◌}
use native.Mathlib.Omega.{arith}
use borrow.Author.Tests.{leb-true, eqb-false, le-leb, ne_eqb, not-true}
use lib.IntN.{ℤ, pos, neg_ℤ}
use lib.Signed.{le_z}
use Rattle.laws.proofs.Each.{all-at, all-by}
use Rattle.laws.proofs.Tests.{both, each}
use Rattle.laws.proofs.Ints.{Dif, v, lit, neg, le_yes, yes_le, le-by, lt_by, le_of, lt_of}
use Rattle.motion.specs.Displacement.{InRange}
use Rattle.picture_state.specs.declared.types.{Motion.Motion, Stores.Stores, Slice.Slice, Picture.Picture}
use Rattle.picture_state.specs.Possible.{PossibleStores, PossibleMotion, PossibleSlice, PossiblePicture}
use Rattle.picture_state.specs.Possible.{between, possible_stores, possible_motion, possible_slice, possible_picture}

-- ---- ranges

module _ {z : ℤ} {p n : ℕ} (low high : ℕ) (d : Dif z p n) where
  pub between-of : between (neg_ℤ (pos low)) (pos high) z ≡ true → (n ≤ p + low) × (p ≤ n + high)
  between-of e =
      let b = both (le_z (neg_ℤ (pos low)) z) (le_z z (pos high)) e in
      (omega (arith, le_yes (neg (lit low)) d b.0), omega (arith, le_yes d (lit high) b.1))

  pub between-by : n ≤ p + low → p ≤ n + high → between (neg_ℤ (pos low)) (pos high) z ≡ true
  between-by h k = rw (yes_le (neg (lit low)) d (omega arith), yes_le d (lit high) (omega arith))

range-of : (z : ℤ) → between (neg_ℤ (pos 1024)) (pos 1023) z ≡ true → InRange 64 z
range-of z e = let b = between-of 1024 1023 (v z) e in record { low = le-by (neg (lit 1024)) (v z) (omega arith); high = lt_by (v z) (lit 1024) (omega arith) }

range-by : {z : ℤ} → InRange 64 z → between (neg_ℤ (pos 1024)) (pos 1023) z ≡ true
range-by {z} i = between-by 1024 1023 (v z) (omega (arith, le_of (neg (lit 1024)) (v z) i.low)) (omega (arith, lt_of (v z) (lit 1024) i.high))

-- ---- the parts of a state

pub stores-of : (t : Stores) → possible_stores t ≡ true → PossibleStores t
stores-of t e =
    let h = each _ (_ ∷ _ ∷ _ ∷ _ ∷ _ ∷ []) e in
    record {
      cur = leb-true _ _ (h 0);
      fwd = leb-true _ _ (h 1);
      bwd = leb-true _ _ (h 2);
      cur-fwd = eqb-false _ _ (not-true _ (h 3));
      cur-bwd = eqb-false _ _ (not-true _ (h 4));
      fwd-bwd = eqb-false _ _ (not-true _ (h 5));
    }

pub stores-by : {t : Stores} → PossibleStores t → possible_stores t ≡ true
stores-by k =
    rw (le-leb _ _ k.cur, le-leb _ _ k.fwd, le-leb _ _ k.bwd, ne_eqb _ _ k.cur-fwd, ne_eqb _ _ k.cur-bwd, ne_eqb _ _ k.fwd-bwd)

pub motion-of : (m : Motion) → possible_motion m ≡ true → PossibleMotion m
motion-of m e =
    let x = each _ (_ ∷ _ ∷ []) e in
    record { size = leb-true _ _ (x 0); h = range-of m.h (x 1); v = range-of m.v (x 2) }

pub motion-by : {m : Motion} → PossibleMotion m → possible_motion m ≡ true
motion-by k = rw (le-leb _ _ k.size, range-by k.h, range-by k.v)

pub slice_of : (s : Slice) → possible_slice s ≡ true → PossibleSlice s
slice_of s e =
    let h = each _ (_ ∷ _ ∷ _ ∷ _ ∷ []) e in
    record {
      scale = leb-true _ _ (h 0);
      address = h 1;
      forward = motion-of s.motion_forward (h 2);
      backward = motion-of s.motion_backward (h 3);
      predictors = all-at _ 3 (h 4);
    }

pub slice-by : {s : Slice} → PossibleSlice s → possible_slice s ≡ true
slice-by k = rw (le-leb _ _ k.scale, k.address, motion-by k.forward, motion-by k.backward, all-by _ 3 k.predictors)

pub picture-of : (p : Picture) → possible_picture p ≡ true → PossiblePicture p
picture-of p e =
    let h = each _ (_ ∷ _ ∷ _ ∷ []) e in
    record { type = leb-true _ _ (h 0); code = h 1; stores = stores-of p.stores (h 2); slice = slice_of p.slice (h 3) }

pub picture-by : {p : Picture} → PossiblePicture p → possible_picture p ≡ true
picture-by k = rw (le-leb _ _ k.type, k.code, stores-by k.stores, slice-by k.slice)
