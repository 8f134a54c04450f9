-- The planes of a macroblock: where they lie in the lent memory, and how their prediction goes on from one to the next.
use mathlib.Core.Path.{◌≡◌, refl, ap, ◌∙◌}
use mathlib.Core.Bool.{Bool, true, false, cond}
use mathlib.Core.List.{List}
use mathlib.Core.Logic.{◌⊎◌, inl, inr}
use Prim.Native.Nat.{ℕ, suc, ◌+◌, ◌*◌, ◌/◌, ◌%◌, ◌≤◌, ◌<◌}
use native.Mathlib.Decide.{dec_lt}
use native.Mathlib.Nat.{mul-le-mul, mul-le-mul_right}
use native.Mathlib.Omega.{arith}
use borrow.Author.Rules.{sfits_of}
use borrow.Author.Tests.{le-ltb}
use lib.Dec.{eqb, ltb}
use lib.IntN.{ℤ, pos, negsuc, nat_abs}
use Rattle.laws.specs.Signed.{half_toward_zero}
use Rattle.laws.proofs.Nums.{neg_abs}
use Rattle.prediction.specs.declared.position.{Macroblock.Macroblock}
use Rattle.prediction.specs.declared.planes.Plane.{Plane}
use Rattle.prediction.specs.declared.planes.Plane.TheVariants.{Y, Cr, Cb}
use mir.Facts.{to_z-of_z}
use Rattle.std.proofs.lemmas.Bool.{false≢true}
use Rattle.std.specs.Prelude.{Ok, Err, IsErr}
use Rattle.prediction.specs.Planes.{Predicted, macroblocks, block_size, plane_of, plane_length, plane_start, PlaneAfter}
use Rattle.prediction.specs.Planes.{and_then_plane, predict_plane_from_store, predicted_planes}
use Rattle.prediction.specs.Predict.{half_sample_outside, MacroblockInPicture, BlockInPlane, block_position_of, bytes, chroma}
use Rattle.prediction.specs.Writers.{luma_address, chroma_address, block_width, block_address}
use Rattle.prediction.proofs.Places.{at_place, block_in}
use Rattle.prediction.specs.Planes.{stores_bytes}

-- the start of a store
pub store-most : (k n : ℕ) → k < 3 → k * (384 * n) ≤ 768 * n
store-most k n h = let r : k ≤ 2 = omega arith in omega (arith, mul-le-mul_right (384 * n) r)

module _ {m : Macroblock} (i : MacroblockInPicture m) where
  pub count_most : macroblocks m ≤ 65536
  count_most = mul-le-mul i.across i.down

  pub placed : (q : Plane) → BlockInPlane (block_position_of m (block_size q))
  placed Y = record { size = inr refl; inside = i }
  placed Cr = record { size = inl refl; inside = i }
  placed Cb = record { size = inl refl; inside = i }

  -- the four blocks of Y, and the one of Cr and Cb, lie in their planes
  pub luma_in : (block : ℕ) → luma_address (m.across * 16) m.row m.column block + 7 * (m.across * 16) + 8 ≤ 256 * macroblocks m
  luma_in block =
      let u : block / 2 % 2 ≤ 1 = omega arith in
      let t : block % 2 ≤ 1 = omega arith in
      omega (
        arith,
        at_place (m.row * 16 + block / 2 % 2 * 8) (m.column * 16 + block % 2 * 8) 8 (m.across * 16) (m.down * 16) (omega arith) (omega (arith, i.row))
            (omega (arith, i.column)),
      )

  pub chroma_in : chroma_address (m.across * 8) m.row m.column + 7 * (m.across * 8) + 8 ≤ 64 * macroblocks m
  chroma_in = omega (arith, block_in (placed Cr))

-- the side of a macroblock's block in a plane
pub size-most : (q : Plane) → block_size q ≤ 16
size-most Y = omega arith
size-most Cr = omega arith
size-most Cb = omega arith

-- block 0 to 5 lies in its plane
module _ {m : Macroblock} (i : MacroblockInPicture m) (number : ℕ) where
  pub width-most : block_width m number ≤ 4096
  width-most = mul-le-mul i.across (size-most (plane_of number))

  pub position_in : block_address m number + 7 * block_width m number + 8 ≤ plane_length (plane_of number) (macroblocks m)
  unfolding block_address
  position_in = go (ltb number 4) (eqb number 4)
    where
      go : (luma : Bool) (cb : Bool) → let q = cond luma Y (cond cb Cb Cr) in let w = m.across * block_size q in
          cond luma (luma_address w m.row m.column number) (chroma_address w m.row m.column) + 7 * w + 8 ≤ plane_length q (macroblocks m)
      go true cb = luma_in i number
      go false true = chroma_in i
      go false false = chroma_in i

-- the width of a plane of Cr or Cb
pub chroma-width : (m : Macroblock) (number : ℕ) → 4 ≤ number → block_width m number ≡ m.across * 8
chroma-width m number h = rw (le-ltb number 4 h) (go (eqb number 4))
  where
    go : (cb : Bool) → m.across * block_size (cond cb Cb Cr) ≡ m.across * 8
    go true = refl
    go false = refl

pub plane_in : (m : Macroblock) (q : Plane) (k : ℕ) → k < 3
    → plane_start k q (macroblocks m) + bytes (block_position_of m (block_size q)) ≤ stores_bytes (macroblocks m)
plane_in m Y k h = omega (arith, store-most k (macroblocks m) h)
plane_in m Cr k h = omega (arith, store-most k (macroblocks m) h)
plane_in m Cb k h = omega (arith, store-most k (macroblocks m) h)

-- the same plane of two stores: they are apart
plane-small : (m : Macroblock) (q : Plane) → bytes (block_position_of m (block_size q)) ≤ 384 * macroblocks m
plane-small m Y = omega arith
plane-small m Cr = omega arith
plane-small m Cb = omega arith

pub planes-apart : (m : Macroblock) (q : Plane) (from to : ℕ) → (to ≡ from → ⊥) → let b = bytes (block_position_of m (block_size q)) in
    let a = plane_start from q (macroblocks m) in
    let c = plane_start to q (macroblocks m) in
    (a + b ≤ c) ⊎ (c + b ≤ a)
planes-apart m q from to n = go (dec_lt from to)
  where
    b : ℕ
    b = bytes (block_position_of m (block_size q))

    above : Dec (to < from) → (from < to → ⊥) → to < from
    above (yes r) h = r
    above (no r) h = absurd (n (omega arith))

    go : Dec (from < to) → (plane_start from q (macroblocks m) + b ≤ plane_start to q (macroblocks m))
        ⊎ (plane_start to q (macroblocks m) + b ≤ plane_start from q (macroblocks m))
    go (yes h) = inl (omega (arith, plane-small m q, mul-le-mul_right (384 * macroblocks m) h))
    go (no h) = let r : to < from = above (dec_lt to from) h in inr (omega (arith, plane-small m q, mul-le-mul_right (384 * macroblocks m) r))

-- where the planes of two stores lie
pub ruleset stores = (count_most, placed, plane_in, planes-apart)

pub half-most : (z : ℤ) (n : ℕ) → nat_abs z ≤ n → nat_abs (half_toward_zero z) ≤ n
unfolding half_toward_zero
half-most (pos a) n h = omega arith
half-most (negsuc a) n h = omega (arith, neg_abs (pos (suc a / 2)))

-- the error has one value
pub is_refused : (r : Predicted) → IsErr r → r ≡ Err half_sample_outside
is_refused (Ok done) h = absurd (false≢true h)
is_refused (Err e) h = refl

next-done : (o : PlaneAfter) (f : List ℕ → PlaneAfter) → o.answer ≡ Ok tt → and_then_plane o f ≡ f o.store
unfolding and_then_plane
next-done o f e = ap (λ (a : Predicted). elim a [ Ok _ ↦ f o.store | Err _ ↦ o ]) e

next-refused : (o : PlaneAfter) (f : List ℕ → PlaneAfter) → o.answer ≡ Err half_sample_outside → and_then_plane o f ≡ o
unfolding and_then_plane
next-refused o f e = ap (λ (a : Predicted). elim a [ Ok _ ↦ f o.store | Err _ ↦ o ]) e

-- what `grind` needs where a vector is passed on, maybe halved: that it reads back from 32 bits, the bound of a half, and the one value of the error
pub ruleset vectors = (to_z-of_z, sfits_of, half-most, is_refused)

module _ (m : Macroblock) (from to : ℕ) (h v : ℤ) (interpolate : Bool) (store : List ℕ) where
  abbrev first : PlaneAfter
  first = predict_plane_from_store m from to interpolate Y h v store

  abbrev second : PlaneAfter
  second = predict_plane_from_store m from to interpolate Cr (chroma h) (chroma v) first.store

  -- what follows Cr, and Y
  abbrev after-cr : List ℕ → PlaneAfter
  after-cr = predict_plane_from_store m from to interpolate Cb (chroma h) (chroma v)

  abbrev after-y : List ℕ → PlaneAfter
  after-y s = and_then_plane (predict_plane_from_store m from to interpolate Cr (chroma h) (chroma v) s) after-cr

  pub first-refused : first.answer ≡ Err half_sample_outside → predicted_planes m from to h v interpolate store ≡ first
  unfolding predicted_planes
  first-refused e = next-refused first after-y e

  after_first : first.answer ≡ Ok tt → predicted_planes m from to h v interpolate store ≡ and_then_plane second after-cr
  unfolding predicted_planes
  after_first e = next-done first after-y e

  pub second-refused : first.answer ≡ Ok tt → second.answer ≡ Err half_sample_outside → predicted_planes m from to h v interpolate store ≡ second
  second-refused e g = after_first e ∙ next-refused second after-cr g
