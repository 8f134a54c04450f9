-- The planes of a store as the code cuts them, and what is known of the picture in them. Assumes nothing.
use mathlib.Core.Path.{◌≡◌}
use mathlib.Core.Bool.{true}
use mathlib.Core.List.{List, [], ◌∷◌}
use Prim.Native.Nat.{ℕ, ◌+◌, ◌*◌, ◌≤◌}
use native.Mathlib.Omega.{arith}
use borrow.Author.Tests.{leb-true, eqb-true}
use borrow.Rule.Slice.PartMut.{mid_of}
use lib.ListN.{length}
use Rattle.laws.proofs.Lists.{length_mid}
use Rattle.laws.proofs.Tests.{each}
use Rattle.prediction.specs.declared.planes.Plane.{Plane}
use Rattle.prediction.specs.declared.planes.Plane.TheVariants.{Y, Cr, Cb}
use Rattle.prediction.specs.Planes.{plane_length, plane_start, stores_bytes}
use Rattle.prediction.proofs.Macroblocks.{store-most}
use Rattle.argb.specs.Scaled.{PlanesFit}
use Rattle.argb.proofs.Store.{store-whole}
use Rattle.header.specs.declared.state.Sequence.{Sequence}
use Rattle.header.specs.Possible.{possible_sequence}
use Rattle.header.proofs.Sizing.{size-most, possible-sized, possible-headed}
use Rattle.conversion.specs.HasHeader.{HasHeader}
use Rattle.conversion.specs.Pictures.{fits, picture_in}

-- RULES Q2: with a header, the sizes follow from width and height
pub headed-by : (q : Sequence) → possible_sequence q ≡ true → q.has_sequence_header ≡ true → HasHeader q
headed-by q e t =
    let k = possible-sized q e in
    let h = each _ (_ ∷ _ ∷ []) (possible-headed q e t) in
    let z = each _ (_ ∷ _ ∷ []) (h 2) in
    record {
      wide = (leb-true _ _ (h 0), k.0);
      high = (leb-true _ _ (h 1), k.1);
      columns = eqb-true _ _ (z 0);
      rows = eqb-true _ _ (z 1);
      size = k.2.size;
    }

-- RULES O.4
pub size_few : {q : Sequence} → HasHeader q → q.sizes.mb_size ≤ 65536
size_few {q} h = rw (h.size, h.columns, h.rows) (size-most q.width q.height h.wide.1 h.high.1)

-- RULES 6.11: a plane is within the three stores
pub plane-end : (q : Plane) (k n : ℕ) → k ≤ 2 → plane_start k q n + plane_length q n ≤ stores_bytes n
plane-end Y k n h = omega (arith, store-most k n (omega arith))
plane-end Cr k n h = omega (arith, store-most k n (omega arith))
plane-end Cb k n h = omega (arith, store-most k n (omega arith))

-- the picture in a store is whole
pub picture-whole : (q : Sequence) (l : List ℕ) (k : ℕ) → HasHeader q → stores_bytes q.sizes.mb_size ≤ length l → k ≤ 2 → PlanesFit (picture_in q l k)
picture-whole q l k h m i =
    let z = q.sizes in
    let n = z.mb_size in
    let long : (p : Plane) → length (mid_of (plane_start k p n) (plane_length p n) l) ≡ plane_length p n =
    λ p. length_mid (plane_start k p n) (plane_length p n) l (omega (arith, plane-end p k n i)) in
    store-whole q.width q.height (z.mb_width * 16) z.mb_width z.mb_height _ _ _ (omega arith)
    (h.wide.0, omega (arith, h.columns), omega (arith, h.columns, h.wide.1)) (h.high.0, omega (arith, h.rows), omega (arith, h.high.1)) (
      rw (← h.size, long Y) (omega arith),
      rw (← h.size, long Cr) (omega arith),
      rw (← h.size, long Cb) (omega arith),
    )

-- RULES Q11: what an area with room for the picture keeps to
pub room_of : (w h : ℕ) (a : List ℕ) → fits w h a ≡ true → (w ≤ 4096) × (h ≤ 4096) × (w * h ≤ length a)
room_of w h a e = let z = each _ (_ ∷ _ ∷ []) e in (leb-true _ _ (z 0), leb-true _ _ (z 1), leb-true _ _ (z 2))
