-- Where the planes of the store that is written lie, and a block's results there. Assumes nothing.
use mathlib.Core.Path.{◌≡◌, ◌∙◌}
use mathlib.Core.List.{List}
use Prim.Native.Nat.{ℕ, ◌+◌, ◌*◌, ◌-◌, ◌≤◌, ◌<◌}
use native.Mathlib.Omega.{arith}
use borrow.Rule.Slice.PartMut.{mid_of, put_mid}
use lib.ListN.{length}
use Rattle.laws.proofs.Lists.{length_mid}
use Rattle.coefficients.specs.declared.quantiser.Quantiser.{Quantiser}
use Rattle.coefficients.specs.Blocks.{BlockCoefficients}
use Rattle.prediction.specs.declared.position.Macroblock.{Macroblock}
use Rattle.prediction.specs.declared.planes.Plane.{Plane}
use Rattle.prediction.specs.declared.planes.Plane.TheVariants.{Y, Cr, Cb}
use Rattle.prediction.specs.Predict.{macroblock_at}
use Rattle.prediction.specs.Planes.{macroblocks, plane_of, plane_length, plane_start, stores_bytes}
use Rattle.prediction.specs.Writers.{block_width, block_address}
use Rattle.prediction.proofs.Macroblocks.{store-most}
use Rattle.blocks.specs.Blocks.{results, written}
use Rattle.picture_state.specs.declared.types.Context.{Context}
use Rattle.picture_state.proofs.Ready.{size-most}
use Rattle.picture_state.specs.Promises.{StoreFits}

plane-end : (k n : ℕ) (p : Plane) → k < 3 → plane_start k p n + plane_length p n ≤ stores_bytes n
plane-end k n Y h = omega (arith, store-most k n h)
plane-end k n Cr h = omega (arith, store-most k n h)
plane-end k n Cb h = omega (arith, store-most k n h)

module _ {g : Context} {l : List ℕ} (k : StoreFits g l) where
  -- a plane of the store that is written, as the code has its start and its length
  module _ (p : Plane) {start size : ℕ} (is-start : start ≡ plane_start g.stores.cur p g.sizes.mb_size)
      (is-size : size ≡ plane_length p g.sizes.mb_size) where
    pub plane-most : (start + size ≤ length l) × (start + size ≤ 75497472)
    plane-most =
        let e = plane-end g.stores.cur g.sizes.mb_size p (omega (arith, k.stores.cur)) in
        rw (is-start, is-size) (omega (arith, k.whole), omega (arith, size-most k))

    part_length : length (mid_of start (start + size - start) l) ≡ plane_length p g.sizes.mb_size
    part_length = let e : start + size - start ≡ size = omega arith in rw e (length_mid start size l plane-most.0 ∙ is-size)

  -- a block's place in it
  module _ {m : Macroblock} {start size dw : ℕ} (di number address : ℕ)
      (is-macroblock : m ≡ macroblock_at g.sizes.mb_width g.sizes.mb_height address)
      (is-start : start ≡ plane_start g.stores.cur (plane_of number) g.sizes.mb_size)
      (is-size : size ≡ plane_length (plane_of number) g.sizes.mb_size) (is-width : dw ≡ block_width m number) where
    pub block_in-part : di + 7 * block_width m number + 8 ≤ plane_length (plane_of number) (macroblocks m)
        → di + 7 * dw + 8 ≤ length (mid_of start (start + size - start) l)
    block_in-part h = rw (part_length (plane_of number) is-start is-size, k.size, is-width, is-macroblock) (rw is-macroblock at h)

    pub in-store : di ≡ block_address m number → (q : Quantiser) (f : BlockCoefficients) {part : List ℕ}
        → part ≡ results q f di dw (mid_of start (start + size - start) l)
        → put_mid start (start + size - start) l part ≡ written g q number address f l
    unfolding written
    in-store is-place q f p =
        let e : start + size - start ≡ size = omega arith in
        rw (p, e, is-place, is-width, is-macroblock, is-start, is-size)
