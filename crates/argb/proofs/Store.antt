-- The three planes of a store hold the picture (RULES O.4, 6.11), so a record that question 2 admits can be converted.
use mathlib.Core.Path.{◌≡◌}
use mathlib.Core.List.{List}
use Prim.Native.Nat.{ℕ, ◌+◌, ◌*◌, ◌/◌, ◌≤◌}
use native.Mathlib.Nat.{mul-le-mul}
use native.Mathlib.Omega.{arith}
use lib.ListN.{length}
use Rattle.argb.specs.Scaled.{picture, PlanesFit}

-- across × down macroblocks, each 256 bytes of Y and 64 each of Cr and Cb
module _ (width height luma_width across down : ℕ) (y cr cb : List ℕ) where
  pub store-whole : luma_width ≡ 16 * across → (1 ≤ width) × (width ≤ luma_width) × (luma_width ≤ 4096)
      → (1 ≤ height) × (height ≤ 16 * down) × (height ≤ 4096)
      → (256 * (across * down) ≤ length y) × (64 * (across * down) ≤ length cr) × (64 * (across * down) ≤ length cb)
      → PlanesFit (picture width height luma_width y cr cb)
  store-whole e columns rows long =
      let luma : height * luma_width ≤ 16 * down * (16 * across) = mul-le-mul (omega arith) (omega arith) in
      let chroma : (height + 1) / 2 * (luma_width / 2) ≤ 8 * down * (8 * across) = mul-le-mul (omega arith) (omega arith) in
      record {
        wide = columns;
        high = (rows.0, rows.2);
        even = omega arith;
        y-long = omega arith;
        cr-long = omega arith;
        cb-long = omega arith;
      }
