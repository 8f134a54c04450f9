-- The samples of a whole picture and the pixels of an area lie inside their lists.
use Prim.Native.Nat.{ℕ, ◌+◌, ◌*◌, ◌/◌, ◌≤◌, ◌<◌}
use native.Mathlib.Nat.{mul-le-mul, mul-le-mul_right, div-lt_iff_lt-mul}
use native.Mathlib.Omega.{arith}
use lib.ListN.{length}
use Rattle.argb.specs.Scaled.{Picture, PlanesFit}

-- the product of two sizes
pub product-most : (m n : ℕ) → m ≤ 4096 → n ≤ 4096 → m * n ≤ 16777216
product-most m n h k = mul-le-mul h k

-- a place below w, scaled to n, is below n, so the Rust's `.min(n - 1)` changes nothing
pub nearest-below : (x w n : ℕ) → x < w → 1 ≤ n → x * n / w < n
nearest-below x w n h k =
    let p : 0 < w = omega arith in
    (div-lt_iff_lt-mul p).1 (omega (arith, mul-le-mul_right n h))

-- a row and a column inside give a place inside
pub position-below : (row column rows columns : ℕ) → row < rows → column < columns → row * columns + column < rows * columns
position-below row column rows columns h k = omega (arith, mul-le-mul_right columns h)

-- the places of the sample at column sx and row sy
pub record Inside (p : Picture) (sx sy : ℕ) : Type 0 where
  pub y-place : sy * p.luma_width + sx < length p.y
  pub cr-place : sy / 2 * (p.luma_width / 2) + sx / 2 < length p.cr
  pub cb-place : sy / 2 * (p.luma_width / 2) + sx / 2 < length p.cb

-- one of a row that is shown is there
pub sample-inside : {p : Picture} → PlanesFit p → (sx sy : ℕ) → sx < p.luma_width → sy < p.height → Inside p sx sy
sample-inside {p} whole sx sy column row =
    let luma = position-below sy sx p.height p.luma_width row column in
    let chroma = position-below (sy / 2) (sx / 2) ((p.height + 1) / 2) (p.luma_width / 2) (omega arith) (omega arith) in
    record { y-place = omega arith; cr-place = omega arith; cb-place = omega arith }
