-- A picture as w × h pixels (RULES part 9).
use Rattle.std.specs.Prelude.{◌≡◌, List, ℕ, ◌+◌, ◌*◌, ◌/◌, ◌%◌, ◌≤◌, length, get_or}
use Rattle.laws.specs.Stores.{store_row}
use Rattle.argb.specs.Pixel.{argb}

-- what is converted: the display size, the width of plane Y (Cr and Cb are half as wide), and the planes, stored by rows (RULES 6.11)
pub record Picture : Type 0 where
  pub width : ℕ
  pub height : ℕ
  pub luma_width : ℕ
  pub y : List ℕ
  pub cr : List ℕ
  pub cb : List ℕ

-- the picture with these parts
abbrev pub picture : ℕ → ℕ → ℕ → List ℕ → List ℕ → List ℕ → Picture
picture width height luma_width y cr cb = record { width = width; height = height; luma_width = luma_width; y = y; cr = cr; cb = cb }

-- the planes hold samples for all of the display size, as those of a store do (RULES Q2, O.4, 6.11)
pub record PlanesFit (p : Picture) : Type 0 where
  pub wide : (1 ≤ p.width) × (p.width ≤ p.luma_width) × (p.luma_width ≤ 4096)
  pub high : (1 ≤ p.height) × (p.height ≤ 4096)
  pub even : p.luma_width % 2 ≡ 0
  pub y-long : p.height * p.luma_width ≤ length p.y
  pub cr-long : (p.height + 1) / 2 * (p.luma_width / 2) ≤ length p.cr
  pub cb-long : (p.height + 1) / 2 * (p.luma_width / 2) ≤ length p.cb

-- RULES 9.2: the pixel of the sample at column sx and row sy
unfoldable pub sample_pixel : Picture → ℕ → ℕ → ℕ
sample_pixel p sx sy =
    let c = sy / 2 * (p.luma_width / 2) + sx / 2 in
    argb (get_or p.y (sy * p.luma_width + sx) 0) (get_or p.cr c 0) (get_or p.cb c 0)

-- RULES 9.1: the pixel at row y and column x of w × h
unfoldable pub output_pixel : Picture → ℕ → ℕ → ℕ → ℕ → ℕ
output_pixel p w h y x = sample_pixel p (x * p.width / w) (y * p.height / h)

-- RULES 9.4: the pixel at the place k = y × w + x of the area
unfoldable pub pixel_at : Picture → ℕ → ℕ → ℕ → ℕ
pixel_at p w h k = output_pixel p w h (k / w) (k % w)

-- RULES 9.4, 9.5: the area with the w × h pixels in its first places, and the others as they were
unfoldable pub scaled : Picture → ℕ → ℕ → List ℕ → List ℕ
scaled p w h area = store_row area 0 (pixel_at p w h) (w * h)
