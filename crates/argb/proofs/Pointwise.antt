-- RULES 9.4, 9.5, place by place: what stands where in the area after a conversion.
use mathlib.Core.Path.{◌≡◌, sym, ap, ◌∙◌}
use mathlib.Core.List.{List}
use mathlib.Core.Logic.{◌⊎◌, inr, ⊎_elim}
use Prim.Native.Nat.{ℕ, ◌+◌, ◌*◌, ◌/◌, ◌≤◌, ◌<◌}
use native.Mathlib.Nat.{zero-mul, mul-zero}
use native.Mathlib.Omega.{arith}
use lib.ListN.{length, get_or}
use Rattle.laws.specs.Stores.{store_row}
use Rattle.laws.proofs.Lists.{row_in, row_out}
use Rattle.argb.specs.Pixel.{argb}
use Rattle.argb.specs.Scaled.{Picture, sample_pixel, output_pixel, pixel_at, scaled}
use Rattle.argb.proofs.Places.{position-below}
use Rattle.argb.proofs.Rows.{pixel-row}

module _ (p : Picture) (w h : ℕ) (area : List ℕ) where
  -- a pixel inside is that of its three samples
  pub scaled-inside : w * h ≤ length area → (x y : ℕ) → x < w → y < h
      → let sx = x * p.width / w in
      let sy = y * p.height / h in
      let c = sy / 2 * (p.luma_width / 2) + sx / 2 in
      get_or (scaled p w h area) (y * w + x) 0 ≡ argb (get_or p.y (sy * p.luma_width + sx) 0) (get_or p.cr c 0) (get_or p.cb c 0)
  unfolding scaled output_pixel sample_pixel
  scaled-inside fit x y q r =
      row_in area 0 (pixel_at p w h) (w * h) (y * w + x) (y * w + x) 0 (omega arith) (omega (arith, position-below y x h w r q)) (omega arith)
      ∙ sym (pixel-row p w h y x q)

  -- a number from w × h on is as before
  pub scaled-outside : (k : ℕ) → w * h ≤ k → get_or (scaled p w h area) k 0 ≡ get_or area k 0
  unfolding scaled
  scaled-outside k q = row_out area 0 (pixel_at p w h) (w * h) k 0 (inr (omega arith))

  -- a size of 0 writes nothing
  pub scaled-none : (w ≡ 0) ⊎ (h ≡ 0) → scaled p w h area ≡ area
  unfolding scaled store_row
  scaled-none z =
      let e : w * h ≡ 0 = ⊎_elim (λ q. ap (λ (n : ℕ). n * h) q ∙ zero-mul h) (λ q. ap (λ (n : ℕ). w * n) q ∙ mul-zero w) z in
      ap (store_row area 0 (pixel_at p w h)) e
