-- The area row by row: row y of the output is the pixels from y × w on. A row is made of samples, spread from their colours, or the one before it again.
use mathlib.Core.Path.{◌≡◌, refl, sym, ap, ap₂, ◌∙◌, subst}
use mathlib.Core.List.{List}
use mathlib.Core.Logic.{◌⊎◌, inl, inr}
use Prim.Native.Nat.{ℕ, ◌+◌, ◌*◌, ◌-◌, ◌/◌, ◌%◌, ◌≤◌, ◌<◌}
use native.Mathlib.Nat.{zero-mul, mul_comm, mul-add-div_right, mul-add-mod_self_right, mod-eq_of_lt, div-eq_of_lt, mul-le-mul_right}
use native.Mathlib.Omega.{arith}
use lib.ListN.{length, get_or}
use Rattle.laws.specs.Stores.{store_row}
use Rattle.laws.proofs.Lists.{length-row, row_join, row-alike, row_in, Stored, none-stored, all-stored}
use Rattle.argb.specs.Scaled.{Picture, PlanesFit, sample_pixel, output_pixel, pixel_at, scaled}
use Rattle.argb.proofs.Places.{nearest-below}

module _ (p : Picture) (w h y : ℕ) where
  -- the pixel at row y and column x stands at y × w + x
  pub pixel-row : (x : ℕ) → x < w → output_pixel p w h y x ≡ pixel_at p w h (y * w + x)
  unfolding pixel_at
  pixel-row x q =
      let k : 0 < w = omega arith in
      let row : y ≡ (y * w + x) / w = omega (arith, mul-add-div_right k y x, div-eq_of_lt q) in
      let column : x ≡ (y * w + x) % w = sym (mul-add-mod_self_right y w x ∙ mod-eq_of_lt q) in
      ap₂ (output_pixel p w h) row column

  -- the rows before y, and row y
  rows_on : (area : List ℕ) {before now : List ℕ} → before ≡ store_row area 0 (pixel_at p w h) (y * w)
      → now ≡ store_row before (y * w) (output_pixel p w h y) w → now ≡ store_row area 0 (pixel_at p w h) ((y + 1) * w)
  rows_on area e r =
      r
      ∙ ap (λ (z : List ℕ). store_row z (y * w) (output_pixel p w h y) w) e
      ∙ row_join area 0 (pixel_at p w h) (output_pixel p w h y) (y * w) (y * w) w (omega arith) pixel-row
      ∙ ap (store_row area 0 (pixel_at p w h)) (omega arith)

-- ---- the rows so far

-- the row of the samples that the row before y shows; `height`, which none shows, before the first
abbrev Shown : ℕ → ℕ → ℕ → ℕ → Type 0
Shown height h y shown = ((y ≡ 0) × (shown ≡ height)) ⊎ ((z : ℕ) × (y ≡ z + 1) × (shown ≡ z * height / h))

-- y rows are stored, of which the last shows the row `shown` of the samples; the row of colours has its places
pub record Written (p : Picture) (w h : ℕ) (area row now : List ℕ) (shown y : ℕ) : Type 0 where
  pub pixels : Stored area 0 (pixel_at p w h) (w * h) now (y * w)
  pub last : Shown p.height h y shown
  pub colours : length row ≡ 4096

module _ {p : Picture} {w h : ℕ} {area : List ℕ} where
  pub none_written : {row : List ℕ} → length row ≡ 4096 → Written p w h area row area p.height 0
  none_written long = record {
    pixels = subst (Stored area 0 (pixel_at p w h) (w * h) area) (sym (zero-mul w)) none-stored;
    last = inl (refl, refl);
    colours = long;
  }

  -- the loop's turn
  pub written_on : {row before row' now : List ℕ} {shown y : ℕ} → Written p w h area row before shown y → y < h
      → now ≡ store_row before (y * w) (output_pixel p w h y) w → length row' ≡ 4096 → Written p w h area row' now (y * p.height / h) (y + 1)
  written_on {y = y} r q e long =
      let all = rows_on p w h y area r.pixels.is e in
      record {
        pixels = record {
          most = omega (arith, mul-le-mul_right w q, mul_comm h w);
          long = ap length all ∙ length-row area 0 (pixel_at p w h) ((y + 1) * w);
          is = all;
        };
        last = inr (y, refl, refl);
        colours = long;
      }

  pub all-written : {row now : List ℕ} {shown y : ℕ} → Written p w h area row now shown y → h ≤ y → now ≡ scaled p w h area
  unfolding scaled
  all-written r q = all-stored r.pixels (omega (arith, mul-le-mul_right w q, mul_comm h w))

  -- the next row lies in the area
  pub next_in : {row now : List ℕ} {shown y : ℕ} → Written p w h area row now shown y → y < h → w * h ≤ length area → y * w + w ≤ length now
  next_in {y = y} r q fit = omega (arith, mul-le-mul_right w q, mul_comm h w, r.pixels.long)

-- the row of colours, made anew, keeps its places
pub still-long : (row : List ℕ) (f : ℕ → ℕ) (n : ℕ) {now : List ℕ} → now ≡ store_row row 0 f n → length row ≡ 4096 → length now ≡ 4096
still-long row f n e h = ap length e ∙ length-row row 0 f n ∙ h

-- ---- three ways to make row y

-- of samples
pub row_made : (p : Picture) (w h y : ℕ) (before : List ℕ) {now : List ℕ}
    → now ≡ store_row before (y * w) (λ x. sample_pixel p (x * p.width / w) (y * p.height / h)) w
    → now ≡ store_row before (y * w) (output_pixel p w h y) w
unfolding output_pixel
row_made p w h y before e = e

module _ {p : Picture} (whole : PlanesFit p) (w h y : ℕ) where
  -- of the colours of a row of samples, spread
  pub row_spread : (row before : List ℕ) {colours now : List ℕ} → length row ≡ 4096
      → colours ≡ store_row row 0 (λ x. sample_pixel p x (y * p.height / h)) p.luma_width
      → now ≡ store_row before (y * w) (λ x. get_or colours (x * p.width / w) 0) w
      → now ≡ store_row before (y * w) (output_pixel p w h y) w
  unfolding output_pixel
  row_spread row before long e r =
      r
      ∙ row-alike before (y * w) _ _ w
      (λ x q.
      ap (λ (z : List ℕ). get_or z (x * p.width / w) 0) e
      ∙ row_in row 0 (λ x. sample_pixel p x (y * p.height / h)) p.luma_width (x * p.width / w) (x * p.width / w) 0
      (omega (arith, whole.wide)) (omega (arith, nearest-below x w p.width q whole.wide.0, whole.wide)) (omega arith))

  -- two rows that show the same row of the samples
  same_row : (z x : ℕ) → z * p.height / h ≡ y * p.height / h → output_pixel p w h z x ≡ output_pixel p w h y x
  unfolding output_pixel
  same_row z x e = ap (sample_pixel p (x * p.width / w)) e

  module _ {area row before : List ℕ} {shown : ℕ} (k : Written p w h area row before shown y) (below : y < h) (same : y * p.height / h ≡ shown) where
    -- no row before the first shows one of the samples
    one-before : Shown p.height h y shown → (z : ℕ) × (y ≡ z + 1) × (shown ≡ z * p.height / h)
    one-before (inl z) = absurd (omega (arith, nearest-below y h p.height below whole.high.0))
    one-before (inr z) = z

    pub row_before : w ≤ y * w
    row_before = let z = one-before k.last in let q : 1 ≤ y = omega (arith, z.1) in omega (arith, mul-le-mul_right w q)

    -- of the one before it again
    pub row-again : w * h ≤ length area → {now : List ℕ} → now ≡ store_row before (y * w) (λ x. get_or before (y * w - w + x) 0) w
        → now ≡ store_row before (y * w) (output_pixel p w h y) w
    row-again fit r =
        let z = one-before k.last in
        let up : y * w ≡ z.0 * w + w = ap (λ (n : ℕ). n * w) z.1 ∙ omega arith in
        r
        ∙ row-alike before (y * w) _ _ w
        (λ x q.
        ap (λ (l : List ℕ). get_or l (y * w - w + x) 0) k.pixels.is
        ∙ row_in area 0 (pixel_at p w h) (y * w) (z.0 * w + x) (y * w - w + x) 0 (omega (arith, k.pixels.most)) (omega arith) (omega arith)
        ∙ sym (pixel-row p w h z.0 x q)
        ∙ same_row z.0 x (sym z.2 ∙ sym same))
