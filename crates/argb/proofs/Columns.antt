-- Which column of the samples a column of the output shows, kept without a division.
use mathlib.Core.Path.{◌≡◌, ap}
use Prim.Native.Nat.{ℕ, ◌+◌, ◌*◌, ◌/◌, ◌%◌, ◌≤◌, ◌<◌}
use native.Mathlib.Nat.{div-add-mod', mul-add-div_right, div-eq_of_lt, div-le_self, mod-lt}
use native.Mathlib.Omega.{arith}
use Rattle.argb.proofs.Places.{nearest-below}

-- column x of w shows the column sx of `width`, and the division leaves `rest`
pub record Shows (w width x sx rest : ℕ) : Type 0 where
  pub at : sx * w + rest ≡ x * width
  pub below : rest < w

module _ {w width : ℕ} where
  pub shows_first : 1 ≤ w → Shows w width 0 0 0
  shows_first h = record { at = omega arith; below = h }

  -- one column further
  pub shows-on : {x sx rest sx' rest' : ℕ} → Shows w width x sx rest
      → (sx' * w + rest' ≡ sx * w + rest + (width / w * w + width % w)) × (rest' < w) → Shows w width (x + 1) sx' rest'
  shows-on s e = record { at = omega (arith, s.at, e.0, div-add-mod' width w); below = e.1 }

  pub column : {x sx rest : ℕ} → Shows w width x sx rest → sx ≡ x * width / w
  column {x} {sx} {rest} s =
      let k : 0 < w = omega (arith, s.below) in
      omega (arith, ap (λ (n : ℕ). n / w) s.at, mul-add-div_right k sx rest, div-eq_of_lt s.below)

  pub column-below : {x sx rest : ℕ} → Shows w width x sx rest → x < w → 1 ≤ width → sx < width
  column-below {x} s h k = omega (arith, column s, nearest-below x w width h k)

  -- what `further` asks
  pub further-asks : {x sx rest : ℕ} → Shows w width x sx rest → x < w → (1 ≤ width) × (width ≤ 4096) → w ≤ 4096
      → ((rest < w) × (width % w < w) × (w ≤ 4096)) × ((sx ≤ 4096) × (width / w ≤ 4096))
  further-asks s h k most =
      let p : 0 < w = omega (arith, s.below) in
      ((s.below, mod-lt width p, most), (omega (arith, column-below s h k.0), omega (arith, div-le_self width w)))
