-- Bounds of a place, and which addresses lie in its plane.
use mathlib.Core.Path.{◌≡◌, ap, ◌∙◌}
use mathlib.Core.Bool.{Bool, true, false, cond}
use mathlib.Core.Logic.{⊎_elim}
use Prim.Native.Nat.{ℕ, zero, suc, ◌+◌, ◌*◌, ◌-◌, ◌≤◌, ◌<◌}
use native.Mathlib.Nat.{mul-le-mul, mul-le-mul_left, mul-le-mul_right}
use native.Mathlib.Omega.{arith}
use lib.Dec.{eqb}
use lib.IntN.{ℤ}
use Rattle.laws.specs.Signed.{odd}
use Rattle.prediction.specs.declared.position.BlockPosition.{BlockPosition}
use Rattle.prediction.specs.Predict.{BlockInPlane, width, height, bytes, address, max_address, reach}

-- a block of s rows of s in a plane W wide and H high, at row R and column C
pub at_place : (R C s W H : ℕ) → 0 < s → R + s ≤ H → C + s ≤ W → R * W + C + (s - 1) * W + s ≤ W * H
at_place R C s W H h r q =
    let t : s - 1 + 1 ≡ s = omega arith in
    omega (arith, ap (λ (n : ℕ). n * W) t, mul-le-mul_right W r)

-- such a block that begins no further than RULES 6.5 says
at_most : (a s W H : ℕ) → 0 < s → s ≤ H → s ≤ W → a ≤ W * (H - s + 1) - s → a + (s - 1) * W + s ≤ W * H
at_most a s W H h r q l =
    let t : s - 1 + 1 ≡ s = omega arith in
    let u : H - s + s ≡ H = omega arith in
    omega (arith, ap (λ (n : ℕ). n * W) t, ap (λ (n : ℕ). n * W) u)

-- how far half samples reach, by the numbers 0 and 1 that the code has for them
reach-is : (right below w : ℕ) → right ≤ 1 → below ≤ 1 → below * w + right ≡ cond (eqb below 1) w 0 + cond (eqb right 1) 1 0
reach-is zero zero w r b = omega arith
reach-is zero (suc zero) w r b = omega arith
reach-is (suc zero) zero w r b = omega arith
reach-is (suc zero) (suc zero) w r b = omega arith
reach-is (suc (suc n)) below w r b = absurd (omega arith)
reach-is zero (suc (suc n)) w r b = absurd (omega arith)
reach-is (suc zero) (suc (suc n)) w r b = absurd (omega arith)

pub halves-reach : (p : BlockPosition) (h v : ℤ) {right below : ℕ} → (right ≤ 1) × (eqb right 1 ≡ odd h) → (below ≤ 1) × (eqb below 1 ≡ odd v)
    → below * width p + right ≡ reach p h v
halves-reach p h v {right} {below} r b = reach-is right below (width p) r.0 b.0 ∙ rw (r.1, b.1)

module _ {p : BlockPosition} (k : BlockInPlane p) where
  pub size-from : 8 ≤ p.size
  size-from = ⊎_elim (λ e. omega arith) (λ e. omega arith) k.size

  pub size-to : p.size ≤ 16
  size-to = ⊎_elim (λ e. omega arith) (λ e. omega arith) k.size

  pub width-most : width p ≤ 4096
  width-most = mul-le-mul k.inside.across size-to

  pub height-most : height p ≤ 4096
  height-most = mul-le-mul k.inside.down size-to

  pub bytes_most : bytes p ≤ 16777216
  bytes_most = mul-le-mul width-most height-most

  pub row_in : p.row * p.size + p.size ≤ height p
  row_in = omega (arith, mul-le-mul_right p.size k.inside.row)

  pub column_in : p.column * p.size + p.size ≤ width p
  column_in = omega (arith, mul-le-mul_right p.size k.inside.column)

  pub block_in : address p + (p.size - 1) * width p + p.size ≤ bytes p
  block_in = at_place (p.row * p.size) (p.column * p.size) p.size (width p) (height p) (omega (arith, size-from)) row_in column_in

  pub source_in : (a : ℕ) → a ≤ max_address p → a + (p.size - 1) * width p + p.size ≤ bytes p
  source_in a = at_most a p.size (width p) (height p) (omega (arith, size-from)) (omega (arith, row_in)) (omega (arith, column_in))

  -- the parts of max_address
  pub max-to : width p * (height p - p.size + 1) ≤ bytes p
  max-to = mul-le-mul_left (width p) (omega (arith, size-from, row_in))

  pub reach-most : (h v : ℤ) → reach p h v ≤ 4097
  reach-most h v = go (odd v) (odd h)
    where
      go : (s t : Bool) → cond s (width p) 0 + cond t 1 0 ≤ 4097
      go true true = omega (arith, width-most)
      go true false = omega (arith, width-most)
      go false true = omega arith
      go false false = omega arith
