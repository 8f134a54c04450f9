-- The address of a macroblock, as the code counts it. Assumes nothing.
use mathlib.Core.Path.{◌≡◌, refl, ◌∙◌}
use Prim.Native.Nat.{ℕ, ◌+◌, ◌≤◌, ◌<◌}
use native.Mathlib.Omega.{arith}
use lib.IntN.{ℤ, pos, ◌+ℤ◌}
use mir.Syntax.{w32}
use mir.Val.{SFits, to_z, of_z}
use mir.Facts.{to_z-of_z}
use Rattle.laws.proofs.Ints.{Dif, up, dn, v, lit, neg, ◌⊕◌, low, back, eq-by, le_yes, fits_by}
use Rattle.macroblock.specs.Promises.{AddressSumBound}

module _ {a : ℤ} {n : ℕ} (k : AddressSumBound a n) where
  bounds : (dn a ≤ up a + 1) × (up a + n ≤ dn a + 402800000)
  bounds = (omega (arith, le_yes (neg (lit 1)) (v a) k.from), omega (arith, le_yes (v a ⊕ lit n) (lit 402800000) k.to))

  small : n < 2147483648
  small = omega (arith, bounds)

  pub step_fits : SFits w32 (pos n)
  step_fits = fits_by (lit n) (omega (arith, small)) (omega arith)

  pub address-fits : SFits w32 a
  address-fits = fits_by (v a) (omega (arith, bounds)) (omega (arith, bounds))

  -- the sum, as the code has it
  sum-dif : Dif (to_z w32 (of_z w32 a) +ℤ to_z w32 n) (up a + n) (dn a + 0)
  sum-dif = back address-fits (v a) ⊕ low w32 n n refl small

  pub sum_fits : SFits w32 (to_z w32 (of_z w32 a) +ℤ to_z w32 n)
  sum_fits = fits_by sum-dif (omega (arith, bounds)) (omega (arith, bounds))

  pub sum_is : to_z w32 (of_z w32 (to_z w32 (of_z w32 a) +ℤ to_z w32 n)) ≡ a +ℤ pos n
  sum_is = to_z-of_z sum_fits ∙ eq-by sum-dif (v a ⊕ lit n) refl
