-- The signed numbers of a possible state, as the code reads them. Assumes nothing.
use mathlib.Core.Path.{◌≡◌}
use mathlib.Core.Bool.{true}
use native.Mathlib.Omega.{arith}
use lib.IntN.{ℤ}
use mir.Syntax.{w32}
use mir.Val.{to_z, of_z}
use mir.Facts.{to_z-of_z}
use Rattle.laws.proofs.Ints.{v, fits_by}
use Rattle.laws.proofs.Nums.{num, rd}
use Rattle.coefficients.specs.Dcs.{dc_in_range}
use Rattle.coefficients.proofs.Sizes.{inside-small}
use Rattle.picture_state.specs.declared.types.Slice.{Slice}
use Rattle.picture_state.specs.Possible.{PossibleSlice}
use Rattle.picture_state.proofs.Possible.{between-of}

pub inside-read : (x : ℤ) → dc_in_range x ≡ true → to_z w32 (of_z w32 x) ≡ x
inside-read x h = (rd w32 (num (inside-small x h)) tt).is

pub address_read : {s : Slice} → PossibleSlice s → to_z w32 (of_z w32 s.macroblock_address) ≡ s.macroblock_address
address_read {s} k = let a = s.macroblock_address in let b = between-of 1 402700000 (v a) k.address in
    to_z-of_z (fits_by {w = w32} (v a) (omega arith) (omega arith))
