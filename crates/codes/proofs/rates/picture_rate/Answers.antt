-- The quotients of the definition compute to the constant's numbers.
use Rattle.std.proofs.Common.{refl}
use lib.Ieee.{div, of_bits, of_int}
use Rattle.codes.specs.Rates.{picture_rate}
use Rattle.codes.proofs.rates.picture_rate.Goals as goal

pub returns : goal.returns
unfolding picture_rate div of_bits of_int
returns c = refl
