-- The quotients of the definition compute to the constant's numbers.
use Rattle.std.proofs.Common.{refl}
use lib.Ieee.{div, of_bits, of_int}
use Rattle.codes.specs.Rates.{pixel_aspect_ratio}
use Rattle.codes.proofs.rates.pixel_aspect_ratio.Goals as goal

pub returns : goal.returns
unfolding pixel_aspect_ratio div of_bits of_int
returns c = refl
