-- The thirteen worked cases (RULES W). Assumes nothing.
use mathlib.Core.Path.{◌≡◌, refl}
use mathlib.Core.List.{map}
use lib.ListN.{length}
use Rattle.laws.specs.Signed.{half_toward_zero, odd, clamp255}
use Rattle.motion.specs.Displacement.{displacement_from, corrected}
use Rattle.coefficients.specs.Dcs.{added}
use Rattle.coefficients.specs.Dequantise.{dequantised}
use Rattle.argb.specs.Pixel.{argb, red, green, blue, luma}
use Rattle.worked_examples.specs.Worked.{Case, evaluated, cases}

-- the definitions give the right column of the list
pub worked : map (λ (c : Case). evaluated c.given) cases ≡ map (λ (c : Case). c.gives) cases
unfolding cases evaluated displacement_from corrected half_toward_zero odd added dequantised argb red green blue luma clamp255
worked = refl

pub thirteen : length cases ≡ 13
unfolding cases
thirteen = refl
