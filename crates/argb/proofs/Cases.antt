-- The worked cases of RULES 9.3, by computation of the definition.
use mathlib.Core.Path.{◌≡◌, refl}
use Rattle.laws.specs.Signed.{clamp255}
use Rattle.argb.specs.Pixel.{luma, red, green, blue, argb}

-- RULES W.13: Y 235 without colour gives FFFEFEFE
pub near-white : argb 235 128 128 ≡ 4294901502
unfolding argb red green blue luma clamp255
near-white = refl

-- RULES W.14: Y 236 without colour gives FFFFFFFF
pub white : argb 236 128 128 ≡ 4294967295
unfolding argb red green blue luma clamp255
white = refl
