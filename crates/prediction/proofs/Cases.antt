-- RULES W.5 to W.7: the worked cases of averages and of a chroma vector.
use mathlib.Core.Path.{◌≡◌, refl}
use lib.IntN.{negsuc}
use Rattle.laws.specs.Signed.{half_toward_zero}
use Rattle.prediction.specs.Predict.{chroma}
use Rattle.prediction.specs.Samples.{average4}

pub w5 : average4 0 0 0 1 ≡ 0
w5 = refl

pub w6 : average4 0 0 1 1 ≡ 1
w6 = refl

-- -3 gives -1
pub w7 : chroma (negsuc 2) ≡ negsuc 0
unfolding half_toward_zero
w7 = refl
