-- RULES W.1 to W.13 as one list of data: a rule, what is given, and what it gives.
use Rattle.std.specs.Prelude.{true, List, [], ◌∷◌, ℕ, ℤ, pos, neg_ℤ, ◌+ℤ◌}
use Rattle.motion.specs.Displacement.{displacement_from, corrected}
use Rattle.coefficients.specs.Dcs.{added}
use Rattle.coefficients.specs.Dequantise.{quantiser, dequantised}
use Rattle.prediction.specs.Predict.{chroma}
use Rattle.prediction.specs.Samples.{average4}
use Rattle.argb.specs.Pixel.{argb}

-- a rule with what is given
pub data RuleInput : Type 0 where
  vector : (f : ℕ) (component code : ℤ) (residual : ℕ) → RuleInput
  moved : (f : ℕ) (component displacement : ℤ) → RuleInput
  average : (a b c d : ℕ) → RuleInput
  chroma_half : (component : ℤ) → RuleInput
  dc : (predictor : ℤ) (bits differential : ℕ) → RuleInput
  intra_ac : (level : ℤ) (scale entry : ℕ) → RuleInput
  pixel : (y cr cb : ℕ) → RuleInput

-- what the definitions of the contracts make of it
unfoldable pub evaluated : RuleInput → ℤ
evaluated (vector f component code residual) = corrected f (component +ℤ displacement_from f code residual)
evaluated (moved f component displacement) = corrected f (component +ℤ displacement)
evaluated (average a b c d) = pos (average4 a b c d)
evaluated (chroma_half component) = chroma component
evaluated (dc predictor bits differential) = predictor +ℤ added bits differential
evaluated (intra_ac level scale entry) = dequantised (quantiser true scale) level entry
evaluated (pixel y cr cb) = pos (argb y cr cb)

pub record Case : Type 0 where
  pub given : RuleInput
  pub gives : ℤ

infix 3 ◌⇒◌
abbrev pub ◌⇒◌ : RuleInput → ℤ → Case
g ⇒ z = record { given = g; gives = z }

abbrev pub minus : ℕ → ℤ
minus n = neg_ℤ (pos n)

unfoldable pub cases : List Case
cases =
    (vector 1 (pos 15) (pos 1) 0 ⇒ minus 16) ∷
    (vector 1 (minus 16) (minus 1) 0 ⇒ pos 15) ∷
    (vector 4 (pos 60) (pos 2) 3 ⇒ minus 60) ∷
    (moved 64 (minus 1024) (minus 1024) ⇒ pos 0) ∷
    (average 0 0 0 1 ⇒ pos 0) ∷
    (average 0 0 1 1 ⇒ pos 1) ∷
    (chroma_half (minus 3) ⇒ minus 1) ∷
    (dc (pos 128) 3 0b101 ⇒ pos 133) ∷
    (dc (pos 128) 3 0b010 ⇒ pos 123) ∷
    (intra_ac (pos 1) 1 19 ⇒ pos 1) ∷
    (intra_ac (pos 255) 31 83 ⇒ pos 2047) ∷
    (intra_ac (pos 0) 1 19 ⇒ pos 1) ∷
    (pixel 235 128 128 ⇒ pos 0xfffefefe) ∷
    []
