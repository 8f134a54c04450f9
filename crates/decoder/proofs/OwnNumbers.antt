-- RULES C.3: as a number a result is 0, and a refusal its own.
use mathlib.Core.Path.{◌≡◌, refl}
use Prim.Native.Nat.{ℕ}
use Rattle.decoder.specs.declared.answers.Opening.TheVariants as O
use Rattle.decoder.specs.declared.answers.Converted.TheVariants as C
use Rattle.playback.specs.declared.outcome.Shown.{Shown}
use Rattle.playback.specs.declared.outcome.Outcome.TheVariants as H
use Rattle.decoder.specs.Answers.{opening_error_code, decode_error_code, conversion_error_code}

pub record OwnNumbers : Type 0 where
  pub opening : (opening_error_code O.Ready ≡ 0) × ((n : ℕ) → opening_error_code (O.Refused n) ≡ n)
  pub decode : ((i : Shown) → decode_error_code (H.Picture i) ≡ 0) × ((n : ℕ) → decode_error_code (H.Refused n) ≡ n)
  pub conversion : (conversion_error_code C.Written ≡ 0) × ((n : ℕ) → conversion_error_code (C.Refused n) ≡ n)

pub own-numbers : OwnNumbers
own-numbers = record { opening = (refl, λ n. refl); decode = (λ i. refl, λ n. refl); conversion = (refl, λ n. refl) }
