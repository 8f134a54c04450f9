-- RULES C.3, Q: what each answer says: a result with its values, or a number. The enums of the answers are taken apart here only.
use Rattle.std.specs.Prelude.{ℕ}
use Rattle.decoder.specs.declared.answers.{Opening.Opening, Converted.Converted}
use Rattle.decoder.specs.declared.answers.Opening.TheVariants as O
use Rattle.playback.specs.declared.outcome.{Shown.Shown, Outcome.Outcome}
use Rattle.playback.specs.declared.outcome.Outcome.TheVariants as H
use Rattle.decoder.specs.declared.answers.Converted.TheVariants as C

-- RULES C.3: an answer
pub data Answer (A : Type 0) : Type 0 where
  result : A → Answer A  -- a result with its values
  number : ℕ → Answer A  -- the number of the question answered "no"

-- RULES O.2: of opening
abbrev pub opening_answer : Opening → Answer (Unit {0})
opening_answer x = elim x [ O.Ready ↦ result tt | O.Refused n ↦ number n ]

-- RULES Q, 8.9: of a hand-out: the number of the store, and the time shown
abbrev pub decode_answer : Outcome → Answer Shown
decode_answer x = elim x [ H.Picture p ↦ result p | H.Refused n ↦ number n ]

-- RULES Q: of the conversion
abbrev pub conversion_answer : Converted → Answer (Unit {0})
conversion_answer x = elim x [ C.Written ↦ result tt | C.Refused n ↦ number n ]

-- RULES C.3: an answer as a number, 0 for a result
abbrev pub answer_error_code : {A : Type 0} → Answer A → ℕ
answer_error_code (result x) = 0
answer_error_code (number n) = n

abbrev pub opening_error_code : Opening → ℕ
opening_error_code x = answer_error_code (opening_answer x)

abbrev pub decode_error_code : Outcome → ℕ
decode_error_code x = answer_error_code (decode_answer x)

abbrev pub conversion_error_code : Converted → ℕ
conversion_error_code x = answer_error_code (conversion_answer x)
