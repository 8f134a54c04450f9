-- RULES "Order", D1.3: the numbers that each call can answer.
use Rattle.std.specs.Prelude.{Bool, false, ◌||◌, List, [], ◌∷◌, ℕ, eqb}

unfoldable pub member : ℕ → List ℕ → Bool
member n [] = false
member n (m ∷ ms) = eqb n m || member n ms

abbrev pub opening_error_codes : List ℕ
opening_error_codes = 1 ∷ 3 ∷ 4 ∷ 5 ∷ 6 ∷ []

abbrev pub decode_error_codes : List ℕ
decode_error_codes = 1 ∷ 2 ∷ 3 ∷ 4 ∷ 5 ∷ 6 ∷ 7 ∷ 8 ∷ 9 ∷ []

abbrev pub conversion_error_codes : List ℕ
conversion_error_codes = 2 ∷ 6 ∷ 10 ∷ 11 ∷ []
