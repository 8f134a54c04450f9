-- Aspect ratios and picture rates by their codes.
use Rattle.std.specs.Prelude.{ℕ, List, [], ◌∷◌, pos, Float}
use Rattle.std.specs.Float.{binary64}
use Rattle.std.specs.Float.Ieee.{div, of_int}

-- the double nearest to n ÷ m
abbrev pub decimal : ℕ → ℕ → Float
decimal n m = div binary64 (of_int binary64 (pos n)) (of_int binary64 (pos m))

-- RULES 2.8: the ratios of the codes 1 to 14
unfoldable pub pixel_aspect_ratio : List Float
pixel_aspect_ratio =
    decimal 10000 10000 ∷ decimal 6735 10000 ∷ decimal 7031 10000 ∷ decimal 7615 10000 ∷ decimal 8055 10000 ∷ decimal 8437 10000 ∷
    decimal 8935 10000 ∷
    decimal 9157 10000 ∷ decimal 9815 10000 ∷ decimal 10255 10000 ∷ decimal 10695 10000 ∷ decimal 10950 10000 ∷ decimal 11575 10000 ∷
    decimal 12051 10000 ∷ []

-- RULES 2.9: the rates of the codes 0 to 15
unfoldable pub picture_rate : List Float
picture_rate =
    decimal 0 1000 ∷ decimal 23976 1000 ∷ decimal 24000 1000 ∷ decimal 25000 1000 ∷ decimal 29970 1000 ∷ decimal 30000 1000 ∷
    decimal 50000 1000 ∷ decimal 59940 1000 ∷
    decimal 60000 1000 ∷ decimal 0 1000 ∷ decimal 0 1000 ∷ decimal 0 1000 ∷ decimal 0 1000 ∷ decimal 0 1000 ∷ decimal 0 1000 ∷
    decimal 0 1000 ∷ []
