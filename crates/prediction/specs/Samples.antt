-- RULES 6.7, 6.8: samples and their averages.
use Rattle.std.specs.Prelude.{Bool, cond, List, ℕ, ◌+◌, ◌/◌, get_or}

-- the average of two, rounded once
abbrev pub average2 : ℕ → ℕ → ℕ
average2 a b = (a + b + 1) / 2

-- the average of four, rounded once
abbrev pub average4 : ℕ → ℕ → ℕ → ℕ → ℕ
average4 a b c d = (a + b + c + d + 2) / 4

-- the sample of the plane s, whose rows are dw wide, at the address i: itself, or averaged with the one to the right, the one below, or both
unfoldable pub sample : List ℕ → ℕ → Bool → Bool → ℕ → ℕ
sample s dw across down i =
    cond across
    (cond down (average4 (get_or s i 0) (get_or s (i + 1) 0) (get_or s (i + dw) 0) (get_or s (i + dw + 1) 0)) (average2 (get_or s i 0) (get_or s (i + 1) 0)))
    (cond down (average2 (get_or s i 0) (get_or s (i + dw) 0)) (get_or s i 0))

-- a predicted sample in place of an old one, or averaged with it
abbrev pub stored_sample : Bool → ℕ → ℕ → ℕ
stored_sample interpolate old new = cond interpolate (average2 old new) new
