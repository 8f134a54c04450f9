-- RULES 2.12: the flags of a macroblock type, and the bits of a coded block pattern.
use Rattle.std.specs.Prelude.{Bool, ℕ, ◌/◌, ◌%◌, eqb}

-- RULES 2.12: does the sum t have the flag n?
abbrev pub flag : ℕ → ℕ → Bool
flag t n = eqb (t / n % 2) 1

-- RULES 2.12: the flag "intra"
abbrev pub is_intra : ℕ → Bool
is_intra t = flag t 1
