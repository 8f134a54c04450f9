-- The code tables of ISO/IEC 11172-2, Annex B, as printed: code words beside their values. A word is written with all its digits, and its length before it.
use Rattle.std.specs.Prelude.{ℕ, min, max, ◌+◌, ◌-◌, ◌*◌, ◌/◌, ◌^◌, ◌≤◌, ◌≡◌, length, ℤ, pos, neg_ℤ}
use mathlib.Core.List.{List, [], ◌∷◌, Memᴰ}
use Rattle.bits.specs.Bits.{bits_at}

pub record Code (A : Type 0) : Type 0 where
  pub bits : ℕ
  pub word : ℕ
  pub value : A

abbrev pub code : {A : Type 0} → ℕ → ℕ → A → Code A
code n w v = record { bits = n; word = w; value = v }

-- a value below 0
abbrev pub minus : ℕ → ℤ
minus v = neg_ℤ (pos v)

-- a macroblock_type by the five columns of its row: macroblock_quant, macroblock_motion_forward, macroblock_motion_backward, macroblock_pattern,
-- macroblock_intra; its value is the sum of the flags (RULES 2.12)
abbrev pub macroblock_type_code : ℕ → ℕ → ℕ → ℕ → ℕ → ℕ → ℕ → Code ℕ
macroblock_type_code n w quant forward backward pattern intra = code n w (quant * 16 + forward * 8 + backward * 4 + pattern * 2 + intra)

-- a code of dct_coeff_first: run and level as one number (RULES 2.10)
abbrev pub run_level_code : ℕ → ℕ → ℕ → ℕ → Code ℕ
run_level_code n w run level = code n w (run * 256 + level)

-- c is one of the codes printed
infix 4 ◌∈◌
abbrev pub ◌∈◌ : {A : Type 0} → Code A → List (Code A) → Type 0
c ∈ codes = Memᴰ c codes

-- the code word of c stands at the place a of s; past the end each bit is 0 (RULES 2.6)
abbrev pub CodeWordAt : {A : Type 0} → Code A → List ℕ → ℕ → Type 0
CodeWordAt c s a = bits_at s a c.bits ≡ c.word

-- the code word of c begins with the n bits that make the number w
pub record Begins {A : Type 0} (c : Code A) (n w : ℕ) : Type 0 where
  pub long : n ≤ c.bits
  pub front : c.word / 2 ^ (c.bits - n) ≡ w

-- some code of the list begins with the n bits that make w, so that after them a code is still possible
pub record IsCodePrefix {A : Type 0} (codes : List (Code A)) (n w : ℕ) : Type 0 where
  pub some : Code A
  pub printed : some ∈ codes
  pub begins : Begins some n w

-- where n single bits, read from the place a on, end: n bits on, and no further than the end of the stream
abbrev pub taken : List ℕ → ℕ → ℕ → ℕ
taken s a n = min (a + n) (max a (length s * 8))

-- Table B.1: macroblock_address_increment 1 to 33, macroblock_stuffing (34), macroblock_escape (35)
unfoldable pub macroblock_address_increment_codes : List (Code ℕ)
macroblock_address_increment_codes =
    code 1 0b1 1 ∷
    code 3 0b011 2 ∷
    code 3 0b010 3 ∷
    code 4 0b0011 4 ∷
    code 4 0b0010 5 ∷
    code 5 0b0001_1 6 ∷
    code 5 0b0001_0 7 ∷
    code 7 0b0000_111 8 ∷
    code 7 0b0000_110 9 ∷
    code 8 0b0000_1011 10 ∷
    code 8 0b0000_1010 11 ∷
    code 8 0b0000_1001 12 ∷
    code 8 0b0000_1000 13 ∷
    code 8 0b0000_0111 14 ∷
    code 8 0b0000_0110 15 ∷
    code 10 0b0000_0101_11 16 ∷
    code 10 0b0000_0101_10 17 ∷
    code 10 0b0000_0101_01 18 ∷
    code 10 0b0000_0101_00 19 ∷
    code 10 0b0000_0100_11 20 ∷
    code 10 0b0000_0100_10 21 ∷
    code 11 0b0000_0100_011 22 ∷
    code 11 0b0000_0100_010 23 ∷
    code 11 0b0000_0100_001 24 ∷
    code 11 0b0000_0100_000 25 ∷
    code 11 0b0000_0011_111 26 ∷
    code 11 0b0000_0011_110 27 ∷
    code 11 0b0000_0011_101 28 ∷
    code 11 0b0000_0011_100 29 ∷
    code 11 0b0000_0011_011 30 ∷
    code 11 0b0000_0011_010 31 ∷
    code 11 0b0000_0011_001 32 ∷
    code 11 0b0000_0011_000 33 ∷
    code 11 0b0000_0001_111 34 ∷
    code 11 0b0000_0001_000 35 ∷
    []

-- Table B.2a: macroblock_type of I pictures
unfoldable pub macroblock_type_intra_codes : List (Code ℕ)
macroblock_type_intra_codes =
    macroblock_type_code 1 0b1 0 0 0 0 1 ∷
    macroblock_type_code 2 0b01 1 0 0 0 1 ∷
    []

-- Table B.2b: macroblock_type of P pictures
unfoldable pub macroblock_type_predictive_codes : List (Code ℕ)
macroblock_type_predictive_codes =
    macroblock_type_code 1 0b1 0 1 0 1 0 ∷
    macroblock_type_code 2 0b01 0 0 0 1 0 ∷
    macroblock_type_code 3 0b001 0 1 0 0 0 ∷
    macroblock_type_code 5 0b0001_1 0 0 0 0 1 ∷
    macroblock_type_code 5 0b0001_0 1 1 0 1 0 ∷
    macroblock_type_code 5 0b0000_1 1 0 0 1 0 ∷
    macroblock_type_code 6 0b0000_01 1 0 0 0 1 ∷
    []

-- Table B.2c: macroblock_type of B pictures
unfoldable pub macroblock_type_b_codes : List (Code ℕ)
macroblock_type_b_codes =
    macroblock_type_code 2 0b10 0 1 1 0 0 ∷
    macroblock_type_code 2 0b11 0 1 1 1 0 ∷
    macroblock_type_code 3 0b010 0 0 1 0 0 ∷
    macroblock_type_code 3 0b011 0 0 1 1 0 ∷
    macroblock_type_code 4 0b0010 0 1 0 0 0 ∷
    macroblock_type_code 4 0b0011 0 1 0 1 0 ∷
    macroblock_type_code 5 0b0001_1 0 0 0 0 1 ∷
    macroblock_type_code 5 0b0001_0 1 1 1 1 0 ∷
    macroblock_type_code 6 0b0000_11 1 1 0 1 0 ∷
    macroblock_type_code 6 0b0000_10 1 0 1 1 0 ∷
    macroblock_type_code 6 0b0000_01 1 0 0 0 1 ∷
    []

-- Table B.3: coded_block_pattern
unfoldable pub code_block_pattern_codes : List (Code ℕ)
code_block_pattern_codes =
    code 3 0b111 60 ∷
    code 4 0b1101 4 ∷
    code 4 0b1100 8 ∷
    code 4 0b1011 16 ∷
    code 4 0b1010 32 ∷
    code 5 0b1001_1 12 ∷
    code 5 0b1001_0 48 ∷
    code 5 0b1000_1 20 ∷
    code 5 0b1000_0 40 ∷
    code 5 0b0111_1 28 ∷
    code 5 0b0111_0 44 ∷
    code 5 0b0110_1 52 ∷
    code 5 0b0110_0 56 ∷
    code 5 0b0101_1 1 ∷
    code 5 0b0101_0 61 ∷
    code 5 0b0100_1 2 ∷
    code 5 0b0100_0 62 ∷
    code 6 0b0011_11 24 ∷
    code 6 0b0011_10 36 ∷
    code 6 0b0011_01 3 ∷
    code 6 0b0011_00 63 ∷
    code 7 0b0010_111 5 ∷
    code 7 0b0010_110 9 ∷
    code 7 0b0010_101 17 ∷
    code 7 0b0010_100 33 ∷
    code 7 0b0010_011 6 ∷
    code 7 0b0010_010 10 ∷
    code 7 0b0010_001 18 ∷
    code 7 0b0010_000 34 ∷
    code 8 0b0001_1111 7 ∷
    code 8 0b0001_1110 11 ∷
    code 8 0b0001_1101 19 ∷
    code 8 0b0001_1100 35 ∷
    code 8 0b0001_1011 13 ∷
    code 8 0b0001_1010 49 ∷
    code 8 0b0001_1001 21 ∷
    code 8 0b0001_1000 41 ∷
    code 8 0b0001_0111 14 ∷
    code 8 0b0001_0110 50 ∷
    code 8 0b0001_0101 22 ∷
    code 8 0b0001_0100 42 ∷
    code 8 0b0001_0011 15 ∷
    code 8 0b0001_0010 51 ∷
    code 8 0b0001_0001 23 ∷
    code 8 0b0001_0000 43 ∷
    code 8 0b0000_1111 25 ∷
    code 8 0b0000_1110 37 ∷
    code 8 0b0000_1101 26 ∷
    code 8 0b0000_1100 38 ∷
    code 8 0b0000_1011 29 ∷
    code 8 0b0000_1010 45 ∷
    code 8 0b0000_1001 53 ∷
    code 8 0b0000_1000 57 ∷
    code 8 0b0000_0111 30 ∷
    code 8 0b0000_0110 46 ∷
    code 8 0b0000_0101 54 ∷
    code 8 0b0000_0100 58 ∷
    code 9 0b0000_0011_1 31 ∷
    code 9 0b0000_0011_0 47 ∷
    code 9 0b0000_0010_1 55 ∷
    code 9 0b0000_0010_0 59 ∷
    code 9 0b0000_0001_1 27 ∷
    code 9 0b0000_0001_0 39 ∷
    []

-- Table B.4: motion_horizontal_forward_code and the three others
unfoldable pub motion_codes : List (Code ℤ)
motion_codes =
    code 11 0b0000_0011_001 (minus 16) ∷
    code 11 0b0000_0011_011 (minus 15) ∷
    code 11 0b0000_0011_101 (minus 14) ∷
    code 11 0b0000_0011_111 (minus 13) ∷
    code 11 0b0000_0100_001 (minus 12) ∷
    code 11 0b0000_0100_011 (minus 11) ∷
    code 10 0b0000_0100_11 (minus 10) ∷
    code 10 0b0000_0101_01 (minus 9) ∷
    code 10 0b0000_0101_11 (minus 8) ∷
    code 8 0b0000_0111 (minus 7) ∷
    code 8 0b0000_1001 (minus 6) ∷
    code 8 0b0000_1011 (minus 5) ∷
    code 7 0b0000_111 (minus 4) ∷
    code 5 0b0001_1 (minus 3) ∷
    code 4 0b0011 (minus 2) ∷
    code 3 0b011 (minus 1) ∷
    code 1 0b1 (pos 0) ∷
    code 3 0b010 (pos 1) ∷
    code 4 0b0010 (pos 2) ∷
    code 5 0b0001_0 (pos 3) ∷
    code 7 0b0000_110 (pos 4) ∷
    code 8 0b0000_1010 (pos 5) ∷
    code 8 0b0000_1000 (pos 6) ∷
    code 8 0b0000_0110 (pos 7) ∷
    code 10 0b0000_0101_10 (pos 8) ∷
    code 10 0b0000_0101_00 (pos 9) ∷
    code 10 0b0000_0100_10 (pos 10) ∷
    code 11 0b0000_0100_010 (pos 11) ∷
    code 11 0b0000_0100_000 (pos 12) ∷
    code 11 0b0000_0011_110 (pos 13) ∷
    code 11 0b0000_0011_100 (pos 14) ∷
    code 11 0b0000_0011_010 (pos 15) ∷
    code 11 0b0000_0011_000 (pos 16) ∷
    []

-- Table B.5a: dct_dc_size_luminance
unfoldable pub dct_size_luminance_codes : List (Code ℕ)
dct_size_luminance_codes =
    code 3 0b100 0 ∷
    code 2 0b00 1 ∷
    code 2 0b01 2 ∷
    code 3 0b101 3 ∷
    code 3 0b110 4 ∷
    code 4 0b1110 5 ∷
    code 5 0b1111_0 6 ∷
    code 6 0b1111_10 7 ∷
    code 7 0b1111_110 8 ∷
    []

-- Table B.5b: dct_dc_size_chrominance
unfoldable pub dct_size_chrominance_codes : List (Code ℕ)
dct_size_chrominance_codes =
    code 2 0b00 0 ∷
    code 2 0b01 1 ∷
    code 2 0b10 2 ∷
    code 3 0b110 3 ∷
    code 4 0b1110 4 ∷
    code 5 0b1111_0 5 ∷
    code 6 0b1111_10 6 ∷
    code 7 0b1111_110 7 ∷
    code 8 0b1111_1110 8 ∷
    []

-- Table B.5c and those behind it: dct_coeff_first, run and level, without the sign bit; and the escape. By length, run and level
unfoldable pub dct_coeff_codes : List (Code ℕ)
dct_coeff_codes =
    run_level_code 1 0b1 0 1 ∷
    run_level_code 3 0b011 1 1 ∷
    run_level_code 4 0b0100 0 2 ∷
    run_level_code 4 0b0101 2 1 ∷
    run_level_code 5 0b0010_1 0 3 ∷
    run_level_code 5 0b0011_1 3 1 ∷
    run_level_code 5 0b0011_0 4 1 ∷
    run_level_code 6 0b0001_10 1 2 ∷
    run_level_code 6 0b0001_11 5 1 ∷
    run_level_code 6 0b0001_01 6 1 ∷
    run_level_code 6 0b0001_00 7 1 ∷
    run_level_code 7 0b0000_110 0 4 ∷
    run_level_code 7 0b0000_100 2 2 ∷
    run_level_code 7 0b0000_111 8 1 ∷
    run_level_code 7 0b0000_101 9 1 ∷
    code 6 0b0000_01 0xffff ∷
    run_level_code 8 0b0010_0110 0 5 ∷
    run_level_code 8 0b0010_0001 0 6 ∷
    run_level_code 8 0b0010_0101 1 3 ∷
    run_level_code 8 0b0010_0100 3 2 ∷
    run_level_code 8 0b0010_0111 10 1 ∷
    run_level_code 8 0b0010_0011 11 1 ∷
    run_level_code 8 0b0010_0010 12 1 ∷
    run_level_code 8 0b0010_0000 13 1 ∷
    run_level_code 10 0b0000_0010_10 0 7 ∷
    run_level_code 10 0b0000_0011_00 1 4 ∷
    run_level_code 10 0b0000_0010_11 2 3 ∷
    run_level_code 10 0b0000_0011_11 4 2 ∷
    run_level_code 10 0b0000_0010_01 5 2 ∷
    run_level_code 10 0b0000_0011_10 14 1 ∷
    run_level_code 10 0b0000_0011_01 15 1 ∷
    run_level_code 10 0b0000_0010_00 16 1 ∷
    run_level_code 12 0b0000_0001_1101 0 8 ∷
    run_level_code 12 0b0000_0001_1000 0 9 ∷
    run_level_code 12 0b0000_0001_0011 0 10 ∷
    run_level_code 12 0b0000_0001_0000 0 11 ∷
    run_level_code 12 0b0000_0001_1011 1 5 ∷
    run_level_code 12 0b0000_0001_0100 2 4 ∷
    run_level_code 12 0b0000_0001_1100 3 3 ∷
    run_level_code 12 0b0000_0001_0010 4 3 ∷
    run_level_code 12 0b0000_0001_1110 6 2 ∷
    run_level_code 12 0b0000_0001_0101 7 2 ∷
    run_level_code 12 0b0000_0001_0001 8 2 ∷
    run_level_code 12 0b0000_0001_1111 17 1 ∷
    run_level_code 12 0b0000_0001_1010 18 1 ∷
    run_level_code 12 0b0000_0001_1001 19 1 ∷
    run_level_code 12 0b0000_0001_0111 20 1 ∷
    run_level_code 12 0b0000_0001_0110 21 1 ∷
    run_level_code 13 0b0000_0000_1101_0 0 12 ∷
    run_level_code 13 0b0000_0000_1100_1 0 13 ∷
    run_level_code 13 0b0000_0000_1100_0 0 14 ∷
    run_level_code 13 0b0000_0000_1011_1 0 15 ∷
    run_level_code 13 0b0000_0000_1011_0 1 6 ∷
    run_level_code 13 0b0000_0000_1010_1 1 7 ∷
    run_level_code 13 0b0000_0000_1010_0 2 5 ∷
    run_level_code 13 0b0000_0000_1001_1 3 4 ∷
    run_level_code 13 0b0000_0000_1001_0 5 3 ∷
    run_level_code 13 0b0000_0000_1000_1 9 2 ∷
    run_level_code 13 0b0000_0000_1000_0 10 2 ∷
    run_level_code 13 0b0000_0000_1111_1 22 1 ∷
    run_level_code 13 0b0000_0000_1111_0 23 1 ∷
    run_level_code 13 0b0000_0000_1110_1 24 1 ∷
    run_level_code 13 0b0000_0000_1110_0 25 1 ∷
    run_level_code 13 0b0000_0000_1101_1 26 1 ∷
    run_level_code 14 0b0000_0000_0111_11 0 16 ∷
    run_level_code 14 0b0000_0000_0111_10 0 17 ∷
    run_level_code 14 0b0000_0000_0111_01 0 18 ∷
    run_level_code 14 0b0000_0000_0111_00 0 19 ∷
    run_level_code 14 0b0000_0000_0110_11 0 20 ∷
    run_level_code 14 0b0000_0000_0110_10 0 21 ∷
    run_level_code 14 0b0000_0000_0110_01 0 22 ∷
    run_level_code 14 0b0000_0000_0110_00 0 23 ∷
    run_level_code 14 0b0000_0000_0101_11 0 24 ∷
    run_level_code 14 0b0000_0000_0101_10 0 25 ∷
    run_level_code 14 0b0000_0000_0101_01 0 26 ∷
    run_level_code 14 0b0000_0000_0101_00 0 27 ∷
    run_level_code 14 0b0000_0000_0100_11 0 28 ∷
    run_level_code 14 0b0000_0000_0100_10 0 29 ∷
    run_level_code 14 0b0000_0000_0100_01 0 30 ∷
    run_level_code 14 0b0000_0000_0100_00 0 31 ∷
    run_level_code 15 0b0000_0000_0011_000 0 32 ∷
    run_level_code 15 0b0000_0000_0010_111 0 33 ∷
    run_level_code 15 0b0000_0000_0010_110 0 34 ∷
    run_level_code 15 0b0000_0000_0010_101 0 35 ∷
    run_level_code 15 0b0000_0000_0010_100 0 36 ∷
    run_level_code 15 0b0000_0000_0010_011 0 37 ∷
    run_level_code 15 0b0000_0000_0010_010 0 38 ∷
    run_level_code 15 0b0000_0000_0010_001 0 39 ∷
    run_level_code 15 0b0000_0000_0010_000 0 40 ∷
    run_level_code 15 0b0000_0000_0011_111 1 8 ∷
    run_level_code 15 0b0000_0000_0011_110 1 9 ∷
    run_level_code 15 0b0000_0000_0011_101 1 10 ∷
    run_level_code 15 0b0000_0000_0011_100 1 11 ∷
    run_level_code 15 0b0000_0000_0011_011 1 12 ∷
    run_level_code 15 0b0000_0000_0011_010 1 13 ∷
    run_level_code 15 0b0000_0000_0011_001 1 14 ∷
    run_level_code 16 0b0000_0000_0001_0011 1 15 ∷
    run_level_code 16 0b0000_0000_0001_0010 1 16 ∷
    run_level_code 16 0b0000_0000_0001_0001 1 17 ∷
    run_level_code 16 0b0000_0000_0001_0000 1 18 ∷
    run_level_code 16 0b0000_0000_0001_0100 6 3 ∷
    run_level_code 16 0b0000_0000_0001_1010 11 2 ∷
    run_level_code 16 0b0000_0000_0001_1001 12 2 ∷
    run_level_code 16 0b0000_0000_0001_1000 13 2 ∷
    run_level_code 16 0b0000_0000_0001_0111 14 2 ∷
    run_level_code 16 0b0000_0000_0001_0110 15 2 ∷
    run_level_code 16 0b0000_0000_0001_0101 16 2 ∷
    run_level_code 16 0b0000_0000_0001_1111 27 1 ∷
    run_level_code 16 0b0000_0000_0001_1110 28 1 ∷
    run_level_code 16 0b0000_0000_0001_1101 29 1 ∷
    run_level_code 16 0b0000_0000_0001_1100 30 1 ∷
    run_level_code 16 0b0000_0000_0001_1011 31 1 ∷
    []
