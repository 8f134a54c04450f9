-- The differences of DC values as 11172-2 prints them (2.4.3.7): for each dct_dc_size which bits say which difference.
use Rattle.std.specs.Prelude.{Bool, cond, ◌&&◌, List, [], ◌∷◌, ℕ, ◌-◌, eqb, leb, ℤ, pos, neg_ℤ, ◌+ℤ◌}

-- a line: the bits count up from the first to the last, and so do the differences
pub record Line : Type 0 where
  pub size : ℕ
  pub bits : ℕ
  pub last_bits : ℕ
  pub difference : ℤ
  pub last_difference : ℤ

infix 3 ◌﹕◌to◌say◌to◌
abbrev pub ◌﹕◌to◌say◌to◌ : ℕ → ℕ → ℕ → ℤ → ℤ → Line
size ﹕ b to c say x to y = record { size = size; bits = b; last_bits = c; difference = x; last_difference = y }

abbrev pub minus : ℕ → ℤ
minus n = neg_ℤ (pos n)

abbrev pub lines : List Line
lines =
    (0 ﹕ 0 to 0 say pos 0 to pos 0) ∷
    (1 ﹕ 0b0 to 0b0 say minus 1 to minus 1) ∷
    (1 ﹕ 0b1 to 0b1 say pos 1 to pos 1) ∷
    (2 ﹕ 0b00 to 0b01 say minus 3 to minus 2) ∷
    (2 ﹕ 0b10 to 0b11 say pos 2 to pos 3) ∷
    (3 ﹕ 0b000 to 0b011 say minus 7 to minus 4) ∷
    (3 ﹕ 0b100 to 0b111 say pos 4 to pos 7) ∷
    (4 ﹕ 0b0000 to 0b0111 say minus 15 to minus 8) ∷
    (4 ﹕ 0b1000 to 0b1111 say pos 8 to pos 15) ∷
    (5 ﹕ 0b0_0000 to 0b0_1111 say minus 31 to minus 16) ∷
    (5 ﹕ 0b1_0000 to 0b1_1111 say pos 16 to pos 31) ∷
    (6 ﹕ 0b00_0000 to 0b01_1111 say minus 63 to minus 32) ∷
    (6 ﹕ 0b10_0000 to 0b11_1111 say pos 32 to pos 63) ∷
    (7 ﹕ 0b000_0000 to 0b011_1111 say minus 127 to minus 64) ∷
    (7 ﹕ 0b100_0000 to 0b111_1111 say pos 64 to pos 127) ∷
    (8 ﹕ 0b0000_0000 to 0b0111_1111 say minus 255 to minus 128) ∷
    (8 ﹕ 0b1000_0000 to 0b1111_1111 say pos 128 to pos 255) ∷
    []

-- does the line have these bits of this size?
abbrev pub has : ℕ → ℕ → Line → Bool
has size b x = eqb size x.size && leb x.bits b && leb b x.last_bits

-- the difference that the first line which has them says; 0 where none has
abbrev pub difference_in : List Line → ℕ → ℕ → ℤ
difference_in [] size b = pos 0
difference_in (x ∷ xs) size b = cond (has size b x) (x.difference +ℤ pos (b - x.bits)) (difference_in xs size b)
