-- The DC value of an intra block.
use Rattle.std.specs.Prelude.{Bool, cond, ◌&&◌, ℕ, ◌+◌, ◌-◌, ◌/◌, ◌%◌, ◌^◌, eqb, ℤ, pos, neg_ℤ, ◌-ℤ◌}
use Rattle.std.specs.Int.Signed.{le_z}
use Rattle.bits.specs.Programs.{Prog, done, bits, ◌>>=◌, when◌then◌else◌}
use Rattle.codes.specs.Codes.{dct_size_luminance, dct_size_chrominance}
use Rattle.coefficients.specs.DcTable.{lines, difference_in}

-- RULES 3.1: the differential's size, by the table for blocks of Y or by the one for Cb and Cr
unfoldable pub dc_size : Bool → Prog ℕ
dc_size luminance = when luminance then dct_size_luminance else dct_size_chrominance

-- RULES 3.2: what a differential d of s bits adds, by the printed table
unfoldable pub added : ℕ → ℕ → ℤ
added s d = difference_in lines s d

-- RULES 3.2, the same as a formula: d itself where its top bit is 1, else d + 1 - 2 ^ s
unfoldable pub by_top_bit : ℕ → ℕ → ℤ
by_top_bit s d = cond (eqb (d / 2 ^ (s - 1) % 2) 1) (pos d) (pos (d + 1) -ℤ pos (2 ^ s))

-- RULES 3.2: what the DC value adds to the predictor: 0 where the size is 0, else what the differential adds
unfoldable pub dc_difference : Bool → Prog ℤ
dc_difference luminance = do
  s ← dc_size luminance
  when eqb s 0 then done (pos 0) else do
    d ← bits s
    done (added s d)

-- RULES Q8
abbrev pub dc_in_range : ℤ → Bool
dc_in_range x = le_z (neg_ℤ (pos 256)) x && le_z x (pos 255)
