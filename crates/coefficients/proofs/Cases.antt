-- The worked cases W.8 to W.12 of docs/RULES.md, and a few more, computed by the definitions. Assumes nothing.
use mathlib.Core.Path.{◌≡◌, refl}
use mathlib.Core.Bool.{true}
use mathlib.Core.List.{[], ◌∷◌}
use Prim.Native.Nat.{ℕ}
use native.Mathlib.Nat.{zero-mul}
use lib.IntN.{pos, negsuc, ◌+ℤ◌}
use lib.ListN.{set, replicate}
use Rattle.laws.specs.Signed.{odd}
use Rattle.bits.specs.Bits.{bit_at, bits_at, read_at, after_read}
use Rattle.bits.specs.Programs.{run, bind, loop}
use Rattle.codes.specs.Codes.{dct_size_luminance, dct_coeff}
use Rattle.codes.specs.Tables.{dct_size_luminance_index, dct_size_luminance_value, dct_coeff_index, dct_coeff_value}
use Rattle.codes.specs.Matrices.{zig_zag, diagonals, down_from, premultiplier_matrix}
use Rattle.codes.specs.Walk.{vlc, walk, walk_step}
use Rattle.coefficients.specs.declared.block.BlockEnd.TheVariants.{Complete, Dropped}
use Rattle.coefficients.specs.Coefficients.{coefficient, run_level, escape, escape_level}
use Rattle.coefficients.specs.Dcs.{added, dc_difference, dc_size}
use Rattle.coefficients.specs.Dequantise.{quantiser, dequantised}
use Rattle.coefficients.specs.Syntax.{pair_step, pairs, intra_coded, coded_block}
use Rattle.coefficients.specs.Blocks.{block_coefficients, with_pairs, reconstructed, block}

pub w8 : pos 128 +ℤ added 3 0b101 ≡ pos 133
unfolding added
w8 = refl

pub w9 : pos 128 +ℤ added 3 0b010 ≡ pos 123
unfolding added
w9 = refl

-- the differences from a stream: 101 is the code of size 3
pub w8-read : run (dc_difference true) (0b10110100 ∷ []) 0 ≡ record { value = pos 5; at = 6 }
unfolding run bind loop read_at after_read bits_at bit_at dc_difference dc_size dct_size_luminance dct_size_luminance_index
    dct_size_luminance_value vlc walk walk_step added
w8-read = refl

pub w9-read : run (dc_difference true) (0b10101000 ∷ []) 0 ≡ record { value = negsuc 4; at = 6 }
unfolding run bind loop read_at after_read bits_at bit_at dc_difference dc_size dct_size_luminance dct_size_luminance_index
    dct_size_luminance_value vlc walk walk_step added
w9-read = refl

pub w10 : dequantised (quantiser true 1) (pos 1) 19 ≡ pos 1
unfolding dequantised odd
w10 = refl

pub w11 : dequantised (quantiser true 31) (pos 255) 83 ≡ pos 2047
unfolding dequantised odd
w11 = refl

pub w12 : (scale entry : ℕ) → dequantised (quantiser true scale) (pos 0) entry ≡ pos 1
unfolding dequantised odd
w12 scale entry = rw (zero-mul scale, zero-mul entry)

-- RULES 3.8, steps 5 and 6 in this order: the quotient -2050 is made odd, -2049, and then clipped; the other order would give -2047
pub below_clip : dequantised (quantiser true 8) (negsuc 24) 82 ≡ negsuc 2047
unfolding dequantised odd
below_clip = refl

-- an intra block: size 0 (100), so the predictor 128; run 0 and level 1 (11, sign 0) at place 1; the end (10)
pub whole : run (block (quantiser true 1) (replicate 64 19) true (pos 128) (replicate 64 (pos 0))) (0b10011010 ∷ []) 0
    ≡ record {
      value = record
          { block_coefficients = block_coefficients (set (set (replicate 64 (pos 0)) 0 (pos 32768)) 1 (pos 44)) 2; predictor = pos 128; end = Complete };
      at = 8;
    }
unfolding run bind loop read_at after_read bits_at bit_at block coded_block intra_coded dc_difference dc_size dct_size_luminance dct_size_luminance_index
    dct_size_luminance_value vlc walk walk_step pairs pair_step coefficient dct_coeff dct_coeff_index dct_coeff_value run_level
    reconstructed with_pairs dequantised odd zig_zag diagonals down_from premultiplier_matrix
whole = refl

-- RULES 3.7, 3.9: size 0 (100); an escape (000001) with run 63 (111111) and level 1 (00000001) leads from place 1 to place 64, and what stood before
-- and the DC value remain
pub dropped : run (block (quantiser true 1) (replicate 64 19) true (pos 128) (set (replicate 64 (pos 0)) 9 (pos 77)))
    (0b10000000 ∷ 0b11111110 ∷ 0b00000010 ∷ []) 0
    ≡ record {
      value = record
          { block_coefficients = block_coefficients (set (set (replicate 64 (pos 0)) 9 (pos 77)) 0 (pos 32768)) 1; predictor = pos 128; end = Dropped };
      at = 23;
    }
unfolding run bind loop read_at after_read bits_at bit_at block coded_block intra_coded dc_difference dc_size dct_size_luminance dct_size_luminance_index
    dct_size_luminance_value vlc walk walk_step pairs pair_step coefficient dct_coeff dct_coeff_index dct_coeff_value run_level escape escape_level
    reconstructed with_pairs
dropped = refl
