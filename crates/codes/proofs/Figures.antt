-- RULES 2.1: the figures of the nine code tables, and that they have 281 codes (RULES 2.13). Assumes nothing.
use mathlib.Core.Path.{◌≡◌, refl, ap}
use mathlib.Core.List.{List, [], ◌∷◌}
use Prim.Native.Nat.{ℕ, max, ◌+◌}
use lib.ListN.{length}
use lib.IntN.{ℤ, pos, negsuc}
use Rattle.codes.specs.Tables.{macroblock_address_increment_index, macroblock_type_intra_index, macroblock_type_predictive_index, macroblock_type_b_index}
use Rattle.codes.specs.Tables.{code_block_pattern_index, motion_index, dct_size_luminance_index, dct_size_chrominance_index, dct_coeff_index}
use Rattle.codes.specs.Standard.{Code, macroblock_address_increment_codes, macroblock_type_intra_codes, macroblock_type_predictive_codes}
use Rattle.codes.specs.Standard.{macroblock_type_b_codes, code_block_pattern_codes, motion_codes}
use Rattle.codes.specs.Standard.{dct_size_luminance_codes, dct_size_chrominance_codes, dct_coeff_codes}

pub record Figures : Type 0 where
  pub entries : ℕ
  pub codes : ℕ
  pub invalid-ends : ℕ
  pub longest : ℕ

abbrev pub figures : ℕ → ℕ → ℕ → ℕ → Figures
figures e c i l = record { entries = e; codes = c; invalid-ends = i; longest = l }

-- entries with a negative index
abbrev pub invalid_ends : List ℤ → ℕ
invalid_ends [] = 0
invalid_ends (pos n ∷ ix) = invalid_ends ix
invalid_ends (negsuc n ∷ ix) = 1 + invalid_ends ix

-- the length of the longest code, in bits
abbrev pub longest : {A : Type 0} → List (Code A) → ℕ
longest [] = 0
longest (c ∷ codes) = max c.bits (longest codes)

abbrev pub figures_of : {A : Type 0} → List ℤ → List (Code A) → Figures
figures_of ix codes = figures (length ix) (length codes) (invalid_ends ix) (longest codes)

abbrev pub all_figures : List Figures
all_figures =
    figures_of macroblock_address_increment_index macroblock_address_increment_codes ∷
    figures_of macroblock_type_intra_index macroblock_type_intra_codes ∷
    figures_of macroblock_type_predictive_index macroblock_type_predictive_codes ∷
    figures_of macroblock_type_b_index macroblock_type_b_codes ∷
    figures_of code_block_pattern_index code_block_pattern_codes ∷
    figures_of motion_index motion_codes ∷
    figures_of dct_size_luminance_index dct_size_luminance_codes ∷
    figures_of dct_size_chrominance_index dct_size_chrominance_codes ∷
    figures_of dct_coeff_index dct_coeff_codes ∷
    []

abbrev pub all_codes : List Figures → ℕ
all_codes [] = 0
all_codes (f ∷ fs) = f.codes + all_codes fs

pub the-figures :
    all_figures ≡
    (
    figures 80 35 6 11 ∷
    figures 4 2 1 2 ∷
    figures 14 7 1 6 ∷
    figures 22 11 1 6 ∷
    figures 126 63 1 9 ∷
    figures 68 33 2 11 ∷
    figures 18 9 1 7 ∷
    figures 18 9 1 8 ∷
    figures 224 112 1 16 ∷
    []
    )
unfolding macroblock_address_increment_index macroblock_type_intra_index macroblock_type_predictive_index macroblock_type_b_index
    code_block_pattern_index motion_index
    dct_size_luminance_index dct_size_chrominance_index dct_coeff_index macroblock_address_increment_codes macroblock_type_intra_codes
    macroblock_type_predictive_codes
    macroblock_type_b_codes code_block_pattern_codes motion_codes dct_size_luminance_codes dct_size_chrominance_codes dct_coeff_codes
the-figures = refl

pub codes-281 : all_codes all_figures ≡ 281
codes-281 = ap all_codes the-figures
