-- The codes of the nine tables, as programs over reads (RULES 2.1, 2.2).
use Rattle.std.specs.Prelude.{ℕ, ℤ, pos}
use Rattle.bits.specs.Programs.{Prog}
use Rattle.codes.specs.Tables.{macroblock_address_increment_index, macroblock_address_increment_value, macroblock_type_intra_index, macroblock_type_intra_value}
use Rattle.codes.specs.Tables.{macroblock_type_predictive_index, macroblock_type_predictive_value, macroblock_type_b_index, macroblock_type_b_value}
use Rattle.codes.specs.Tables.{code_block_pattern_index, code_block_pattern_value, motion_index}
use Rattle.codes.specs.Tables.{motion_value, dct_size_luminance_index, dct_size_luminance_value}
use Rattle.codes.specs.Tables.{dct_size_chrominance_index, dct_size_chrominance_value, dct_coeff_index, dct_coeff_value}
use Rattle.codes.specs.Walk.{vlc}

unfoldable pub macroblock_address_increment : Prog ℕ
macroblock_address_increment = vlc macroblock_address_increment_index macroblock_address_increment_value 0

unfoldable pub macroblock_type_intra : Prog ℕ
macroblock_type_intra = vlc macroblock_type_intra_index macroblock_type_intra_value 0

unfoldable pub macroblock_type_predictive : Prog ℕ
macroblock_type_predictive = vlc macroblock_type_predictive_index macroblock_type_predictive_value 0

unfoldable pub macroblock_type_b : Prog ℕ
macroblock_type_b = vlc macroblock_type_b_index macroblock_type_b_value 0

unfoldable pub code_block_pattern : Prog ℕ
code_block_pattern = vlc code_block_pattern_index code_block_pattern_value 0

unfoldable pub motion : Prog ℤ
motion = vlc motion_index motion_value (pos 0)

unfoldable pub dct_size_luminance : Prog ℕ
dct_size_luminance = vlc dct_size_luminance_index dct_size_luminance_value 0

unfoldable pub dct_size_chrominance : Prog ℕ
dct_size_chrominance = vlc dct_size_chrominance_index dct_size_chrominance_value 0

unfoldable pub dct_coeff : Prog ℕ
dct_coeff = vlc dct_coeff_index dct_coeff_value 0
