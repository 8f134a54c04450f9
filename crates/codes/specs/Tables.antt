-- RULES 2.1: the nine code tables of the Rust, each as two lists. An entry's index leads to the pair of entries from which the next bit chooses;
-- 0 ends the walk at the entry's value, and -1 ends it at an invalid code, whose value is 0.
use Rattle.std.specs.Prelude.{ℕ, List, [], ◌∷◌, ℤ, pos, negsuc}

unfoldable pub macroblock_address_increment_index : List ℤ
macroblock_address_increment_index =
    pos 2 ∷ pos 0 ∷ pos 4 ∷ pos 6 ∷ pos 8 ∷ pos 10 ∷ pos 0 ∷ pos 0 ∷ pos 12 ∷ pos 14 ∷ pos 0 ∷ pos 0 ∷ pos 16 ∷ pos 18 ∷
    pos 0 ∷ pos 0 ∷ pos 20 ∷
    pos 22 ∷ pos 24 ∷ pos 26 ∷ pos 28 ∷ pos 30 ∷ pos 32 ∷ pos 34 ∷ pos 36 ∷ pos 38 ∷ pos 0 ∷ pos 0 ∷ negsuc 0 ∷ pos 40 ∷
    negsuc 0 ∷ pos 42 ∷ pos 44 ∷
    pos 46 ∷ pos 0 ∷ pos 0 ∷ pos 0 ∷ pos 0 ∷ pos 0 ∷ pos 0 ∷ pos 48 ∷ pos 50 ∷ pos 52 ∷ pos 54 ∷ pos 56 ∷ pos 58 ∷ pos 60 ∷
    pos 62 ∷ pos 64 ∷
    negsuc 0 ∷ negsuc 0 ∷ pos 66 ∷ pos 68 ∷ pos 70 ∷ pos 72 ∷ pos 74 ∷ pos 76 ∷ pos 78 ∷ pos 0 ∷ pos 0 ∷ pos 0 ∷ pos 0 ∷ pos 0 ∷
    pos 0 ∷ pos 0 ∷
    negsuc 0 ∷ negsuc 0 ∷ pos 0 ∷ pos 0 ∷ pos 0 ∷ pos 0 ∷ pos 0 ∷ pos 0 ∷ pos 0 ∷ pos 0 ∷ pos 0 ∷ pos 0 ∷ pos 0 ∷ pos 0 ∷
    pos 0 ∷ []

unfoldable pub macroblock_address_increment_value : List ℕ
macroblock_address_increment_value =
    0 ∷ 1 ∷ 0 ∷ 0 ∷ 0 ∷ 0 ∷ 3 ∷ 2 ∷ 0 ∷ 0 ∷ 5 ∷ 4 ∷ 0 ∷ 0 ∷ 7 ∷ 6 ∷ 0 ∷ 0 ∷ 0 ∷ 0 ∷ 0 ∷ 0 ∷ 0 ∷ 0 ∷ 0 ∷
    0 ∷ 9 ∷ 8 ∷ 0 ∷ 0 ∷ 0 ∷ 0 ∷ 0 ∷ 0 ∷ 15 ∷ 14 ∷
    13 ∷ 12 ∷ 11 ∷ 10 ∷ 0 ∷ 0 ∷ 0 ∷ 0 ∷ 0 ∷ 0 ∷ 0 ∷ 0 ∷ 0 ∷ 0 ∷ 0 ∷ 0 ∷ 0 ∷ 0 ∷ 0 ∷ 0 ∷ 0 ∷ 0 ∷ 21 ∷ 20 ∷
    19 ∷ 18 ∷ 17 ∷ 16 ∷ 35 ∷ 0 ∷ 0 ∷ 34 ∷ 33 ∷
    32 ∷ 31 ∷ 30 ∷ 29 ∷ 28 ∷ 27 ∷ 26 ∷ 25 ∷ 24 ∷ 23 ∷ 22 ∷ []

unfoldable pub macroblock_type_intra_index : List ℤ
macroblock_type_intra_index =
    pos 2 ∷ pos 0 ∷ negsuc 0 ∷ pos 0 ∷ []

unfoldable pub macroblock_type_intra_value : List ℕ
macroblock_type_intra_value =
    0 ∷ 1 ∷ 0 ∷ 17 ∷ []

unfoldable pub macroblock_type_predictive_index : List ℤ
macroblock_type_predictive_index =
    pos 2 ∷ pos 0 ∷ pos 4 ∷ pos 0 ∷ pos 6 ∷ pos 0 ∷ pos 8 ∷ pos 10 ∷ pos 12 ∷ pos 0 ∷ pos 0 ∷ pos 0 ∷ negsuc 0 ∷ pos 0 ∷ []

unfoldable pub macroblock_type_predictive_value : List ℕ
macroblock_type_predictive_value =
    0 ∷ 10 ∷ 0 ∷ 2 ∷ 0 ∷ 8 ∷ 0 ∷ 0 ∷ 0 ∷ 18 ∷ 26 ∷ 1 ∷ 0 ∷ 17 ∷ []

unfoldable pub macroblock_type_b_index : List ℤ
macroblock_type_b_index =
    pos 2 ∷ pos 4 ∷ pos 6 ∷ pos 8 ∷ pos 0 ∷ pos 0 ∷ pos 10 ∷ pos 12 ∷ pos 0 ∷ pos 0 ∷ pos 14 ∷ pos 16 ∷ pos 0 ∷ pos 0 ∷
    pos 18 ∷ pos 20 ∷ pos 0 ∷
    pos 0 ∷ negsuc 0 ∷ pos 0 ∷ pos 0 ∷ pos 0 ∷ []

unfoldable pub macroblock_type_b_value : List ℕ
macroblock_type_b_value =
    0 ∷ 0 ∷ 0 ∷ 0 ∷ 12 ∷ 14 ∷ 0 ∷ 0 ∷ 4 ∷ 6 ∷ 0 ∷ 0 ∷ 8 ∷ 10 ∷ 0 ∷ 0 ∷ 30 ∷ 1 ∷ 0 ∷ 17 ∷ 22 ∷ 26 ∷ []

unfoldable pub code_block_pattern_index : List ℤ
code_block_pattern_index =
    pos 2 ∷ pos 4 ∷ pos 6 ∷ pos 8 ∷ pos 10 ∷ pos 12 ∷ pos 14 ∷ pos 16 ∷ pos 18 ∷ pos 20 ∷ pos 22 ∷ pos 24 ∷ pos 26 ∷ pos 0 ∷
    pos 28 ∷ pos 30 ∷
    pos 32 ∷ pos 34 ∷ pos 36 ∷ pos 38 ∷ pos 40 ∷ pos 42 ∷ pos 44 ∷ pos 46 ∷ pos 0 ∷ pos 0 ∷ pos 0 ∷ pos 0 ∷ pos 48 ∷ pos 50 ∷
    pos 52 ∷ pos 54 ∷
    pos 56 ∷ pos 58 ∷ pos 60 ∷ pos 62 ∷ pos 0 ∷ pos 0 ∷ pos 0 ∷ pos 0 ∷ pos 0 ∷ pos 0 ∷ pos 0 ∷ pos 0 ∷ pos 0 ∷ pos 0 ∷
    pos 0 ∷ pos 0 ∷ pos 64 ∷
    pos 66 ∷ pos 68 ∷ pos 70 ∷ pos 72 ∷ pos 74 ∷ pos 76 ∷ pos 78 ∷ pos 80 ∷ pos 82 ∷ pos 84 ∷ pos 86 ∷ pos 0 ∷ pos 0 ∷ pos 0 ∷
    pos 0 ∷ pos 88 ∷
    pos 90 ∷ pos 92 ∷ pos 94 ∷ pos 96 ∷ pos 98 ∷ pos 100 ∷ pos 102 ∷ pos 104 ∷ pos 106 ∷ pos 108 ∷ pos 110 ∷ pos 112 ∷ pos 114 ∷
    pos 116 ∷ pos 118 ∷
    pos 0 ∷ pos 0 ∷ pos 0 ∷ pos 0 ∷ pos 0 ∷ pos 0 ∷ pos 0 ∷ pos 0 ∷ negsuc 0 ∷ pos 120 ∷ pos 122 ∷ pos 124 ∷ pos 0 ∷ pos 0 ∷
    pos 0 ∷ pos 0 ∷ pos 0 ∷
    pos 0 ∷ pos 0 ∷ pos 0 ∷ pos 0 ∷ pos 0 ∷ pos 0 ∷ pos 0 ∷ pos 0 ∷ pos 0 ∷ pos 0 ∷ pos 0 ∷ pos 0 ∷ pos 0 ∷ pos 0 ∷ pos 0 ∷
    pos 0 ∷ pos 0 ∷ pos 0 ∷
    pos 0 ∷ pos 0 ∷ pos 0 ∷ pos 0 ∷ pos 0 ∷ pos 0 ∷ pos 0 ∷ pos 0 ∷ pos 0 ∷ pos 0 ∷ pos 0 ∷ []

unfoldable pub code_block_pattern_value : List ℕ
code_block_pattern_value =
    0 ∷ 0 ∷ 0 ∷ 0 ∷ 0 ∷ 0 ∷ 0 ∷ 0 ∷ 0 ∷ 0 ∷ 0 ∷ 0 ∷ 0 ∷ 60 ∷ 0 ∷ 0 ∷ 0 ∷ 0 ∷ 0 ∷ 0 ∷ 0 ∷ 0 ∷ 0 ∷ 0 ∷ 32 ∷
    16 ∷ 8 ∷ 4 ∷ 0 ∷ 0 ∷ 0 ∷ 0 ∷ 0 ∷ 0 ∷ 0 ∷ 0 ∷
    62 ∷ 2 ∷ 61 ∷ 1 ∷ 56 ∷ 52 ∷ 44 ∷ 28 ∷ 40 ∷ 20 ∷ 48 ∷ 12 ∷ 0 ∷ 0 ∷ 0 ∷ 0 ∷ 0 ∷ 0 ∷ 0 ∷ 0 ∷ 0 ∷ 0 ∷ 0 ∷
    0 ∷ 63 ∷ 3 ∷ 36 ∷ 24 ∷ 0 ∷ 0 ∷ 0 ∷ 0 ∷ 0 ∷
    0 ∷ 0 ∷ 0 ∷ 0 ∷ 0 ∷ 0 ∷ 0 ∷ 0 ∷ 0 ∷ 0 ∷ 0 ∷ 34 ∷ 18 ∷ 10 ∷ 6 ∷ 33 ∷ 17 ∷ 9 ∷ 5 ∷ 0 ∷ 0 ∷ 0 ∷ 0 ∷ 58 ∷
    54 ∷ 46 ∷ 30 ∷ 57 ∷ 53 ∷ 45 ∷ 29 ∷ 38 ∷ 26 ∷
    37 ∷ 25 ∷ 43 ∷ 23 ∷ 51 ∷ 15 ∷ 42 ∷ 22 ∷ 50 ∷ 14 ∷ 41 ∷ 21 ∷ 49 ∷ 13 ∷ 35 ∷ 19 ∷ 11 ∷ 7 ∷ 39 ∷ 27 ∷ 59 ∷ 55 ∷
    47 ∷ 31 ∷ []

unfoldable pub motion_index : List ℤ
motion_index =
    pos 2 ∷ pos 0 ∷ pos 4 ∷ pos 6 ∷ pos 8 ∷ pos 10 ∷ pos 0 ∷ pos 0 ∷ pos 12 ∷ pos 14 ∷ pos 0 ∷ pos 0 ∷ pos 16 ∷ pos 18 ∷
    pos 0 ∷ pos 0 ∷ pos 20 ∷
    pos 22 ∷ pos 24 ∷ pos 26 ∷ negsuc 0 ∷ pos 28 ∷ pos 30 ∷ pos 32 ∷ pos 34 ∷ pos 36 ∷ pos 0 ∷ pos 0 ∷ negsuc 0 ∷ pos 38 ∷
    pos 40 ∷ pos 42 ∷ pos 0 ∷
    pos 0 ∷ pos 0 ∷ pos 0 ∷ pos 0 ∷ pos 0 ∷ pos 44 ∷ pos 46 ∷ pos 48 ∷ pos 50 ∷ pos 52 ∷ pos 54 ∷ pos 56 ∷ pos 58 ∷ pos 60 ∷
    pos 62 ∷ pos 64 ∷
    pos 66 ∷ pos 0 ∷ pos 0 ∷ pos 0 ∷ pos 0 ∷ pos 0 ∷ pos 0 ∷ pos 0 ∷ pos 0 ∷ pos 0 ∷ pos 0 ∷ pos 0 ∷ pos 0 ∷ pos 0 ∷ pos 0 ∷
    pos 0 ∷ pos 0 ∷ pos 0 ∷
    pos 0 ∷ []

unfoldable pub motion_value : List ℤ
motion_value =
    pos 0 ∷ pos 0 ∷ pos 0 ∷ pos 0 ∷ pos 0 ∷ pos 0 ∷ pos 1 ∷ negsuc 0 ∷ pos 0 ∷ pos 0 ∷ pos 2 ∷ negsuc 1 ∷ pos 0 ∷ pos 0 ∷
    pos 3 ∷ negsuc 2 ∷ pos 0 ∷
    pos 0 ∷ pos 0 ∷ pos 0 ∷ pos 0 ∷ pos 0 ∷ pos 0 ∷ pos 0 ∷ pos 0 ∷ pos 0 ∷ pos 4 ∷ negsuc 3 ∷ pos 0 ∷ pos 0 ∷ pos 0 ∷ pos 0 ∷
    pos 7 ∷ negsuc 6 ∷
    pos 6 ∷ negsuc 5 ∷ pos 5 ∷ negsuc 4 ∷ pos 0 ∷ pos 0 ∷ pos 0 ∷ pos 0 ∷ pos 0 ∷ pos 0 ∷ pos 0 ∷ pos 0 ∷ pos 0 ∷ pos 0 ∷
    pos 0 ∷ pos 0 ∷ pos 10 ∷
    negsuc 9 ∷ pos 9 ∷ negsuc 8 ∷ pos 8 ∷ negsuc 7 ∷ pos 16 ∷ negsuc 15 ∷ pos 15 ∷ negsuc 14 ∷ pos 14 ∷ negsuc 13 ∷ pos 13 ∷
    negsuc 12 ∷ pos 12 ∷
    negsuc 11 ∷ pos 11 ∷ negsuc 10 ∷ []

unfoldable pub dct_size_luminance_index : List ℤ
dct_size_luminance_index =
    pos 2 ∷ pos 4 ∷ pos 0 ∷ pos 0 ∷ pos 6 ∷ pos 8 ∷ pos 0 ∷ pos 0 ∷ pos 0 ∷ pos 10 ∷ pos 0 ∷ pos 12 ∷ pos 0 ∷ pos 14 ∷ pos 0 ∷
    pos 16 ∷ pos 0 ∷
    negsuc 0 ∷ []

unfoldable pub dct_size_luminance_value : List ℕ
dct_size_luminance_value =
    0 ∷ 0 ∷ 1 ∷ 2 ∷ 0 ∷ 0 ∷ 0 ∷ 3 ∷ 4 ∷ 0 ∷ 5 ∷ 0 ∷ 6 ∷ 0 ∷ 7 ∷ 0 ∷ 8 ∷ 0 ∷ []

unfoldable pub dct_size_chrominance_index : List ℤ
dct_size_chrominance_index =
    pos 2 ∷ pos 4 ∷ pos 0 ∷ pos 0 ∷ pos 0 ∷ pos 6 ∷ pos 0 ∷ pos 8 ∷ pos 0 ∷ pos 10 ∷ pos 0 ∷ pos 12 ∷ pos 0 ∷ pos 14 ∷ pos 0 ∷
    pos 16 ∷ pos 0 ∷
    negsuc 0 ∷ []

unfoldable pub dct_size_chrominance_value : List ℕ
dct_size_chrominance_value =
    0 ∷ 0 ∷ 0 ∷ 1 ∷ 2 ∷ 0 ∷ 3 ∷ 0 ∷ 4 ∷ 0 ∷ 5 ∷ 0 ∷ 6 ∷ 0 ∷ 7 ∷ 0 ∷ 8 ∷ 0 ∷ []

unfoldable pub dct_coeff_index : List ℤ
dct_coeff_index =
    pos 2 ∷ pos 0 ∷ pos 4 ∷ pos 6 ∷ pos 8 ∷ pos 10 ∷ pos 12 ∷ pos 0 ∷ pos 14 ∷ pos 16 ∷ pos 18 ∷ pos 20 ∷ pos 0 ∷ pos 0 ∷
    pos 22 ∷ pos 24 ∷ pos 26 ∷
    pos 28 ∷ pos 30 ∷ pos 0 ∷ pos 0 ∷ pos 0 ∷ pos 32 ∷ pos 0 ∷ pos 34 ∷ pos 36 ∷ pos 0 ∷ pos 0 ∷ pos 0 ∷ pos 0 ∷ pos 38 ∷
    pos 40 ∷ pos 42 ∷ pos 44 ∷
    pos 0 ∷ pos 0 ∷ pos 0 ∷ pos 0 ∷ pos 46 ∷ pos 48 ∷ pos 50 ∷ pos 52 ∷ pos 54 ∷ pos 56 ∷ pos 58 ∷ pos 60 ∷ pos 0 ∷ pos 0 ∷
    pos 0 ∷ pos 0 ∷ pos 0 ∷
    pos 0 ∷ pos 0 ∷ pos 0 ∷ pos 62 ∷ pos 64 ∷ pos 66 ∷ pos 68 ∷ pos 70 ∷ pos 72 ∷ pos 74 ∷ pos 76 ∷ pos 78 ∷ pos 80 ∷ pos 82 ∷
    pos 84 ∷ pos 86 ∷
    pos 88 ∷ pos 90 ∷ pos 92 ∷ pos 0 ∷ pos 0 ∷ pos 0 ∷ pos 0 ∷ pos 0 ∷ pos 0 ∷ pos 0 ∷ pos 0 ∷ pos 94 ∷ pos 96 ∷ pos 98 ∷
    pos 100 ∷ pos 102 ∷
    pos 104 ∷ pos 106 ∷ pos 108 ∷ pos 110 ∷ pos 112 ∷ pos 114 ∷ pos 116 ∷ pos 118 ∷ pos 120 ∷ pos 122 ∷ pos 124 ∷ negsuc 0 ∷
    pos 126 ∷ pos 128 ∷
    pos 130 ∷ pos 132 ∷ pos 134 ∷ pos 136 ∷ pos 138 ∷ pos 140 ∷ pos 142 ∷ pos 144 ∷ pos 146 ∷ pos 148 ∷ pos 150 ∷ pos 152 ∷
    pos 154 ∷ pos 0 ∷ pos 0 ∷
    pos 0 ∷ pos 0 ∷ pos 0 ∷ pos 0 ∷ pos 0 ∷ pos 0 ∷ pos 0 ∷ pos 0 ∷ pos 0 ∷ pos 0 ∷ pos 0 ∷ pos 0 ∷ pos 0 ∷ pos 0 ∷ pos 156 ∷
    pos 158 ∷ pos 160 ∷
    pos 162 ∷ pos 164 ∷ pos 166 ∷ pos 168 ∷ pos 170 ∷ pos 172 ∷ pos 174 ∷ pos 176 ∷ pos 178 ∷ pos 180 ∷ pos 182 ∷ pos 0 ∷ pos 0 ∷
    pos 0 ∷ pos 0 ∷
    pos 0 ∷ pos 0 ∷ pos 0 ∷ pos 0 ∷ pos 0 ∷ pos 0 ∷ pos 0 ∷ pos 0 ∷ pos 0 ∷ pos 0 ∷ pos 0 ∷ pos 0 ∷ pos 184 ∷ pos 186 ∷
    pos 188 ∷ pos 190 ∷ pos 192 ∷
    pos 194 ∷ pos 196 ∷ pos 198 ∷ pos 200 ∷ pos 202 ∷ pos 204 ∷ pos 206 ∷ pos 0 ∷ pos 0 ∷ pos 0 ∷ pos 0 ∷ pos 0 ∷ pos 0 ∷
    pos 0 ∷ pos 0 ∷ pos 0 ∷
    pos 0 ∷ pos 0 ∷ pos 0 ∷ pos 0 ∷ pos 0 ∷ pos 0 ∷ pos 0 ∷ pos 208 ∷ pos 210 ∷ pos 212 ∷ pos 214 ∷ pos 216 ∷ pos 218 ∷
    pos 220 ∷ pos 222 ∷ pos 0 ∷
    pos 0 ∷ pos 0 ∷ pos 0 ∷ pos 0 ∷ pos 0 ∷ pos 0 ∷ pos 0 ∷ pos 0 ∷ pos 0 ∷ pos 0 ∷ pos 0 ∷ pos 0 ∷ pos 0 ∷ pos 0 ∷ pos 0 ∷
    pos 0 ∷ pos 0 ∷ pos 0 ∷
    pos 0 ∷ pos 0 ∷ pos 0 ∷ pos 0 ∷ pos 0 ∷ pos 0 ∷ pos 0 ∷ pos 0 ∷ pos 0 ∷ pos 0 ∷ pos 0 ∷ pos 0 ∷ pos 0 ∷ []

-- 256 × run + level; 0xffff is the escape
unfoldable pub dct_coeff_value : List ℕ
dct_coeff_value =
    0 ∷ 0x1 ∷ 0 ∷ 0 ∷ 0 ∷ 0 ∷ 0 ∷ 0x101 ∷ 0 ∷ 0 ∷ 0 ∷ 0 ∷ 0x2 ∷ 0x201 ∷ 0 ∷ 0 ∷ 0 ∷ 0 ∷ 0 ∷ 0x3 ∷ 0x401 ∷
    0x301 ∷ 0 ∷ 0xffff ∷ 0 ∷ 0 ∷ 0x701 ∷
    0x601 ∷ 0x102 ∷ 0x501 ∷ 0 ∷ 0 ∷ 0 ∷ 0 ∷ 0x202 ∷ 0x901 ∷ 0x4 ∷ 0x801 ∷ 0 ∷ 0 ∷ 0 ∷ 0 ∷ 0 ∷ 0 ∷ 0 ∷ 0 ∷ 0xd01 ∷
    0x6 ∷ 0xc01 ∷ 0xb01 ∷ 0x302 ∷
    0x103 ∷ 0x5 ∷ 0xa01 ∷ 0 ∷ 0 ∷ 0 ∷ 0 ∷ 0 ∷ 0 ∷ 0 ∷ 0 ∷ 0 ∷ 0 ∷ 0 ∷ 0 ∷ 0 ∷ 0 ∷ 0 ∷ 0 ∷ 0x1001 ∷ 0x502 ∷ 0x7 ∷
    0x203 ∷ 0x104 ∷ 0xf01 ∷ 0xe01 ∷
    0x402 ∷ 0 ∷ 0 ∷ 0 ∷ 0 ∷ 0 ∷ 0 ∷ 0 ∷ 0 ∷ 0 ∷ 0 ∷ 0 ∷ 0 ∷ 0 ∷ 0 ∷ 0 ∷ 0 ∷ 0 ∷ 0 ∷ 0 ∷ 0 ∷ 0 ∷ 0 ∷ 0 ∷
    0 ∷ 0 ∷ 0 ∷ 0 ∷ 0 ∷ 0 ∷ 0 ∷ 0 ∷ 0 ∷ 0xb ∷
    0x802 ∷ 0x403 ∷ 0xa ∷ 0x204 ∷ 0x702 ∷ 0x1501 ∷ 0x1401 ∷ 0x9 ∷ 0x1301 ∷ 0x1201 ∷ 0x105 ∷ 0x303 ∷ 0x8 ∷ 0x602 ∷ 0x1101 ∷
    0 ∷ 0 ∷ 0 ∷ 0 ∷ 0 ∷ 0 ∷
    0 ∷ 0 ∷ 0 ∷ 0 ∷ 0 ∷ 0 ∷ 0 ∷ 0 ∷ 0xa02 ∷ 0x902 ∷ 0x503 ∷ 0x304 ∷ 0x205 ∷ 0x107 ∷ 0x106 ∷ 0xf ∷ 0xe ∷ 0xd ∷ 0xc ∷
    0x1a01 ∷ 0x1901 ∷ 0x1801 ∷
    0x1701 ∷ 0x1601 ∷ 0 ∷ 0 ∷ 0 ∷ 0 ∷ 0 ∷ 0 ∷ 0 ∷ 0 ∷ 0 ∷ 0 ∷ 0 ∷ 0 ∷ 0x1f ∷ 0x1e ∷ 0x1d ∷ 0x1c ∷ 0x1b ∷ 0x1a ∷
    0x19 ∷ 0x18 ∷ 0x17 ∷ 0x16 ∷ 0x15 ∷
    0x14 ∷ 0x13 ∷ 0x12 ∷ 0x11 ∷ 0x10 ∷ 0 ∷ 0 ∷ 0 ∷ 0 ∷ 0 ∷ 0 ∷ 0 ∷ 0 ∷ 0x28 ∷ 0x27 ∷ 0x26 ∷ 0x25 ∷ 0x24 ∷ 0x23 ∷
    0x22 ∷ 0x21 ∷ 0x20 ∷ 0x10e ∷ 0x10d ∷
    0x10c ∷ 0x10b ∷ 0x10a ∷ 0x109 ∷ 0x108 ∷ 0x112 ∷ 0x111 ∷ 0x110 ∷ 0x10f ∷ 0x603 ∷ 0x1002 ∷ 0xf02 ∷ 0xe02 ∷ 0xd02 ∷ 0xc02 ∷
    0xb02 ∷ 0x1f01 ∷
    0x1e01 ∷ 0x1d01 ∷ 0x1c01 ∷ 0x1b01 ∷ []
