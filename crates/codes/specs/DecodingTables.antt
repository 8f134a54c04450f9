-- The tables as functions are lent them: one array, in which each table begins where the one before it ends.
use Rattle.std.specs.Prelude.{◌≡◌, Bool, true, cond, ◌&&◌, List, [], ◌∷◌, map, ◌++◌, ℕ, ◌+◌, ◌%◌}
use Rattle.std.specs.Prelude.{◌≤◌, ◌<◌, T, leb, ℤ, pos, nat_abs, neg_ℤ, ◌+ℤ◌, length, get_or, take, drop}
use Rattle.std.specs.Int.Signed.{le_z, non_neg}
use Rattle.codes.specs.Tables.{macroblock_address_increment_index, macroblock_address_increment_value, macroblock_type_intra_index, macroblock_type_intra_value}
use Rattle.codes.specs.Tables.{macroblock_type_predictive_index, macroblock_type_predictive_value, macroblock_type_b_index, macroblock_type_b_value}
use Rattle.codes.specs.Tables.{code_block_pattern_index, code_block_pattern_value, motion_index, motion_value}
use Rattle.codes.specs.Tables.{dct_size_luminance_index, dct_size_luminance_value, dct_size_chrominance_index, dct_size_chrominance_value, dct_coeff_index}
use Rattle.codes.specs.Tables.{dct_coeff_value}
use Rattle.codes.specs.Matrices.{zig_zag, premultiplier_matrix}

-- RULES 2.1: a value of a code table as it is lent: 16 bits of it, moved above the indices
abbrev pub biased_value : ℤ → ℕ
biased_value v = nat_abs (v +ℤ pos 1024) % 65536

-- RULES 2.1, 2.2: an entry of a code table as it is lent, by its index i and its value v. Only one of the two is ever read: where the index is above 0 the
-- walk goes on there, else it ends at the value
abbrev pub merged_entry : ℤ → ℤ → ℕ
merged_entry i v = cond (le_z i (pos 0)) (biased_value v) (nat_abs i)

-- the table of the indices ix and the values vs, as many entries as indices
abbrev pub merged_table : List ℤ → List ℤ → List ℕ
merged_table [] vs = []
merged_table (i ∷ ix) [] = merged_entry i (pos 0) ∷ merged_table ix []
merged_table (i ∷ ix) (v ∷ vs) = merged_entry i v ∷ merged_table ix vs

-- the indices of a table as it is lent: 0 where the walk ends
abbrev pub index_of : ℕ → ℤ
index_of e = cond (leb 256 e) (pos 0) (pos e)

abbrev pub indices : List ℕ → List ℤ
indices t = map index_of t

abbrev pub all : (ℤ → Bool) → List ℤ → Bool
all p [] = true
all p (x ∷ xs) = p x && all p xs

-- an index, and a value that is read with its sign
abbrev pub abs_below256 : ℤ → Bool
abs_below256 x = leb (nat_abs x) 255

-- a number that is laid as it is
abbrev pub is_byte : ℤ → Bool
is_byte z = non_neg z && leb (nat_abs z) 255

-- a value that is told from an index, and comes back as a natural number if it is one
abbrev pub is_table_value : ℤ → Bool
is_table_value v = le_z (neg_ℤ (pos 1024)) v && (le_z v (pos 65535) && leb 256 (biased_value v))

-- t is the table of ix and vs as it is lent
pub record IsMergedTable (ix vs : List ℤ) (t : List ℕ) : Type 0 where
  pub is : t ≡ merged_table ix vs
  pub places : T (all abs_below256 ix)
  pub values : T (all is_table_value vs)

-- RULES 2.3: the rule of a table as it is lent: an index is greater than its own place, and inside with its successor
pub record ValidMergedTable (t : List ℕ) : Type 0 where
  pub two : 1 < length t
  pub rule : (k : ℕ) → k < length t → get_or t k 0 < 256 → (k < get_or t k 0) × (get_or t k 0 + 1 < length t)

-- RULES 2.1: the tables of the codes that a macroblock begins with: increments, types, patterns
unfoldable pub macroblock_codes : List ℕ
macroblock_codes =
    merged_table macroblock_address_increment_index (map pos macroblock_address_increment_value)
    ++ merged_table macroblock_type_intra_index (map pos macroblock_type_intra_value)
    ++ merged_table macroblock_type_predictive_index (map pos macroblock_type_predictive_value)
    ++ merged_table macroblock_type_b_index (map pos macroblock_type_b_value)
    ++ merged_table code_block_pattern_index (map pos code_block_pattern_value)

-- RULES 2.1, 2.7: of the codes of vectors, DC sizes and coefficients; behind them the zig-zag order and the premultipliers
unfoldable pub block_codes : List ℕ
block_codes =
    merged_table motion_index motion_value
    ++ merged_table dct_size_luminance_index (map pos dct_size_luminance_value)
    ++ merged_table dct_size_chrominance_index (map pos dct_size_chrominance_value)
    ++ merged_table dct_coeff_index (map pos dct_coeff_value)
    ++ zig_zag ++ map nat_abs premultiplier_matrix

-- the tables that are the same for every stream
unfoldable pub fixed_tables : List ℕ
fixed_tables = macroblock_codes ++ block_codes

-- where the two matrices begin behind them, and how long all of it is
abbrev pub intra_matrix_at : ℕ
intra_matrix_at = 702

abbrev pub non_intra_matrix_at : ℕ
non_intra_matrix_at = 766

abbrev pub tables_length : ℕ
tables_length = 830

-- RULES 3.8: behind them the matrix of intra blocks and that of the others
abbrev pub tables_with : List ℕ → List ℕ → List ℕ
tables_with intra other = fixed_tables ++ intra ++ other

-- RULES 3.8: the matrix among the tables t for blocks that are intra or not
unfoldable pub matrix_of : List ℕ → Bool → List ℕ
matrix_of t intra = take 64 (drop (cond intra intra_matrix_at non_intra_matrix_at) t)

-- t are the tables with some matrices
pub record DecodingTables (t : List ℕ) : Type 0 where
  pub fixed : take intra_matrix_at t ≡ fixed_tables
  pub bytes : (k : ℕ) → intra_matrix_at ≤ k → get_or t k 0 < 256
