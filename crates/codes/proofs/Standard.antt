-- RULES 2.13: the nine code tables are those of ISO/IEC 11172-2, Annex B. A computed test of each table, and one law for all. Assumes nothing.
use mathlib.Core.Path.{◌≡◌, refl, ap}
use mathlib.Core.List.Memᴰ
use mathlib.Core.List.{List, [], ◌∷◌}
use Prim.Native.Nat.{ℕ, zero, suc, ◌<◌}
use native.Mathlib.Nat.{le_of_suc-le-suc, not-suc-le-zero}
use lib.Dec.{T, eqb, eqb→eq}
use lib.ListN.{length, get_or}
use lib.IntN.{ℤ, pos, negsuc}
use Rattle.bits.specs.Programs.{eq_z}
use Rattle.codes.specs.Tables.{macroblock_address_increment_index, macroblock_address_increment_value, macroblock_type_intra_index, macroblock_type_intra_value}
use Rattle.codes.specs.Tables.{macroblock_type_predictive_index, macroblock_type_predictive_value, macroblock_type_b_index, macroblock_type_b_value}
use Rattle.codes.specs.Tables.{code_block_pattern_index, code_block_pattern_value, motion_index}
use Rattle.codes.specs.Tables.{motion_value, dct_size_luminance_index, dct_size_luminance_value}
use Rattle.codes.specs.Tables.{dct_size_chrominance_index, dct_size_chrominance_value, dct_coeff_index, dct_coeff_value}
use Rattle.codes.specs.Standard.{Code, ◌∈◌, macroblock_address_increment_codes, macroblock_type_intra_codes, macroblock_type_predictive_codes}
use Rattle.codes.specs.Standard.{macroblock_type_b_codes, code_block_pattern_codes, motion_codes}
use Rattle.codes.specs.Standard.{dct_size_luminance_codes, dct_size_chrominance_codes, dct_coeff_codes}
use Rattle.codes.proofs.Agreement.{Agrees}
use Rattle.codes.proofs.Tested.{agrees-of}
use Rattle.codes.proofs.Tree.{passes}

eq_z-same : (x y : ℤ) → T (eq_z x y) → x ≡ y
eq_z-same (pos m) (pos n) t = ap pos (eqb→eq m n t)
eq_z-same (pos m) (negsuc n) t = absurd t
eq_z-same (negsuc m) (pos n) t = absurd t
eq_z-same (negsuc m) (negsuc n) t = ap negsuc (eqb→eq m n t)

-- tables of signed and of unsigned values; what is no code has the value 0
signed : {ix vs : List ℤ} {idle : ℤ} {codes : List (Code ℤ)} → T (passes eq_z ix vs (pos 0) idle codes) → Agrees ix vs (pos 0) idle codes
signed {ix} {vs} {idle} {codes} t = agrees-of eq_z eq_z-same ix vs (pos 0) idle codes t

unsigned : {ix : List ℤ} {vs : List ℕ} {idle : ℕ} {codes : List (Code ℕ)} → T (passes eqb ix vs 0 idle codes) → Agrees ix vs 0 idle codes
unsigned {ix} {vs} {idle} {codes} t = agrees-of eqb eqb→eq ix vs 0 idle codes t

-- Table B.1
pub agrees-macroblock-address-increment : Agrees macroblock_address_increment_index macroblock_address_increment_value 0 0 macroblock_address_increment_codes
unfolding macroblock_address_increment_index macroblock_address_increment_value macroblock_address_increment_codes
agrees-macroblock-address-increment = unsigned tt

-- Table B.2
pub agrees-macroblock-type_intra : Agrees macroblock_type_intra_index macroblock_type_intra_value 0 0 macroblock_type_intra_codes
unfolding macroblock_type_intra_index macroblock_type_intra_value macroblock_type_intra_codes
agrees-macroblock-type_intra = unsigned tt

pub agrees-macroblock-type_predictive : Agrees macroblock_type_predictive_index macroblock_type_predictive_value 0 0 macroblock_type_predictive_codes
unfolding macroblock_type_predictive_index macroblock_type_predictive_value macroblock_type_predictive_codes
agrees-macroblock-type_predictive = unsigned tt

pub agrees-macroblock-type-b : Agrees macroblock_type_b_index macroblock_type_b_value 0 0 macroblock_type_b_codes
unfolding macroblock_type_b_index macroblock_type_b_value macroblock_type_b_codes
agrees-macroblock-type-b = unsigned tt

-- Table B.3
pub agrees-code-block-pattern : Agrees code_block_pattern_index code_block_pattern_value 0 0 code_block_pattern_codes
unfolding code_block_pattern_index code_block_pattern_value code_block_pattern_codes
agrees-code-block-pattern = unsigned tt

-- Table B.4
pub agrees-motion : Agrees motion_index motion_value (pos 0) (pos 0) motion_codes
unfolding motion_index motion_value motion_codes
agrees-motion = signed tt

-- Table B.5; at the end of the stream the luminance size is 1 (RULES 2.6)
pub agrees_dct-size-luminance : Agrees dct_size_luminance_index dct_size_luminance_value 0 1 dct_size_luminance_codes
unfolding dct_size_luminance_index dct_size_luminance_value dct_size_luminance_codes
agrees_dct-size-luminance = unsigned tt

pub agrees_dct-size-chrominance : Agrees dct_size_chrominance_index dct_size_chrominance_value 0 0 dct_size_chrominance_codes
unfolding dct_size_chrominance_index dct_size_chrominance_value dct_size_chrominance_codes
agrees_dct-size-chrominance = unsigned tt

pub agrees_dct_coeff : Agrees dct_coeff_index dct_coeff_value 0 0 dct_coeff_codes
unfolding dct_coeff_index dct_coeff_value dct_coeff_codes
agrees_dct_coeff = unsigned tt

-- ---- to use them

module _ {A : Type 0} where
  -- the code in row i
  pub row : (codes : List (Code A)) (d : Code A) (i : ℕ) → i < length codes → get_or codes i d ∈ codes
  row [] d i h = absurd (not-suc-le-zero h)
  row (c ∷ codes) d zero h = Memᴰ.head refl
  row (c ∷ codes) d (suc i) h = Memᴰ.tail (row codes d i (le_of_suc-le-suc h))
