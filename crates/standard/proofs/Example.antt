-- By computation: the standard's slice() on three slices of three macroblocks, each of which conforms, so that the theorems say something of them. The I slice
-- begins with stuffing and has a new scale; in the P and the B slice the second macroblock is skipped. And slices that do not conform.
use mathlib.Core.Path.{◌≡◌, refl}
use mathlib.Core.Bool.{Bool, true, false}
use mathlib.Core.List.{List, [], ◌∷◌, ◌++◌, map}
use Prim.Native.Nat.{ℕ}
use lib.IntN.{ℤ, pos}
use lib.ListN.{get_or, replicate}
use Rattle.laws.specs.Signed.{clamp255, odd}
use Rattle.laws.specs.Stores.{store_row, store_rows}
use Rattle.bits.specs.Bits.{bit_at, bits_at, read_at, after_read}
use Rattle.bits.specs.Programs.{run, bind, for_below, loop}
use Rattle.codes.specs.Tables as Tables
use Rattle.codes.specs.Standard.{macroblock_type_intra_codes, macroblock_type_predictive_codes, macroblock_type_b_codes}
use Rattle.codes.specs.Walk.{walk_step, walk, vlc}
use Rattle.codes.specs.Codes as Codes
use Rattle.codes.specs.Matrices.{down_from, diagonals, zig_zag, intra_quant_matrix, premultiplier_matrix}
use Rattle.motion.specs.Standard.{complement, right, recon, reconstructed, residual, standard_vector}
use Rattle.coefficients.specs.Dcs as Dcs
use Rattle.coefficients.specs.Coefficients as Coefficients
use Rattle.coefficients.specs.Syntax as Syntax
use Rattle.coefficients.specs.Dequantise.{dequantised}
use Rattle.coefficients.specs.Standard.{dct_zz0, dct_recon, same_recon}
use Rattle.transform.specs.Butterfly.{butterfly}
use Rattle.transform.specs.Idct.{columns, rows, idct}
use Rattle.prediction.specs.Standard.{formed}
use Rattle.prediction.specs.Writers.{overwrite, add_block, block_address}
use Rattle.picture_state.specs.declared.types.{Context.Context, Matrices.Matrices}
use Rattle.picture_state.specs.Result.{Result, ok, error, and_then, if_ok, bind_result, lift}
use Rattle.macroblock_head.specs.Heads.{macroblock_type}
use Rattle.slice.specs.Slices.{extra_step, extra}
use Rattle.standard.specs.Standard as S
use Rattle.standard.specs.Standard.Prelude.{Forbidden, conforms}
use Rattle.standard.specs.Rules.{rust, printed}

abbrev context : ℕ → Context
context type = record {
  picture_type = type;
  sizes = record { mb_width = 3; mb_height = 1; mb_size = 3 };
  stores = record { cur = 0; fwd = 1; bwd = 2 };
}

abbrev matrices : Matrices
matrices = record { intra_quant_matrix = intra_quant_matrix; non_intra_quant_matrix = replicate 64 16 }

abbrev direction : S.Direction
direction = record { full_pel_vector = false; r_size = 0 }

-- the first store is 7, the forward reference 50, the backward one 90
abbrev pels : List ℕ
pels = replicate 1152 7 ++ replicate 1152 50 ++ replicate 1152 90

abbrev coding : S.Rules → ℕ → S.Coding
coding rules type = record { context = context type; matrices = matrices; forward = direction; backward = direction; rules = rules }

abbrev slice : S.Rules → ℕ → List ℕ → Result Forbidden S.Variables
slice rules type stream = (run (S.slice (coding rules type) 1 pels) stream 0).value

-- where the slice conforms: its last macroblock_address, macroblock_type, dct_dc_y_past, recon_right_for_prev
abbrev variables : Result Forbidden S.Variables → List ℤ
variables (ok v) = v.previous_macroblock_address ∷ pos v.macroblock_type ∷ v.past.y ∷ v.for_prev.right ∷ []
variables (error d) = []

-- and a pel of each macroblock, in the first row of Y
abbrev row : Result Forbidden S.Variables → List ℕ
row (ok v) = get_or v.pels 0 0 ∷ get_or v.pels 16 0 ∷ get_or v.pels 32 0 ∷ []
row (error d) = []

abbrev intra_bytes : List ℕ
intra_bytes = 0x08 ∷ 0x07 ∷ 0xf6 ∷ 0xd2 ∷ 0x94 ∷ 0x88 ∷ 0xb9 ∷ 0x4a ∷ 0x52 ∷ 0x22 ∷ 0xa2 ∷ 0x94 ∷ 0xa5 ∷ 0x22 ∷ 0x20 ∷ 0x00 ∷ 0x00 ∷ 0x01 ∷ 0x00 ∷ 0x00 ∷ []

abbrev predictive_bytes : List ℕ
predictive_bytes = 0x0a ∷ 0x55 ∷ 0x8e ∷ 0xda ∷ 0x52 ∷ 0x91 ∷ 0x10 ∷ 0x00 ∷ 0x00 ∷ 0x01 ∷ 0x00 ∷ 0x00 ∷ []

abbrev both_ways_bytes : List ℕ
both_ways_bytes = 0x0a ∷ 0x4a ∷ 0xd6 ∷ 0x00 ∷ 0x00 ∷ 0x01 ∷ 0x00 ∷ 0x00 ∷ []

-- ---- slices of one macroblock, each with one code that is another

-- do they conform?
abbrev verdicts : ℕ → List (List ℕ) → List Bool
verdicts type streams = map (λ (stream : List ℕ). conforms (run (S.slice (coding rust type) 1 []) stream 0).value) streams

-- quantizer_scale 1 and 0; then in a macroblock of its own scale
abbrev scales : List (List ℕ)
scales =
    (0x0b ∷ 0x94 ∷ 0xa5 ∷ 0x22 ∷ 0x20 ∷ 0x00 ∷ 0x00 ∷ 0x00 ∷ []) ∷
    (0x03 ∷ 0x94 ∷ 0xa5 ∷ 0x22 ∷ 0x20 ∷ 0x00 ∷ 0x00 ∷ 0x00 ∷ []) ∷
    (0x0a ∷ 0x86 ∷ 0x52 ∷ 0x94 ∷ 0x88 ∷ 0x80 ∷ 0x00 ∷ 0x00 ∷ 0x00 ∷ []) ∷
    (0x0a ∷ 0x82 ∷ 0x52 ∷ 0x94 ∷ 0x88 ∷ 0x80 ∷ 0x00 ∷ 0x00 ∷ 0x00 ∷ []) ∷
    []

-- dct_dc_size_luminance 111 1111, and dct_dc_size_chrominance 1111 1111
abbrev sizes : List (List ℕ)
sizes =
    (0x0b ∷ 0xff ∷ 0x4a ∷ 0x52 ∷ 0x22 ∷ 0x00 ∷ 0x00 ∷ 0x00 ∷ []) ∷
    (0x0b ∷ 0x94 ∷ 0xa5 ∷ 0x2f ∷ 0xf8 ∷ 0x80 ∷ 0x00 ∷ 0x00 ∷ 0x00 ∷ []) ∷
    []

-- a coefficient of twelve bits 0; by the escape the levels 1, 0 and -256
abbrev levels : List (List ℕ)
levels =
    (0x0b ∷ 0x80 ∷ 0x00 ∷ 0xa5 ∷ 0x29 ∷ 0x11 ∷ 0x00 ∷ 0x00 ∷ 0x00 ∷ []) ∷
    (0x0b ∷ 0x80 ∷ 0x80 ∷ 0x03 ∷ 0x4a ∷ 0x52 ∷ 0x22 ∷ 0x00 ∷ 0x00 ∷ 0x00 ∷ []) ∷
    (0x0b ∷ 0x80 ∷ 0x80 ∷ 0x00 ∷ 0x01 ∷ 0x4a ∷ 0x52 ∷ 0x22 ∷ 0x00 ∷ 0x00 ∷ 0x00 ∷ []) ∷
    (0x0b ∷ 0x80 ∷ 0x81 ∷ 0x00 ∷ 0x01 ∷ 0x4a ∷ 0x52 ∷ 0x22 ∷ 0x00 ∷ 0x00 ∷ 0x00 ∷ []) ∷
    []

-- coded_block_pattern 4, and eight bits 0
abbrev patterns : List (List ℕ)
patterns = (0x0a ∷ 0xed ∷ 0x00 ∷ 0x00 ∷ 0x00 ∷ []) ∷ (0x0a ∷ 0x80 ∷ 0x00 ∷ 0x00 ∷ 0x00 ∷ []) ∷ []

-- motion_horizontal_forward_code 0, and 0000 0010
abbrev motions : List (List ℕ)
motions = (0x0a ∷ 0x70 ∷ 0x00 ∷ 0x00 ∷ 0x00 ∷ []) ∷ (0x0a ∷ 0x40 ∷ 0xa0 ∷ 0x00 ∷ 0x00 ∷ 0x00 ∷ []) ∷ []

pub record Slices : Type 0 where
  -- a DC differential of 5 in the first block: 133 from there on, across macroblocks
  pub i-slice : variables (slice rust 1 intra_bytes) ≡ pos 2 ∷ pos 17 ∷ pos 1064 ∷ pos 0 ∷ []
  pub i-row : row (slice rust 1 intra_bytes) ≡ 133 ∷ 133 ∷ 133 ∷ []
  -- the same by the printed rule of reconstruction
  pub i-printed : row (slice printed 1 intra_bytes) ≡ 133 ∷ 133 ∷ 133 ∷ []
  -- a forward vector, a skipped macroblock, an intra macroblock
  pub p-slice : variables (slice rust 2 predictive_bytes) ≡ pos 2 ∷ pos 1 ∷ pos 1064 ∷ pos 0 ∷ []
  pub p-row : row (slice rust 2 predictive_bytes) ≡ 50 ∷ 50 ∷ 133 ∷ []
  -- a forward vector, a skipped macroblock, a backward vector
  pub b-slice : variables (slice rust 3 both_ways_bytes) ≡ pos 2 ∷ pos 4 ∷ pos 1024 ∷ pos 1 ∷ []
  pub b-row : row (slice rust 3 both_ways_bytes) ≡ 50 ∷ 50 ∷ 90 ∷ []
  -- what is no code or no value of a table is forbidden
  pub no-scale : verdicts 1 scales ≡ true ∷ false ∷ true ∷ false ∷ []
  pub no_size : verdicts 1 sizes ≡ false ∷ false ∷ []
  pub no-level : verdicts 1 levels ≡ false ∷ true ∷ false ∷ false ∷ []
  pub no-pattern : verdicts 2 patterns ≡ true ∷ false ∷ []
  pub no-motion : verdicts 2 motions ≡ true ∷ false ∷ []

pub slices : Slices
unfolding clamp255 odd store_row store_rows bit_at bits_at read_at after_read run bind for_below loop
    Tables.macroblock_address_increment_index Tables.macroblock_address_increment_value Tables.macroblock_type_intra_index Tables.macroblock_type_intra_value
    Tables.macroblock_type_predictive_index Tables.macroblock_type_predictive_value Tables.macroblock_type_b_index Tables.macroblock_type_b_value
    Tables.code_block_pattern_index Tables.code_block_pattern_value Codes.code_block_pattern Coefficients.escape_level Coefficients.escape
    Tables.motion_index Tables.motion_value Tables.dct_size_luminance_index Tables.dct_size_luminance_value Tables.dct_size_chrominance_index
    Tables.dct_size_chrominance_value Tables.dct_coeff_index Tables.dct_coeff_value
    walk_step walk vlc Codes.macroblock_address_increment Codes.macroblock_type_intra Codes.macroblock_type_predictive Codes.macroblock_type_b Codes.motion
    Codes.dct_size_luminance Codes.dct_size_chrominance Codes.dct_coeff
    down_from diagonals zig_zag intra_quant_matrix premultiplier_matrix macroblock_type_intra_codes macroblock_type_predictive_codes macroblock_type_b_codes
    complement right recon reconstructed residual standard_vector dct_zz0 dct_recon
    same_recon Dcs.dc_size Coefficients.run_level Coefficients.coefficient dequantised
    Syntax.pair_step Syntax.pairs butterfly columns rows idct formed overwrite add_block block_address
    and_then if_ok bind_result lift macroblock_type extra_step extra
    S.while_step S.while S.increment S.in_table S.vector S.for_vector S.back_vector S.predicted_plane S.predicted_from S.predicted S.skipped_from S.skipped
    S.reconstructed S.dct_dc S.written S.intra_block S.non_intra_block S.blocks S.coded_macroblock S.macroblock S.after_macroblock S.slice_step S.slice
slices = record {
  i-slice = refl;
  i-row = refl;
  i-printed = refl;
  p-slice = refl;
  p-row = refl;
  b-slice = refl;
  b-row = refl;
  no-scale = refl;
  no_size = refl;
  no-level = refl;
  no-pattern = refl;
  no-motion = refl;
}
