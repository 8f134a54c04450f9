-- By computation: an I picture of two macroblocks, 32 × 16 samples, whose bytes are those that the Rust gives; pictures that leave early, with 8 in block 0
-- and in block 1, and with 9 in Y; and two that do not, for values that are just inside.
use mathlib.Core.Path.{◌≡◌, refl}
use mathlib.Core.List.{List, [], ◌∷◌, ◌++◌}
use Prim.Native.Nat.{ℕ}
use lib.IntN.{ℤ, pos}
use lib.ListN.{replicate, take}
use Rattle.laws.specs.Signed.{clamp255, odd, half_toward_zero}
use Rattle.laws.specs.Stores.{store_row, store_rows}
use Rattle.bits.specs.Bits.{bit_at, bits_at, read_at, after_read, code_prefix, code_from, found}
use Rattle.bits.specs.Programs.{run, bind, for_below, loop, RunResult}
use Rattle.codes.specs.Tables.{macroblock_address_increment_index, macroblock_address_increment_value, macroblock_type_intra_index, macroblock_type_intra_value}
use Rattle.codes.specs.Tables.{macroblock_type_predictive_index, macroblock_type_predictive_value, motion_index, motion_value, dct_size_luminance_index}
use Rattle.codes.specs.Tables.{dct_size_luminance_value, dct_size_chrominance_index, dct_size_chrominance_value, dct_coeff_index, dct_coeff_value}
use Rattle.codes.specs.Walk.{walk_step, walk, vlc}
use Rattle.codes.specs.Codes as Codes
use Rattle.codes.specs.Matrices.{down_from, diagonals, zig_zag, intra_quant_matrix, premultiplier_matrix}
use Rattle.motion.specs.Displacement.{corrected}
use Rattle.motion.specs.Vector.{displacement, motion_vector}
use Rattle.coefficients.specs.Dcs as Dcs
use Rattle.coefficients.specs.Coefficients as Coefficients
use Rattle.coefficients.specs.Dequantise.{dequantised}
use Rattle.coefficients.specs.Syntax as Syntax
use Rattle.coefficients.specs.Blocks as Block
use Rattle.transform.specs.Butterfly.{butterfly}
use Rattle.transform.specs.Idct.{columns, rows, idct, dc_only}
use Rattle.prediction.specs.Predict.{prediction_source, predicted}
use Rattle.prediction.specs.Samples.{sample}
use Rattle.prediction.specs.Planes.{predict_from_source, and_then_plane as following, predicted_planes}
use Rattle.prediction.specs.Writers.{set_const, overwrite, block_address}
use Rattle.picture_state.specs.Result.{if_ok, bind_result, lift, Result, ok, error}
use Rattle.picture_state.specs.Stop.{Cause, Stop, stop, dc_outside, prediction_outside}
use Rattle.prediction.specs.declared.planes.Plane.TheVariants.{Y}
use Rattle.macroblock_head.specs.Increments.{increment_step, increment}
use Rattle.macroblock_head.specs.Predictions.{unless_refused, predict_from, predict}
use Rattle.macroblock_head.specs.Heads.{macroblock_type, scale, vector, forward, backward, vectors, head, pattern}
use Rattle.blocks.specs.Blocks.{results, written, block_result, one_block, blocks}
use Rattle.macroblock.specs.Macroblocks.{advance, predict_unless_intra, body, first_macroblock, later_macroblock, macroblock}
use Rattle.slice.specs.Slices.{extra_step, extra, after_macroblock, slice_step, slice}
use Rattle.picture.specs.Pictures as P
use mathlib.Core.Bool.{Bool, true, false}
use Rattle.picture_state.specs.declared.types.{Motion.Motion, Sizes.Sizes, Matrices.Matrices, Picture.Picture}

abbrev still : Motion
still = record { full_px = false; is_set = false; r_size = 0; h = pos 0; v = pos 0 }

abbrev pub fresh : Picture
fresh = record {
  picture_type = 0;
  start_code = pos 0;
  stores = record { cur = 0; fwd = 1; bwd = 2 };
  slice = record {
    quantizer_scale = 0;
    macroblock_address = pos 0;
    motion_forward = still;
    motion_backward = still;
    dc_predictor = replicate 3 (pos 128);
  };
}

-- nothing is left over
abbrev pub none : List ℤ
none = replicate 64 (pos 0)

abbrev sizes : Sizes
sizes = record { mb_width = 2; mb_height = 1; mb_size = 2 }

abbrev pub matrices : Matrices
matrices = record { intra_quant_matrix = intra_quant_matrix; non_intra_quant_matrix = replicate 64 16 }

-- from behind the picture's start code on, up to the next one: DC 133 in the first macroblock, 128 in the second, with one more coefficient in its block 1
abbrev stream : List ℕ
stream = 0x00 ∷ 0x08 ∷ 0xff ∷ 0xf8 ∷ 0x00 ∷ 0x00 ∷ 0x01 ∷ 0x01 ∷ 0x0b ∷ 0xb6 ∷ 0x94 ∷ 0xa4 ∷ 0x45 ∷ 0xd5 ∷ 0x4d ∷ 0x4a ∷
    0x44 ∷ 0x40 ∷ 0x00 ∷ 0x00 ∷ 0x01 ∷ 0x00 ∷ 0x00 ∷ []

abbrev decoded : RunResult (Result Stop P.PictureState)
decoded = run (P.picture sizes matrices (P.picture_state fresh none (replicate 2304 0))) stream 0

abbrev store_of : Result Stop P.PictureState → List ℕ
store_of (ok f) = f.store
store_of (error e) = e.store

-- the first row of plane Y in store 0
pub row : take 32 (store_of decoded.value) ≡ replicate 16 133 ++ replicate 16 128
unfolding clamp255 odd store_row store_rows bit_at bits_at read_at after_read code_prefix code_from found run bind for_below loop
    macroblock_address_increment_index macroblock_address_increment_value macroblock_type_intra_index macroblock_type_intra_value dct_size_luminance_index
    dct_size_luminance_value dct_size_chrominance_index dct_size_chrominance_value dct_coeff_index dct_coeff_value walk_step walk vlc
    Codes.macroblock_address_increment Codes.macroblock_type_intra Codes.dct_size_luminance Codes.dct_size_chrominance Codes.dct_coeff down_from diagonals
    zig_zag intra_quant_matrix premultiplier_matrix Dcs.dc_size Dcs.added Dcs.dc_difference Coefficients.run_level Coefficients.coefficient dequantised
    Syntax.pair_step Syntax.pairs Syntax.intra_coded Syntax.coded_block Block.with_pairs Block.reconstructed Block.block Block.block_data_after butterfly
    columns rows idct dc_only set_const overwrite if_ok bind_result lift increment_step increment macroblock_type scale head pattern block_address results
    written block_result one_block blocks advance predict_unless_intra body first_macroblock later_macroblock macroblock extra_step extra after_macroblock
    slice_step slice P.direction P.picture_header P.after_slice P.slices_step P.slices P.slices_in_roles P.picture
row = refl

abbrev pub one : Sizes
one = record { mb_width = 1; mb_height = 1; mb_size = 1 }

abbrev pub given : P.PictureState
given = P.picture_state fresh none (replicate 1152 7)

-- an I picture whose first block has the size 8 (1111110) and the differential 11111111
abbrev outside : List ℕ
outside = 0x00 ∷ 0x0f ∷ 0xff ∷ 0xf8 ∷ 0x00 ∷ 0x00 ∷ 0x01 ∷ 0x01 ∷ 0x0b ∷ 0xfd ∷ 0xfe ∷ []

abbrev in_block0 : Cause
in_block0 = dc_outside 0 0 (pos 128) (pos 255)

-- RULES Q8: the DC value is 128 + 255
pub eight : run (P.picture one matrices given) outside 0 ≡ record { value = error (stop in_block0 (replicate 1152 7)); at = 87 }
unfolding bit_at bits_at read_at after_read code_prefix code_from found run bind for_below loop macroblock_address_increment_index
    macroblock_address_increment_value macroblock_type_intra_index macroblock_type_intra_value dct_size_luminance_index dct_size_luminance_value walk_step
    walk vlc Codes.macroblock_address_increment Codes.macroblock_type_intra Codes.dct_size_luminance Dcs.dc_size Dcs.added Dcs.dc_difference
    Syntax.intra_coded Syntax.coded_block Block.reconstructed Block.block if_ok bind_result lift increment_step increment macroblock_type scale head pattern
    block_result one_block blocks predict_unless_intra body first_macroblock macroblock extra_step extra after_macroblock slice_step slice P.direction
    P.picture_header P.after_slice P.slices_step P.slices P.slices_in_roles P.picture
eight = refl

-- the same behind a block 0 that is whole: size 3 (101), differential 101, end of block (10)
abbrev outside_later : List ℕ
outside_later = 0x00 ∷ 0x0f ∷ 0xff ∷ 0xf8 ∷ 0x00 ∷ 0x00 ∷ 0x01 ∷ 0x01 ∷ 0x0b ∷ 0xb6 ∷ 0xfd ∷ 0xfe ∷ []

-- a row of Y with 8 samples of block 0
abbrev block_row : List ℕ
block_row = replicate 8 133 ++ replicate 8 7

abbrev block0 : List ℕ
block0 = block_row ++ block_row ++ block_row ++ block_row ++ block_row ++ block_row ++ block_row ++ block_row ++ replicate 1024 7

abbrev in_block1 : Cause
in_block1 = dc_outside 0 1 (pos 133) (pos 255)

-- RULES Q8: the DC value of block 1 is 133 + 255; the 64 samples of block 0 are written
pub eight_in-block-1 : run (P.picture one matrices given) outside_later 0 ≡ record { value = error (stop in_block1 block0); at = 95 }
unfolding clamp255 store_row store_rows bit_at bits_at read_at after_read code_prefix code_from found run bind for_below loop
    macroblock_address_increment_index macroblock_address_increment_value macroblock_type_intra_index macroblock_type_intra_value dct_size_luminance_index
    dct_size_luminance_value dct_coeff_index dct_coeff_value walk_step walk vlc Codes.macroblock_address_increment Codes.macroblock_type_intra
    Codes.dct_size_luminance Codes.dct_coeff Dcs.dc_size Dcs.added Dcs.dc_difference Coefficients.coefficient Syntax.pair_step Syntax.pairs Syntax.intra_coded
    Syntax.coded_block Block.with_pairs Block.reconstructed Block.block_data_after dc_only set_const if_ok bind_result lift increment_step increment
    macroblock_type scale head pattern block_address results written block_result one_block blocks predict_unless_intra body first_macroblock macroblock
    extra_step extra after_macroblock slice_step slice P.direction P.picture_header P.after_slice P.slices_step P.slices P.slices_in_roles P.picture
eight_in-block-1 = refl

-- a P picture with f code 1 whose macroblock has the type 001, a forward vector, and the motion codes 010 and 1: (1, 0) in half samples
abbrev past : List ℕ
past = 0x00 ∷ 0x17 ∷ 0xff ∷ 0xf8 ∷ 0x80 ∷ 0x00 ∷ 0x00 ∷ 0x01 ∷ 0x01 ∷ 0x0a ∷ 0x54 ∷ []

abbrev in_y : Cause
in_y = prediction_outside 0 Y (pos 1) (pos 0)

-- RULES Q9: the start 0 is max_address, and the half sample reaches 1 further
pub nine : run (P.picture one matrices given) past 0 ≡ record { value = error (stop in_y (replicate 1152 7)); at = 86 }
unfolding odd bit_at bits_at read_at after_read code_prefix code_from found run bind loop macroblock_address_increment_index
    macroblock_address_increment_value macroblock_type_predictive_index macroblock_type_predictive_value motion_index motion_value walk_step walk vlc
    Codes.macroblock_address_increment Codes.macroblock_type_predictive Codes.motion displacement motion_vector corrected prediction_source
    predict_from_source following predicted_planes if_ok bind_result lift increment_step increment unless_refused predict_from predict macroblock_type scale
    vector forward backward vectors head predict_unless_intra body first_macroblock macroblock extra_step extra after_macroblock slice_step slice P.direction
    P.picture_header P.after_slice P.slices_step P.slices P.slices_in_roles P.picture
nine = refl

-- ---- inputs of which neither cause holds

abbrev pub is_ok : Result Stop P.PictureState → Bool
is_ok (ok f) = true
is_ok (error e) = false

-- the I picture whose first block has the size 7 (111110) and the differential 1111111, with all its blocks
abbrev pub inside_dc : List ℕ
inside_dc = 0x00 ∷ 0x0f ∷ 0xff ∷ 0xf8 ∷ 0x00 ∷ 0x00 ∷ 0x01 ∷ 0x01 ∷ 0x0b ∷ 0xfb ∷ 0xfd ∷ 0x29 ∷ 0x48 ∷ 0x88 ∷ []

abbrev pub dc_decoded : RunResult (Result Stop P.PictureState)
dc_decoded = run (P.picture one matrices given) inside_dc 0

-- RULES Q8: a DC value of 255 is inside
pub dc-of-255 : is_ok dc_decoded.value ≡ true
unfolding clamp255 store_row store_rows bit_at bits_at read_at after_read code_prefix code_from found run bind for_below loop
    macroblock_address_increment_index macroblock_address_increment_value macroblock_type_intra_index macroblock_type_intra_value dct_size_luminance_index
    dct_size_luminance_value dct_size_chrominance_index dct_size_chrominance_value dct_coeff_index dct_coeff_value walk_step walk vlc
    Codes.macroblock_address_increment Codes.macroblock_type_intra Codes.dct_size_luminance Codes.dct_size_chrominance Codes.dct_coeff Dcs.dc_size Dcs.added
    Dcs.dc_difference Coefficients.coefficient Syntax.pair_step Syntax.pairs Syntax.intra_coded Syntax.coded_block Block.with_pairs Block.reconstructed
    Block.block_data_after dc_only set_const if_ok bind_result lift increment_step increment macroblock_type scale head pattern block_address results written
    block_result one_block blocks predict_unless_intra body first_macroblock macroblock extra_step extra after_macroblock slice_step slice P.direction
    P.picture_header P.after_slice P.slices_step P.slices P.slices_in_roles P.picture
dc-of-255 = refl

-- the P picture of one macroblock with the motion codes 1 and 1
abbrev pub still_vector : List ℕ
still_vector = 0x00 ∷ 0x17 ∷ 0xff ∷ 0xf8 ∷ 0x80 ∷ 0x00 ∷ 0x00 ∷ 0x01 ∷ 0x01 ∷ 0x0a ∷ 0x70 ∷ []

abbrev pub still_decoded : RunResult (Result Stop P.PictureState)
still_decoded = run (P.picture one matrices given) still_vector 0

-- RULES Q9: the start 0 is max_address, and reaches no further
pub no_half-sample : is_ok still_decoded.value ≡ true
unfolding odd half_toward_zero store_row store_rows sample predicted bit_at bits_at read_at after_read code_prefix code_from found run bind for_below loop
    macroblock_address_increment_index macroblock_address_increment_value macroblock_type_predictive_index macroblock_type_predictive_value motion_index
    motion_value walk_step walk vlc Codes.macroblock_address_increment Codes.macroblock_type_predictive Codes.motion displacement motion_vector corrected
    prediction_source predict_from_source following predicted_planes if_ok bind_result lift increment_step increment unless_refused predict_from predict
    macroblock_type scale vector forward backward vectors head pattern blocks predict_unless_intra body first_macroblock macroblock extra_step extra
    after_macroblock slice_step slice P.direction P.picture_header P.after_slice P.slices_step P.slices P.slices_in_roles P.picture
no_half-sample = refl
