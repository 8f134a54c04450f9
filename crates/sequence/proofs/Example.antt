-- By computation: a sequence of an I, a P, a B and an I picture, with user data and a group, which conforms, so that the theorem says something of it.
use mathlib.Core.Path.{◌≡◌, refl}
use mathlib.Core.List.{List, [], ◌∷◌, ◌++◌, map}
use Prim.Native.Nat.{ℕ, ◌+◌, ◌*◌}
use lib.ListN.{replicate, take, drop}
use lib.Ieee.{of_int}
use Rattle.laws.specs.Each.{all_below}
use Rattle.laws.specs.Signed.{clamp255, odd}
use Rattle.laws.specs.Loops.{iterate}
use Rattle.laws.specs.Stores.{store_row, store_rows}
use Rattle.bits.specs.Bits.{bit_at, bits_at, read_at, after_read, code_prefix, code_from, found}
use Rattle.bits.specs.Programs.{run, bind, for_below, loop, stream_fuel, find_step, find_start_code}
use Rattle.codes.specs.Tables as Tables
use Rattle.codes.specs.Standard.{macroblock_type_intra_codes, macroblock_type_predictive_codes, macroblock_type_b_codes}
use Rattle.codes.specs.Walk.{walk_step, walk, vlc}
use Rattle.codes.specs.Codes as Codes
use Rattle.codes.specs.Matrices.{down_from, diagonals, zig_zag, intra_quant_matrix, non_intra_quant_matrix, premultiplier_matrix}
use Rattle.codes.specs.Rates.{pixel_aspect_ratio, picture_rate}
use Rattle.motion.specs.Standard.{complement, right, recon, reconstructed, residual, standard_vector}
use Rattle.coefficients.specs.Dcs as Dcs
use Rattle.coefficients.specs.Coefficients as Coefficients
use Rattle.coefficients.specs.Syntax as Syntax
use Rattle.coefficients.specs.Dequantise.{dequantised}
use Rattle.coefficients.specs.Standard.{or32, dct_zz0}
use Rattle.transform.specs.Butterfly.{butterfly}
use Rattle.transform.specs.Idct.{columns, rows as row_pass, idct}
use Rattle.prediction.specs.Standard.{formed}
use Rattle.prediction.specs.Writers.{overwrite, add_block, block_address}
use Rattle.picture_state.specs.Result.{Result, ok, error, and_then, if_ok, bind_result, lift}
use Rattle.standard.specs.Standard.Prelude.{Forbidden}
use Rattle.macroblock_head.specs.Heads.{macroblock_type}
use Rattle.slice.specs.Slices.{extra_step, extra}
use Rattle.standard.specs.Rules.{rust}
use Rattle.standard.specs.Standard as S
use Rattle.standard.specs.Standard.Prelude as Prelude
use Rattle.standard.specs.Standard.State.{in_table}
use Rattle.standard.specs.Standard.Prediction as Prediction
use Rattle.standard.specs.Standard.Block as Block
use Rattle.header.specs.Store.{cleared}
use Rattle.header.specs.Sequences.{matrix, size, rest}
use Rattle.decoder.specs.declared.answers.Opening.{Opening}
use Rattle.decoder.specs.declared.answers.Opening.TheVariants.{Ready}
use Rattle.playback.specs.State.{fresh_state}
use Rattle.playback.specs.Search.{ensure_start_code}
use Rattle.decoder.specs.Record.{CallResult, fresh, position}
use Rattle.decoder.specs.Headers.{find_sequence, accepted, check_size, check_header, check_store}
use Rattle.decoder.specs.Opening.{opened, opening_from, opening}
use Rattle.sequence.specs.Sequence.{following, initial_state, pictures}
use Rattle.sequence.specs.Display.{store_of, shown, all_but_last}

-- 32 × 16 samples; user data, which make up the 136 bytes that opening asks for
abbrev header_bytes : List ℕ
header_bytes = (0x00 ∷ 0x00 ∷ 0x01 ∷ 0xb3 ∷ 0x02 ∷ 0x00 ∷ 0x10 ∷ 0x13 ∷ 0xff ∷ 0xff ∷ 0xe0 ∷ 0xa0 ∷ []) ++ (0x00 ∷ 0x00 ∷ 0x01 ∷ 0xb2 ∷ replicate 60 0x20)

-- closed_gop 1, broken_link 0
abbrev group_bytes : List ℕ
group_bytes = 0x00 ∷ 0x00 ∷ 0x01 ∷ 0xb8 ∷ 0x00 ∷ 0x08 ∷ 0x00 ∷ 0x40 ∷ []

-- DC 133 in the first macroblock, 128 in the second, with one more coefficient in its block 1
abbrev intra_bytes : List ℕ
intra_bytes = 0x00 ∷ 0x00 ∷ 0x01 ∷ 0x00 ∷ 0x00 ∷ 0x08 ∷ 0xff ∷ 0xf8 ∷ 0x00 ∷ 0x00 ∷ 0x01 ∷ 0x01 ∷ 0x0b ∷ 0xb6 ∷ 0x94 ∷ 0xa4 ∷ 0x45 ∷ 0xd5 ∷ 0x4d ∷ 0x4a ∷
    0x44 ∷ 0x40 ∷ []

-- both macroblocks copied, the second by the vector (-1, 0) in half samples
abbrev predictive_bytes : List ℕ
predictive_bytes = 0x00 ∷ 0x00 ∷ 0x01 ∷ 0x00 ∷ 0x00 ∷ 0x17 ∷ 0xff ∷ 0xf8 ∷ 0x80 ∷ 0x00 ∷ 0x00 ∷ 0x01 ∷ 0x01 ∷ 0x0a ∷ 0x79 ∷ 0x70 ∷ []

-- the first macroblock by the vectors (1, 0) forward and (0, 0) backward, the second by (-1, 0) backward
abbrev both_ways_bytes : List ℕ
both_ways_bytes = 0x00 ∷ 0x00 ∷ 0x01 ∷ 0x00 ∷ 0x00 ∷ 0x1f ∷ 0xff ∷ 0xf8 ∷ 0x88 ∷ 0x00 ∷ 0x00 ∷ 0x01 ∷ 0x01 ∷ 0x0b ∷ 0x2f ∷ 0x4e ∷ []

-- sequence_end_code, the last four bytes of the stream
abbrev end_bytes : List ℕ
end_bytes = 0x00 ∷ 0x00 ∷ 0x01 ∷ 0xb7 ∷ []

abbrev stream : List ℕ
stream = header_bytes ++ (group_bytes ++ (intra_bytes ++ (predictive_bytes ++ (both_ways_bytes ++ (intra_bytes ++ end_bytes)))))

abbrev opened-by : CallResult Opening
opened-by = opening stream (replicate 2304 7)

-- a stream that ends with its last picture (DIFFERENCES B.18)
abbrev unended_stream : List ℕ
unended_stream = header_bytes ++ (group_bytes ++ (intra_bytes ++ (predictive_bytes ++ intra_bytes)))

-- the pictures of the stream s, behind the opening o
abbrev decoded : List ℕ → CallResult Opening → Result Forbidden (List S.Decoded)
decoded s o = pictures rust o.decoder.sequence.sizes o.decoder.sequence.matrices s stream_fuel (initial_state o.store) (position o.decoder)

abbrev types : Result Forbidden (List S.Decoded) → List ℕ
types (ok ds) = map (λ (d : S.Decoded). d.header.picture_coding_type) ds
types (error d) = []

-- what is shown: the number of a store, and the samples 15 to 17 of the first row of its plane Y
abbrev seen : S.Decoded → List ℕ
seen p = store_of p ∷ take 3 (drop (768 * store_of p + 15) p.pels)

abbrev rows : Result Forbidden (List S.Decoded) → List (List ℕ)
rows (ok ds) = map seen (shown (all_but_last ds))
rows (error d) = []

pub record Sequence : Type 0 where
  pub ready : opened-by.answer ≡ Ready
  pub four : types (decoded stream opened-by) ≡ 1 ∷ 2 ∷ 3 ∷ 1 ∷ []
  pub unended : types (decoded unended_stream (opening unended_stream (replicate 2304 7))) ≡ 1 ∷ 2 ∷ 1 ∷ []
  -- the I picture, out of store 0, then the B picture, out of store 2; the P picture and the last one are not handed out (DIFFERENCES A.7)
  pub handed : rows (decoded stream opened-by) ≡ (0 ∷ 133 ∷ 128 ∷ 128 ∷ []) ∷ (2 ∷ 132 ∷ 132 ∷ 130 ∷ []) ∷ []

pub sequence : Sequence
unfolding clamp255 odd store_row store_rows bit_at bits_at read_at after_read code_prefix code_from found run
    bind for_below loop find_step find_start_code iterate of_int
    all_below
    Tables.macroblock_address_increment_index Tables.macroblock_address_increment_value Tables.macroblock_type_intra_index Tables.macroblock_type_intra_value
    Tables.macroblock_type_predictive_index Tables.macroblock_type_predictive_value Tables.macroblock_type_b_index Tables.macroblock_type_b_value
    Tables.motion_index Tables.motion_value Tables.dct_size_luminance_index Tables.dct_size_luminance_value Tables.dct_size_chrominance_index
    Tables.dct_size_chrominance_value Tables.dct_coeff_index Tables.dct_coeff_value
    walk_step walk vlc Codes.macroblock_address_increment Codes.macroblock_type_intra Codes.macroblock_type_predictive Codes.macroblock_type_b Codes.motion
    Codes.dct_size_luminance Codes.dct_size_chrominance Codes.dct_coeff
    down_from diagonals zig_zag intra_quant_matrix non_intra_quant_matrix premultiplier_matrix pixel_aspect_ratio picture_rate
    macroblock_type_intra_codes macroblock_type_predictive_codes macroblock_type_b_codes
    complement right recon reconstructed residual standard_vector or32 dct_zz0 Dcs.dc_size Coefficients.run_level Coefficients.coefficient dequantised
    Syntax.pair_step Syntax.pairs butterfly columns row_pass idct formed overwrite add_block block_address
    and_then if_ok bind_result lift macroblock_type extra_step extra
    Prelude.field Prelude.while_step Prelude.while S.increment in_table Prediction.vector Prediction.for_vector Prediction.back_vector
    Prediction.predicted_plane Prediction.predicted_from Prediction.predicted Prediction.skipped_from Prediction.skipped
    Block.reconstructed Block.dct_dc Block.written Block.intra_block Block.non_intra_block Block.blocks S.coded_macroblock S.macroblock
    S.after_macroblock S.slice_step S.slice S.direction S.header S.after_slice S.slices_step S.slices S.picture
    fresh fresh_state cleared ensure_start_code matrix size rest find_sequence accepted check_size
    check_header check_store opened opening_from opening following
    pictures
sequence = record { ready = refl; four = refl; unended = refl; handed = refl }
