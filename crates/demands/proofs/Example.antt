-- RULES C.4: two streams of an I, a P and a B picture, and one whose last picture is flushed: the definitions give what the Rust gives.
use mathlib.Core.Path.{◌≡◌, refl}
use mathlib.Core.List.{List, [], ◌∷◌, ◌++◌}
use Prim.Native.Nat.{ℕ}
use lib.Ieee.{binary64, div, of_int}
use lib.IntN.{pos}
use lib.ListN.{replicate, take, drop}
use Rattle.laws.specs.Signed.{clamp255, half_toward_zero, odd}
use Rattle.laws.specs.Stores.{store_row, store_rows}
use Rattle.laws.specs.Loops.{iterate}
use Rattle.bits.specs.Bits.{bit_at, bits_at, read_at, after_read, code_prefix, code_from, found}
use Rattle.bits.specs.Programs.{run, bind, for_below, loop, find_step, find_start_code}
use Rattle.codes.specs.Tables as Tables
use Rattle.codes.specs.Walk.{walk_step, walk, vlc}
use Rattle.codes.specs.Codes as Codes
use Rattle.codes.specs.Matrices.{down_from, diagonals, zig_zag, intra_quant_matrix, non_intra_quant_matrix, premultiplier_matrix, bounded}
use Rattle.codes.specs.Rates.{pixel_aspect_ratio, picture_rate}
use Rattle.motion.specs.Vector.{displacement, motion_vector}
use Rattle.motion.specs.Displacement.{corrected}
use Rattle.coefficients.specs.Dcs as Dcs
use Rattle.coefficients.specs.Coefficients as Coefficients
use Rattle.coefficients.specs.Dequantise.{dequantised}
use Rattle.coefficients.specs.Syntax as Syntax
use Rattle.coefficients.specs.Blocks as Block
use Rattle.transform.specs.Butterfly.{butterfly}
use Rattle.transform.specs.Idct.{columns, rows, idct, dc_only}
use Rattle.prediction.specs.Samples.{sample}
use Rattle.prediction.specs.Predict.{prediction_source, predicted}
use Rattle.prediction.specs.Planes.{predict_from_source, and_then_plane as following, predicted_planes}
use Rattle.prediction.specs.Writers.{set_const, overwrite, block_address}
use Rattle.picture_state.specs.Result.{and_then, if_ok, bind_result, lift}
use Rattle.macroblock_head.specs.Increments.{increment_step, increment}
use Rattle.macroblock_head.specs.Predictions.{unless_refused, predict_from, predict_both, predict, predict_skipped}
use Rattle.macroblock_head.specs.Heads.{macroblock_type, scale, vector, forward, backward, vectors, head, pattern}
use Rattle.blocks.specs.Blocks.{results, written, block_result, one_block, blocks}
use Rattle.macroblock.specs.Macroblocks.{skip_reset, advance, predict_unless_intra, body, first_macroblock, later_macroblock, macroblock}
use Rattle.slice.specs.Slices.{extra_step, extra, after_macroblock, slice_step, slice}
use Rattle.picture.specs.Pictures as P
use Rattle.header.specs.Store.{cleared}
use Rattle.header.specs.Sequences.{matrix, size, rest}
use Rattle.decoder.specs.Record.{CallResult, fresh}
use Rattle.decoder.specs.Answers.{result, number, decode_answer}
use Rattle.laws.specs.Each.{all_below}
use Rattle.decoder.specs.Possible.{possible}
use Rattle.decoder.specs.Headers.{find_sequence, accepted, check_size, check_header, check_store}
use Rattle.decoder.specs.Opening.{opened, opening_from, opening}
use Rattle.playback.specs.State.{fresh_state, possible_display}
use Rattle.playback.specs.Search.{ensure_start_code, is_followed}
use Rattle.playback.specs.Display.{time_of, counted, output_picture, shown, flushed}
use Rattle.playback.specs.Steps.{after_picture, decoded, searched, picture_step, pictures}
use Rattle.decoder.specs.Decode.{call_result_of, check_header_and_store, start_state, after_checks, decode}
use Rattle.decoder.specs.declared.answers.Opening.{Opening}
use Rattle.playback.specs.declared.outcome.Outcome.{Outcome}

-- 32 × 16 samples
abbrev header_bytes : List ℕ
header_bytes = 0x00 ∷ 0x00 ∷ 0x01 ∷ 0xb3 ∷ 0x02 ∷ 0x00 ∷ 0x10 ∷ 0x13 ∷ 0x00 ∷ 0x00 ∷ 0x00 ∷ 0x00 ∷ []

-- the headers of an I, a P and a B picture
abbrev type_i : List ℕ
type_i = 0x00 ∷ 0x00 ∷ 0x01 ∷ 0x00 ∷ 0x00 ∷ 0x08 ∷ 0xff ∷ 0xf8 ∷ []

abbrev type_p : List ℕ
type_p = 0x00 ∷ 0x00 ∷ 0x01 ∷ 0x00 ∷ 0x00 ∷ 0x17 ∷ 0xff ∷ 0xf8 ∷ 0x80 ∷ []

abbrev type_b : List ℕ
type_b = 0x00 ∷ 0x00 ∷ 0x01 ∷ 0x00 ∷ 0x00 ∷ 0x1f ∷ 0xff ∷ 0xf8 ∷ 0x88 ∷ []

-- the start code of the first slice
abbrev slice_code : List ℕ
slice_code = 0x00 ∷ 0x00 ∷ 0x01 ∷ 0x01 ∷ []

-- an I picture with one slice: DC 133 in the first macroblock, 128 in the second, with one more coefficient in its block 1
abbrev intra_bytes : List ℕ
intra_bytes = type_i ++ (slice_code ++ (0x0b ∷ 0xb6 ∷ 0x94 ∷ 0xa4 ∷ 0x45 ∷ 0xd5 ∷ 0x4d ∷ 0x4a ∷ 0x44 ∷ 0x40 ∷ []))

-- a P picture with one slice: both macroblocks copied, the second by the vector (-1, 0) in half samples
abbrev predictive_bytes : List ℕ
predictive_bytes = type_p ++ (slice_code ++ (0x0a ∷ 0x79 ∷ 0x70 ∷ []))

-- a B picture with one slice: the first macroblock by the vectors (1, 0) forward and (0, 0) backward, the second by (-1, 0) backward
abbrev both_ways_bytes : List ℕ
both_ways_bytes = type_b ++ (slice_code ++ (0x0b ∷ 0x2f ∷ 0x4e ∷ []))

-- a picture that is found behind the three, and one behind it
abbrev later_bytes : List ℕ
later_bytes = 0x00 ∷ 0x00 ∷ 0x01 ∷ 0x00 ∷ 0x00 ∷ 0x08 ∷ 0xff ∷ 0xff ∷ []

abbrev stream : List ℕ
stream = header_bytes ++ (replicate 104 0xff ++ (intra_bytes ++ (predictive_bytes ++ (both_ways_bytes ++ (later_bytes ++ later_bytes)))))

abbrev first : CallResult Opening
first = opening stream (replicate 2304 7)

abbrev second : CallResult Outcome
second = decode first.decoder stream first.store

abbrev third : CallResult Outcome
third = decode second.decoder stream second.store

-- 48 × 16 samples: three macroblocks
abbrev wide_bytes : List ℕ
wide_bytes = 0x00 ∷ 0x00 ∷ 0x01 ∷ 0xb3 ∷ 0x03 ∷ 0x00 ∷ 0x10 ∷ 0x13 ∷ 0x00 ∷ 0x00 ∷ 0x00 ∷ 0x00 ∷ []

-- an I picture: DC 133, 128 and 138
abbrev three_bytes : List ℕ
three_bytes = type_i ++ (slice_code ++ (0x0b ∷ 0xb6 ∷ 0x94 ∷ 0xa4 ∷ 0x45 ∷ 0xd5 ∷ 0x4a ∷ 0x52 ∷ 0x22 ∷ 0xf5 ∷ 0x52 ∷ 0x94 ∷ 0x88 ∷
    0x80 ∷ []))

-- a P picture: the first macroblock by (1, 0), the second skipped, the third by (-1, 0)
abbrev skipping_bytes : List ℕ
skipping_bytes = type_p ++ (slice_code ++ (0x0a ∷ 0x55 ∷ 0x97 ∷ []))

-- a B picture: the first macroblock by (1, 0) forward, the second skipped, the third by (-1, 0) backward
abbrev skipping_both_bytes : List ℕ
skipping_both_bytes = type_b ++ (slice_code ++ (0x0a ∷ 0x4a ∷ 0xd3 ∷ 0x80 ∷ []))

abbrev skipping : List ℕ
skipping = wide_bytes ++ (replicate 104 0xff ++ (three_bytes ++ (skipping_bytes ++ (skipping_both_bytes ++ (later_bytes ++ later_bytes)))))

abbrev skips : CallResult Outcome
skips = let x = opening skipping (replicate 3456 7) in let y = decode x.decoder skipping x.store in decode y.decoder skipping y.store

-- 16 × 16 samples
abbrev small_bytes : List ℕ
small_bytes = 0x00 ∷ 0x00 ∷ 0x01 ∷ 0xb3 ∷ 0x01 ∷ 0x00 ∷ 0x10 ∷ 0x13 ∷ 0x00 ∷ 0x00 ∷ 0x00 ∷ 0x00 ∷ []

-- an I picture whose only macroblock is read over a picture start code and up to the last bit
abbrev over_bytes : List ℕ
over_bytes = type_i ++ (slice_code ++ (0x0b ∷ 0x99 ∷ 0x81 ∷ 0x00 ∷ 0x00 ∷ 0x01 ∷ 0x00 ∷ 0x80 ∷ 0x03 ∷ 0x4a ∷ 0x52 ∷ 0x22 ∷ []))

abbrev flushing : List ℕ
flushing = small_bytes ++ (replicate 104 0xff ++ over_bytes)

abbrev flush : CallResult Outcome
flush = let x = opening flushing (replicate 1152 7) in decode x.decoder flushing x.store

abbrev behind_flush : CallResult Outcome
behind_flush = decode flush.decoder flushing flush.store

-- what the hand-outs give
pub record Pictures : Type 0 where
  -- the I picture, out of store 0
  pub hands : decode_answer second.answer ≡ result (record { store = 0; time = of_int binary64 (pos 0) })
  -- the first row of its plane Y
  pub intra-row : take 32 second.store ≡ replicate 16 133 ++ replicate 16 128
  -- and of that of the P picture in store 1, where one sample is the average of 133 and 128
  pub predictive-row : take 32 (drop 768 second.store) ≡ replicate 16 133 ++ (131 ∷ replicate 15 128)
  -- the B picture, out of store 2, a 25th of a second later (RULES 8.9)
  pub hands_next : decode_answer third.answer ≡ result (record { store = 2; time = div binary64 (of_int binary64 (pos 1)) (of_int binary64 (pos 25)) })
  -- its first row, where 132 is the average of 131, by which the I picture predicts, and of 133, by which the P picture does
  pub both_ways-row : take 32 (drop 1536 third.store) ≡ replicate 15 133 ++ (132 ∷ 132 ∷ 130 ∷ replicate 14 128)
  -- RULES 7.19: a skip in a P picture sets the vector to 0
  pub skipped-row : take 48 (drop 1152 skips.store) ≡ replicate 15 133 ++ (131 ∷ replicate 16 128) ++ (133 ∷ replicate 15 138)
  -- and one in a B picture does not: the last of its samples is the average of 128 and 138
  pub skipped-both-row : take 48 (drop 2304 skips.store) ≡ replicate 15 133 ++ (131 ∷ replicate 15 128) ++ (133 ∷ 131 ∷ 136 ∷ replicate 14 138)
  -- RULES 8.8, 8.11: the picture that is held at the exact end is flushed, with the time shown before
  pub flushes : decode_answer flush.answer ≡ result (record { store = 0; time = of_int binary64 (pos 0) })
  -- once
  pub flushes_once : decode_answer behind_flush.answer ≡ number 7

pub shown-pictures : Pictures
unfolding clamp255 half_toward_zero odd store_row store_rows iterate all_below of_int div
    bit_at bits_at read_at after_read code_prefix code_from found run bind for_below loop find_step find_start_code
    Tables.macroblock_address_increment_index Tables.macroblock_address_increment_value Tables.macroblock_type_intra_index Tables.macroblock_type_intra_value
    Tables.macroblock_type_predictive_index Tables.macroblock_type_predictive_value Tables.macroblock_type_b_index Tables.macroblock_type_b_value
    Tables.motion_index Tables.motion_value Tables.dct_size_luminance_index Tables.dct_size_luminance_value Tables.dct_size_chrominance_index
    Tables.dct_size_chrominance_value Tables.dct_coeff_index Tables.dct_coeff_value
    walk_step walk vlc Codes.macroblock_address_increment Codes.macroblock_type_intra Codes.macroblock_type_predictive Codes.macroblock_type_b Codes.motion
    Codes.dct_size_luminance Codes.dct_size_chrominance Codes.dct_coeff
    down_from diagonals zig_zag intra_quant_matrix non_intra_quant_matrix premultiplier_matrix bounded pixel_aspect_ratio picture_rate
    displacement motion_vector corrected Dcs.dc_size Dcs.added Dcs.dc_difference
    Coefficients.escape_level Coefficients.escape Coefficients.run_level Coefficients.coefficient dequantised
    Syntax.pair_step Syntax.pairs Syntax.intra_coded Syntax.coded_block Block.with_pairs Block.reconstructed Block.block Block.block_data_after
    butterfly columns rows idct dc_only sample prediction_source predicted set_const overwrite
    and_then if_ok bind_result lift increment_step increment predict_from_source following
    predicted_planes unless_refused predict_from predict_both predict_skipped
    predict
    macroblock_type scale vector forward backward vectors head pattern block_address results written block_result one_block blocks skip_reset
    advance predict_unless_intra body first_macroblock later_macroblock macroblock extra_step extra after_macroblock slice_step slice P.direction
    P.picture_header P.after_slice P.slices_step P.slices P.slices_in_roles P.picture
    fresh fresh_state possible_display cleared possible matrix size rest find_sequence accepted check_size check_header check_store opened opening_from opening
    ensure_start_code is_followed time_of counted output_picture shown flushed after_picture decoded
    searched picture_step pictures call_result_of check_header_and_store
    start_state after_checks decode
shown-pictures = record {
  hands = refl;
  intra-row = refl;
  predictive-row = refl;
  hands_next = refl;
  both_ways-row = refl;
  skipped-row = refl;
  skipped-both-row = refl;
  flushes = refl;
  flushes_once = refl;
}
