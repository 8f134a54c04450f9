-- RULES 8.9, computed: the times of three pictures at the code 4, which is 29.97, and at the code 0, as bits.
use mathlib.Core.Path.{◌≡◌, refl}
use mathlib.Core.List.{List, [], ◌∷◌, ◌++◌, map}
use Prim.Native.Nat.{ℕ, zero, suc}
use lib.Ieee.{binary64, div, of_int, to_bits}
use lib.ListN.{replicate}
use Rattle.laws.specs.Loops.{iterate}
use Rattle.laws.specs.Each.{all_below}
use Rattle.bits.specs.Bits.{bit_at, bits_at, read_at, after_read, code_prefix, code_from, found}
use Rattle.bits.specs.Programs.{run, bind, loop, find_step, find_start_code}
use Rattle.codes.specs.Matrices.{intra_quant_matrix, non_intra_quant_matrix, premultiplier_matrix, bounded}
use Rattle.codes.specs.Rates.{pixel_aspect_ratio, picture_rate}
use Rattle.picture_state.specs.Result.{if_ok, bind_result}
use Rattle.picture.specs.Pictures as P
use Rattle.header.specs.Store.{cleared}
use Rattle.header.specs.Sequences.{matrix, size, rest}
use Rattle.decoder.specs.Record.{fresh}
use Rattle.decoder.specs.Possible.{possible}
use Rattle.decoder.specs.Headers.{find_sequence, accepted, check_size, check_header, check_store}
use Rattle.decoder.specs.Opening.{opened, opening_from, opening}
use Rattle.playback.specs.State.{fresh_state, possible_display}
use Rattle.playback.specs.Search.{ensure_start_code, is_followed}
use Rattle.playback.specs.Display.{time_of, counted, output_picture, shown}
use Rattle.playback.specs.Steps.{after_picture, decoded, searched, picture_step, pictures}
use Rattle.decoder.specs.Decode.{call_result_of, check_header_and_store, start_state, after_checks, decode}
use Rattle.decoder.specs.Run.{CallState, call, state_after, state_after_opening}
use Rattle.clock.specs.Times.{time_by}

-- RULES L.4 with the codes 4 and 0 of the rate, and with five I pictures: the fourth waits for ever, and the last is never decoded
abbrev header_at4 : List ℕ
header_at4 = 0x00 ∷ 0x00 ∷ 0x01 ∷ 0xb3 ∷ 0x01 ∷ 0x00 ∷ 0x10 ∷ 0x14 ∷ 0x00 ∷ 0x00 ∷ 0x00 ∷ 0x00 ∷ []

abbrev header_at0 : List ℕ
header_at0 = 0x00 ∷ 0x00 ∷ 0x01 ∷ 0xb3 ∷ 0x01 ∷ 0x00 ∷ 0x10 ∷ 0x10 ∷ 0x00 ∷ 0x00 ∷ 0x00 ∷ 0x00 ∷ []

abbrev picture_bytes : List ℕ
picture_bytes = 0x00 ∷ 0x00 ∷ 0x01 ∷ 0x00 ∷ 0x00 ∷ 0x08 ∷ 0xff ∷ 0xff ∷ []

abbrev picture_stream : List ℕ
picture_stream = replicate 104 0xff ++ (picture_bytes ++ (picture_bytes ++ (picture_bytes ++ (picture_bytes ++ picture_bytes))))

abbrev stream_at4 : List ℕ
stream_at4 = header_at4 ++ picture_stream

abbrev stream_at0 : List ℕ
stream_at0 = header_at0 ++ picture_stream

-- the bits of the times that n calls show
abbrev bits_shown : List ℕ → ℕ → CallState → List ℕ
bits_shown s zero x = []
bits_shown s (suc n) x = map (to_bits binary64) (time_by (call s x).answer) ++ bits_shown s n (state_after (call s x))

-- by the opening and four calls
abbrev time_bits : List ℕ → List ℕ
time_bits s = bits_shown s 4 (state_after_opening s (replicate 1152 7))

pub record TimesComputed : Type 0 where
  -- 0.0, 1 ÷ 29.97 and 2 ÷ 29.97
  pub at-4 : time_bits stream_at4 ≡ 0 ∷ 0x3fa11570aad666ad ∷ 0x3fb11570aad666ad ∷ []
  -- 0.0, and then +∞
  pub at-0 : time_bits stream_at0 ≡ 0 ∷ 0x7ff0000000000000 ∷ 0x7ff0000000000000 ∷ []

pub times-computed : TimesComputed
unfolding iterate all_below div of_int to_bits bit_at bits_at read_at after_read code_prefix code_from found run bind loop find_step find_start_code
    intra_quant_matrix non_intra_quant_matrix premultiplier_matrix bounded pixel_aspect_ratio picture_rate if_ok bind_result P.direction P.picture_header
    P.slices_in_roles P.slices_step P.slices P.picture
    fresh fresh_state possible_display cleared possible matrix size rest find_sequence accepted check_size check_header check_store opened opening_from opening
    ensure_start_code is_followed time_of counted output_picture shown after_picture decoded searched
    picture_step pictures call_result_of check_header_and_store start_state
    after_checks decode
times-computed = record { at-4 = refl; at-0 = refl }
