-- RULES L.4, L.5: the definitions give the listing example, by computation.
use mathlib.Core.Path.{◌≡◌, refl}
use mathlib.Core.List.{List, [], ◌∷◌, ◌++◌}
use Prim.Native.Nat.{ℕ}
use lib.Ieee.{binary64, of_int}
use lib.IntN.{pos}
use lib.ListN.{replicate}
use Rattle.laws.specs.Loops.{iterate}
use Rattle.bits.specs.Bits.{bit_at, bits_at, read_at, after_read, code_prefix, code_from, found}
use Rattle.bits.specs.Programs.{run, bind, loop, find_step, find_start_code}
use Rattle.codes.specs.Matrices.{intra_quant_matrix, non_intra_quant_matrix, premultiplier_matrix, bounded}
use Rattle.picture_state.specs.Result.{if_ok, bind_result}
use Rattle.picture.specs.Pictures as P
use Rattle.header.specs.Store.{cleared}
use Rattle.header.specs.Sequences.{matrix, size, rest}
use Rattle.decoder.specs.Record.{CallResult, fresh}
use Rattle.decoder.specs.Answers.{result, number, opening_answer, decode_answer}
use Rattle.laws.specs.Each.{all_below}
use Rattle.decoder.specs.Possible.{possible}
use Rattle.decoder.specs.Headers.{find_sequence, accepted, check_size, check_header, check_store}
use Rattle.decoder.specs.Opening.{opened, opening_from, opening}
use Rattle.playback.specs.State.{fresh_state, possible_display}
use Rattle.playback.specs.Search.{ensure_start_code, is_followed}
use Rattle.playback.specs.Display.{time_of, counted, output_picture, shown}
use Rattle.playback.specs.Steps.{after_picture, decoded, searched, picture_step, pictures}
use Rattle.decoder.specs.Decode.{call_result_of, check_header_and_store, start_state, after_checks, decode}
use Rattle.decoder.specs.Listing.{line, lines_from, lines_of, listing}
use Rattle.decoder.specs.declared.answers.Opening.{Opening}
use Rattle.playback.specs.declared.outcome.Outcome.{Outcome}

-- RULES L.4
abbrev pub header_bytes : List ℕ
header_bytes = 0x00 ∷ 0x00 ∷ 0x01 ∷ 0xb3 ∷ 0x01 ∷ 0x00 ∷ 0x10 ∷ 0x13 ∷ 0x00 ∷ 0x00 ∷ 0x00 ∷ 0x00 ∷ []

abbrev pub picture_bytes : List ℕ
picture_bytes = 0x00 ∷ 0x00 ∷ 0x01 ∷ 0x00 ∷ 0x00 ∷ 0x08 ∷ 0xff ∷ 0xff ∷ []

abbrev pub example : List ℕ
example = header_bytes ++ (replicate 104 0xff ++ (picture_bytes ++ (picture_bytes ++ picture_bytes)))

-- opening and two hand-outs, with a store for one macroblock that is not 0
abbrev pub first : CallResult Opening
first = opening example (replicate 1152 7)

abbrev pub second : CallResult Outcome
second = decode first.decoder example first.store

abbrev pub third : CallResult Outcome
third = decode second.decoder example second.store

-- what they give, and what the listing prints
pub record Listed : Type 0 where
  pub opens : opening_answer first.answer ≡ result tt
  pub clears : first.store ≡ replicate 1152 0
  -- the first picture is handed out of store 0, at the time 0
  pub hands : decode_answer second.answer ≡ result (record { store = 0; time = of_int binary64 (pos 0) })
  -- the third picture is the last of the stream, and is never decoded (RULES 8.3)
  pub ends : decode_answer third.answer ≡ number 7
  -- RULES L.5
  pub lines : listing example ≡ line 1 0 1 0 ∷ line 1 0 0 7 ∷ []

pub listed : Listed
unfolding iterate all_below of_int bit_at bits_at read_at after_read code_prefix code_from found run bind loop find_step find_start_code
    intra_quant_matrix non_intra_quant_matrix premultiplier_matrix bounded if_ok bind_result P.direction P.picture_header
    P.slices_in_roles P.slices_step P.slices P.picture
    fresh fresh_state possible_display cleared possible matrix size rest find_sequence accepted check_size check_header check_store opened opening_from opening
    ensure_start_code is_followed time_of counted output_picture shown after_picture decoded searched
    picture_step pictures call_result_of check_header_and_store start_state
    after_checks decode lines_from
    lines_of listing
listed = record { opens = refl; clears = refl; hands = refl; ends = refl; lines = refl }
