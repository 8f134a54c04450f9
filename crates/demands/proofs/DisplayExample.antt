-- DIFFERENCES A.7, computed on the listing example: of its three I pictures the first call reads two and shows the first, the second waits for ever, and the
-- third is never read.
use mathlib.Core.Path.{◌≡◌, refl}
use mathlib.Core.Bool.{true, false}
use mathlib.Core.List.{[], ◌∷◌}
use lib.Ieee.{of_int}
use lib.ListN.{replicate}
use Rattle.laws.specs.Loops.{iterate}
use Rattle.laws.specs.Each.{all_below}
use Rattle.bits.specs.Bits.{bit_at, bits_at, read_at, after_read, code_prefix, code_from, found}
use Rattle.bits.specs.Programs.{run, bind, loop, find_step, find_start_code}
use Rattle.codes.specs.Matrices.{intra_quant_matrix, non_intra_quant_matrix, premultiplier_matrix, bounded}
use Rattle.picture_state.specs.Result.{if_ok, bind_result}
use Rattle.picture.specs.Pictures as P
use Rattle.header.specs.Store.{cleared}
use Rattle.header.specs.Sequences.{matrix, size, rest}
use Rattle.decoder.specs.Record.{fresh}
use Rattle.decoder.specs.Possible.{possible}
use Rattle.decoder.specs.Headers.{find_sequence, accepted, check_size, check_header, check_store}
use Rattle.decoder.specs.Opening.{opened, opening_from, opening}
use Rattle.playback.specs.State.{fresh_state, possible_display}
use Rattle.playback.specs.Search.{ensure_start_code, is_followed}
use Rattle.playback.specs.Display.{time_of, counted, output_picture, shown}
use Rattle.playback.specs.Steps.{after_picture, decoded, searched, picture_step, pictures}
use Rattle.decoder.specs.Decode.{call_result_of, check_header_and_store, start_state, after_checks, decode}
use Rattle.demands.specs.Display.{CodedPicture, displayed, waiting, step_reads, pictures_read, decode_reads, shown_by}
use Rattle.demands.proofs.Listing.{example, first, second, third}

-- an I picture of one macroblock, all samples 0
abbrev blank : CodedPicture
blank = record { is_b = false; decoded = true; samples = replicate 384 0 }

pub record Shown : Type 0 where
  pub reads : decode_reads first.decoder example first.store ≡ blank ∷ blank ∷ []
  pub shows : shown_by second.answer second.decoder second.store ≡ displayed [] (blank ∷ blank ∷ [])
  pub waits : waiting [] (blank ∷ blank ∷ []) ≡ replicate 384 0 ∷ []
  pub reads-no-more : decode_reads second.decoder example second.store ≡ []
  pub shows-no-more : shown_by third.answer third.decoder third.store ≡ []

pub shown-example : Shown
unfolding iterate all_below of_int bit_at bits_at read_at after_read code_prefix code_from found run bind loop find_step find_start_code
    intra_quant_matrix non_intra_quant_matrix premultiplier_matrix bounded if_ok bind_result P.direction P.picture_header
    P.slices_in_roles P.slices_step P.slices P.picture
    fresh fresh_state possible_display cleared possible matrix size rest find_sequence accepted check_size check_header check_store opened opening_from opening
    ensure_start_code is_followed time_of counted output_picture shown after_picture decoded searched
    picture_step pictures call_result_of check_header_and_store start_state
    after_checks decode
    displayed waiting step_reads pictures_read decode_reads
shown-example = record { reads = refl; shows = refl; waits = refl; reads-no-more = refl; shows-no-more = refl }
