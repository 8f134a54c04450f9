-- RULES Q2: is a record possible?
use Rattle.std.specs.Prelude.{Bool, ◌&&◌, ◌||◌, List, ℕ, eqb, leb}
use Rattle.codes.specs.Matrices.{bounded}
use Rattle.picture_state.specs.Possible.{possible_picture}
use Rattle.header.specs.Possible.{possible_sequence}
use Rattle.decoder.specs.declared.record.Decoder.{Decoder}
use Rattle.playback.specs.State.{possible_display}
use Rattle.decoder.specs.Record.{position}
use Rattle.bits.specs.Bounds.{last_position}

-- RULES QA: the stop mark
abbrev pub possible_stop : ℕ → Bool
possible_stop n = eqb n 0 || eqb n 8 || eqb n 9

-- position, sequence, picture, left-over coefficients, what is shown, stop mark: the question as a conversion puts it, which is given no stream
unfoldable pub possible : Decoder → Bool
possible d =
    leb (position d) last_position && possible_sequence d.sequence && possible_picture d.state.picture && bounded d.block_data &&
    possible_display d.state.display && possible_stop d.stop

-- the question as a hand-out puts it, with the stream at hand: no field of the record depends on the stream
abbrev pub possible_with : List ℕ → Decoder → Bool
possible_with s d = possible d
