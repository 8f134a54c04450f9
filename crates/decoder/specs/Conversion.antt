-- RULES part 9, Q: the conversion. Its answer and every number of the area; record and store are not changed (RULES QF).
use Rattle.std.specs.Prelude.{not, ◌&&◌, List, ℕ, leb, length}
use Rattle.bits.specs.Programs.{when◌then◌else◌}
use Rattle.argb.specs.Scaled as Argb
use Rattle.conversion.specs.Pictures.{picture_in, fits}
use Rattle.decoder.specs.declared.record.Decoder.{Decoder}
use Rattle.decoder.specs.declared.answers.Converted.{Converted}
use Rattle.decoder.specs.declared.answers.Converted.TheVariants.{Written, Refused}
use Rattle.decoder.specs.Record.{store_bytes}
use Rattle.decoder.specs.Possible.{possible}

-- RULES C.1: what the conversion gives: its answer and the whole area
pub record ConversionOutput : Type 0 where
  pub answer : Converted
  pub area : List ℕ

abbrev pub area : Converted → List ℕ → ConversionOutput
area x a = record { answer = x; area = a }

-- RULES Q: the questions 2, 6, 10, 11
unfoldable pub converted : Decoder → List ℕ → ℕ → List ℕ → ℕ → ℕ → ConversionOutput
converted d l k a w h =
    when not (possible d) then area (Refused 2) a
    else when not (leb (store_bytes d) (length l)) then area (Refused 6) a
    else when not (d.sequence.has_sequence_header && leb k 2) then area (Refused 10) a
    else when not (fits w h a) then area (Refused 11) a
    else area Written (Argb.scaled (picture_in d.sequence l k) w h a)
