-- RULES C.1: the contracts of the three calls: `ensures` of `open`, `decode` and `write_rgb_scaled` is one of these, and theorems on the calls are of them.
use Rattle.std.specs.Prelude.{◌≡◌, List, ℕ}
use Rattle.decoder.specs.declared.record.Decoder.{Decoder}
use Rattle.decoder.specs.declared.answers.{Opened.Opened, DecodeResult.DecodeResult, Converted.Converted}
use Rattle.decoder.specs.Record.{call_result}
use Rattle.decoder.specs.Opening.{opening}
use Rattle.decoder.specs.Decode.{decode}
use Rattle.decoder.specs.Conversion.{area, converted}

-- `open`, given the stream s and the store l, gave r and left the store m
abbrev pub Opens : List ℕ → List ℕ → Opened → List ℕ → Type 0
Opens s l r m = call_result r.answer r.decoder m ≡ opening s l

-- `decode`, given the record d, the stream s and the store l, gave r and left the store m
abbrev pub Decodes : Decoder → List ℕ → List ℕ → DecodeResult → List ℕ → Type 0
Decodes d s l r m = call_result r.outcome r.decoder m ≡ decode d s l

-- `write_rgb_scaled`, given the record d, the store l, the store number k, the area a and the sizes w and h, gave r and left the area b
abbrev pub Converts : Decoder → List ℕ → ℕ → List ℕ → ℕ → ℕ → Converted → List ℕ → Type 0
Converts d l k a w h r b = area r b ≡ converted d l k a w h
