-- RULES L: what the listing program prints below its line of names.
use Rattle.std.specs.Prelude.{List, [], ◌∷◌, ℕ, zero, suc, ◌+◌, leb, length, replicate}
use Rattle.bits.specs.Programs.{stream_fuel, when◌then◌else◌}
use Rattle.decoder.specs.declared.record.Decoder.{Decoder}
use Rattle.decoder.specs.declared.answers.Opening.{Opening}
use Rattle.decoder.specs.Record.{CallResult}
use Rattle.decoder.specs.Answers.{result, number, opening_answer, decode_answer}
use Rattle.decoder.specs.Opening.{opening}
use Rattle.decoder.specs.Decode.{decode}

-- RULES L.2: pictures so far, store, type read last, answer
pub record Line : Type 0 where
  pub handed : ℕ
  pub store : ℕ
  pub type : ℕ
  pub answer : ℕ

abbrev pub line : ℕ → ℕ → ℕ → ℕ → Line
line handed store type answer = record { handed = handed; store = store; type = type; answer = answer }

-- RULES L.2, L.3: hand-outs up to the first number, with n pictures so far
unfoldable pub lines_from : ℕ → List ℕ → ℕ → Decoder → List ℕ → List Line
lines_from zero s n d l = []
lines_from (suc fuel) s n d l =
    let x = decode d s l in
    elim (decode_answer x.answer) [
      | result p ↦ line (n + 1) p.store x.decoder.state.picture.picture_type 0 ∷ lines_from fuel s (n + 1) x.decoder x.store
      | number answer ↦ line n 0 0 answer ∷ []
    ]

-- RULES L.3: a number from opening is the only line
unfoldable pub lines_of : List ℕ → CallResult Opening → List Line
lines_of s x = elim (opening_answer x.answer) [ result y ↦ lines_from stream_fuel s 0 x.decoder x.store | number answer ↦ line 0 0 0 answer ∷ [] ]

-- RULES L.1: at most 65,536 bytes; a store for 48 macroblocks
unfoldable pub listing : List ℕ → List Line
listing s = when leb (length s) 65536 then lines_of s (opening s (replicate 55296 0)) else line 0 0 0 1 ∷ []
