-- RULES R: how many pictures a stream hands out, and the number that ends the calls.
use Rattle.std.specs.Prelude.{◌≡◌, true, List, [], ◌∷◌, ℕ, zero, suc, ◌+◌, ◌<◌, length}
use Rattle.bits.specs.Programs.{stream_fuel}
use Rattle.decoder.specs.declared.record.Decoder.{Decoder}
use Rattle.decoder.specs.declared.answers.Opening.{Opening}
use Rattle.playback.specs.declared.outcome.Outcome.TheVariants as H
use Rattle.decoder.specs.declared.answers.DecodeResult.{DecodeResult}
use Rattle.decoder.specs.Record.{CallResult}
use Rattle.decoder.specs.Calls.{Decodes}
use Rattle.decoder.specs.Answers.{result, number, opening_answer, decode_answer}
use Rattle.decoder.specs.Opening.{opening}
use Rattle.decoder.specs.Run.{CallState}
use Rattle.decoder.specs.Decode.{decode}
use Rattle.decoder.specs.Run as Run
use Rattle.demands.specs.Calls.{Calls, pictures_in}
use Rattle.demands.specs.ErrorCodes.{member}

-- what a count leaves: its answer, the pictures and the whole store
pub record Counts : Type 0 where
  pub answer : ℕ
  pub pictures : ℕ
  pub store : List ℕ

abbrev pub counts : ℕ → ℕ → List ℕ → Counts
counts answer pictures store = record { answer = answer; pictures = pictures; store = store }

-- hand-outs up to the first number, with n pictures so far; the fuel is never spent (proofs/CountRun.antt)
unfoldable pub count_from : ℕ → List ℕ → ℕ → Decoder → List ℕ → Counts
count_from zero s n d l = counts 0 n l
count_from (suc fuel) s n d l =
    let x = decode d s l in
    elim (decode_answer x.answer) [ result p ↦ count_from fuel s (n + 1) x.decoder x.store | number answer ↦ counts answer n x.store ]

-- a number from opening ends it at once
unfoldable pub count_of : List ℕ → CallResult Opening → Counts
count_of s x = elim (opening_answer x.answer) [ result y ↦ count_from stream_fuel s 0 x.decoder x.store | number answer ↦ counts answer 0 x.store ]

abbrev pub counts_in : List ℕ → List ℕ → Counts
counts_in s l = count_of s (opening s l)

-- what a count says of calls of `decode` from x on, whatever they give by their contract
pub record CountsCalls (s : List ℕ) (x : CallState) (c : Counts) : Type 0 where
  -- as many calls as there are pictures hand out a picture each, and the next one answers with the number and leaves the store
  pub pictures : (rs : List DecodeResult) (y : CallState) → Calls s x rs y → length rs ≡ c.pictures → pictures_in rs ≡ length rs
  pub ends : (rs : List DecodeResult) (y : CallState) → Calls s x rs y → length rs ≡ c.pictures → (r : DecodeResult) (m : List ℕ)
      → Decodes y.decoder s y.store r m → (r.outcome ≡ H.Refused c.answer) × (m ≡ c.store)
  pub number : member c.answer (7 ∷ 8 ∷ 9 ∷ []) ≡ true

-- the same of the run of calls that the definitions give (decoder, Run.antt)
pub record CountsRun (s : List ℕ) (x : CallState) (c : Counts) : Type 0 where
  -- the calls before the last one hand out a picture each, and that one answers with the number
  pub pictures : (k : ℕ) → k < c.pictures → Run.pictures_of_outcome (Run.answer s x k) ≡ 1
  pub output : Run.pictures_output s x c.pictures ≡ c.pictures
  pub ends : Run.answer s x c.pictures ≡ H.Refused c.answer
  pub number : member c.answer (7 ∷ 8 ∷ 9 ∷ []) ≡ true
  pub stored : (Run.state_before_call s x (suc c.pictures)).store ≡ c.store
