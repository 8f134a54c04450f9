-- RULES R: a run of calls with one stream. Each is given the record and the store that the one before it left.
use Rattle.std.specs.Prelude.{List, ℕ, zero, suc, ◌+◌}
use Rattle.playback.specs.declared.outcome.Outcome.{Outcome}
use Rattle.decoder.specs.declared.record.Decoder.{Decoder}
use Rattle.decoder.specs.Record.{CallResult}
use Rattle.decoder.specs.Answers.{result, number, decode_answer}
use Rattle.decoder.specs.Opening.{opening}
use Rattle.decoder.specs.Decode.{decode}

-- between calls: the record and the store
pub record CallState : Type 0 where
  pub decoder : Decoder
  pub store : List ℕ

abbrev pub call_state : Decoder → List ℕ → CallState
call_state d l = record { decoder = d; store = l }

-- RULES R: one call, and what it leaves to the next
abbrev pub call : List ℕ → CallState → CallResult Outcome
call s x = decode x.decoder s x.store

abbrev pub state_after : CallResult Outcome → CallState
state_after r = call_state r.decoder r.store

-- what opening leaves
abbrev pub state_after_opening : List ℕ → List ℕ → CallState
state_after_opening s l = call_state (opening s l).decoder (opening s l).store

-- record and store before call n; call 0 is given x
unfoldable pub state_before_call : List ℕ → CallState → ℕ → CallState
state_before_call s x zero = x
state_before_call s x (suc n) = state_after (call s (state_before_call s x n))

-- the answer of call n
unfoldable pub answer : List ℕ → CallState → ℕ → Outcome
answer s x n = (call s (state_before_call s x n)).answer

-- RULES R.1: is it a picture?
abbrev pub pictures_of_outcome : Outcome → ℕ
pictures_of_outcome o = elim (decode_answer o) [ result p ↦ 1 | number n ↦ 0 ]

-- how many pictures the calls 0 .. n - 1 output (RULES S.7: hand out)
unfoldable pub pictures_output : List ℕ → CallState → ℕ → ℕ
pictures_output s x zero = 0
pictures_output s x (suc n) = pictures_output s x n + pictures_of_outcome (answer s x n)
