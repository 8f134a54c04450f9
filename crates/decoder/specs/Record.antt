-- The record, and the changes that the rules make in it.
use Rattle.std.specs.Prelude.{List, ℕ, ℤ}
use Rattle.picture_state.specs.State.{fresh_block}
use Rattle.header.specs.declared.state.Sequence.{Sequence}
use Rattle.header.specs.State.{fresh_sequence}
use Rattle.prediction.specs.Planes.{stores_bytes}
use Rattle.playback.specs.declared.state.State.{State}
use Rattle.playback.specs.State as S
use Rattle.playback.specs.Steps.{DecodingState, decoding_state}
use Rattle.decoder.specs.declared.record.Decoder.{Decoder}

-- the place of a record in the stream, and its start code
abbrev pub position : Decoder → ℕ
position d = S.position d.state

abbrev pub start_code : Decoder → ℤ
start_code d = S.start_code d.state

-- RULES O.1: the fresh record
unfoldable pub fresh : Decoder
fresh = record { sequence = fresh_sequence; state = S.fresh_state; block_data = fresh_block; stop = 0 }

-- the record with one thing changed
abbrev pub with_sequence : Sequence → Decoder → Decoder
with_sequence q d = record { sequence = q; state = d.state; block_data = d.block_data; stop = d.stop }

abbrev pub state_as : State → Decoder → Decoder
state_as x d = record { sequence = d.sequence; state = x; block_data = d.block_data; stop = d.stop }

-- RULES Q8, Q9: the stop mark
abbrev pub with_stop : ℕ → Decoder → Decoder
with_stop n d = record { sequence = d.sequence; state = d.state; block_data = d.block_data; stop = n }

-- at the place a
abbrev pub with_position : ℕ → Decoder → Decoder
with_position a d = state_as (record { position = record { 0 = a }; picture = d.state.picture; display = d.state.display }) d

-- a search that ended at the place a with the start code c
abbrev pub with_search_result : ℤ → ℕ → Decoder → Decoder
with_search_result c a d = state_as (S.with_search_result c a d.state) d

-- what the turns of a hand-out are given of a record, with the store l; and the record with what they leave
abbrev pub decoding_state_of : Decoder → List ℕ → DecodingState
decoding_state_of d l = decoding_state d.state d.block_data l

abbrev pub with_decoding_state : Decoder → DecodingState → Decoder
with_decoding_state d x = record { sequence = d.sequence; state = x.state; block_data = x.block_data; stop = d.stop }

-- what a call leaves: its answer, the record and the store
pub record CallResult (A : Type 0) : Type 0 where
  pub answer : A
  pub decoder : Decoder
  pub store : List ℕ

abbrev pub call_result : {A : Type 0} → A → Decoder → List ℕ → CallResult A
call_result x d l = record { answer = x; decoder = d; store = l }

-- RULES 6.11: bytes of the three stores
abbrev pub store_bytes : Decoder → ℕ
store_bytes d = stores_bytes d.sequence.sizes.mb_size
