-- RULES O.3, O.4, 8.3 to 8.11: what an opening that is ready leaves; what a hand-out gives out, and what it then leaves.
use Rattle.std.specs.Prelude.{◌≡◌, List, ℕ, ◌≤◌, length}
use Rattle.header.specs.Store.{cleared}
use Rattle.playback.specs.declared.outcome.Shown.{Shown}
use Rattle.playback.specs.Steps.{DecodingState, after_picture_search}
use Rattle.playback.specs.Cases.{Outputs}
use Rattle.decoder.specs.declared.record.Decoder.{Decoder}
use Rattle.decoder.specs.Record.{fresh, with_decoding_state, store_bytes}
use Rattle.demands.specs.Checks.{with_header, with_header_if_missing}
use Rattle.demands.specs.After.{StepOfCall}

-- RULES O.3, O.4: the fresh record with the header accepted, and the store's first 1,152 × macroblocks bytes 0
pub record OpeningLeaves (s l : List ℕ) (x : Decoder) (m : List ℕ) : Type 0 where
  pub decoder : x ≡ with_header s fresh
  pub long : store_bytes x ≤ length l
  pub store : m ≡ cleared (store_bytes x) l

-- a hand-out with the record d, the stream s and the store l gives out i, in one of its turns, and leaves x and m
pub record DecodeOutputs (d : Decoder) (s l : List ℕ) (i : Shown) (x : Decoder) (m : List ℕ) : Type 0 where
  pub given : DecodingState
  pub step : StepOfCall d s l given
  pub left : DecodingState
  pub outputs : let q = (with_header_if_missing s d).sequence in Outputs s q.sizes q.matrices (after_picture_search s given) i left
  pub decoder : x ≡ with_decoding_state (with_header_if_missing s d) left
  pub store : m ≡ left.store
