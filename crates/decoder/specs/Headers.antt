-- RULES Q3 to Q6: the questions on the sequence header, and its acceptance.
use Rattle.std.specs.Prelude.{true, not, ◌||◌, List, ℕ, eqb, leb, pos, negsuc, length}
use Rattle.bits.specs.Bits.{has}
use Rattle.bits.specs.Programs.{RunResult, run, eq_z, when◌then◌else◌}
use Rattle.picture_state.specs.State.{with_stores, first_stores}
use Rattle.header.specs.Possible.{sizes_of}
use Rattle.header.specs.declared.sequences.Size.{Size}
use Rattle.header.specs.declared.sequences.Rest.{Rest}
use Rattle.header.specs.Sequences.{size, rest, aspect_of, rate_of}
use Rattle.decoder.specs.declared.record.Decoder.{Decoder}
use Rattle.playback.specs.State.{next_time, shown_time, timed_as}
use Rattle.playback.specs.Search.{ensure_start_code}
use Rattle.decoder.specs.Record.{position, start_code, with_position, with_sequence, state_as, store_bytes}

-- the result of some checks (RULES Q: questions): the first "no" with its number and the record that it leaves, or the record with which the call goes on
pub data CheckResult : Type 0 where
  refused : ℕ → Decoder → CheckResult
  passed : Decoder → CheckResult

-- RULES Q3, Q4: the sequence start code is searched, unless the record has it already
unfoldable pub find_sequence : List ℕ → Decoder → Decoder
find_sequence s d = state_as (ensure_start_code (pos 0xb3) s d.state) d

-- RULES Q5: width and height as read, and the place behind them
abbrev pub with_size_read : RunResult Size → Decoder → Decoder
with_size_read o d = with_position o.at (with_sequence (record {
  has_sequence_header = d.sequence.has_sequence_header;
  width = o.value.width;
  height = o.value.height;
  sizes = d.sequence.sizes;
  matrices = d.sequence.matrices;
}) d)

-- RULES O.3, O.4: what accepting a header sets
unfoldable pub accepted : RunResult Rest → Decoder → Decoder
accepted o d = record {
  sequence = record {
    has_sequence_header = true;
    width = d.sequence.width;
    height = d.sequence.height;
    sizes = sizes_of d.sequence.width d.sequence.height;
    matrices = o.value.matrices;
  };
  state = record {
    position = record { 0 = o.at };
    picture = with_stores first_stores d.state.picture;
    display = timed_as (record {
      framerate = rate_of o.value.picture_rate;
      pixel_aspect_ratio = aspect_of o.value.pel_aspect_ratio;
      time = next_time d.state;
      last_frame_time = shown_time d.state;
    }) d.state.display;
  };
  block_data = d.block_data;
  stop = d.stop;
}

-- RULES Q5: width and height, and with both above 0 the rest of the header
unfoldable pub check_size : List ℕ → Decoder → CheckResult
check_size s d =
    let x = with_size_read (run size s (position d)) d in
    when eqb x.sequence.width 0 || eqb x.sequence.height 0 then refused 5 x
    else passed (accepted (run rest s (position x)) x)

-- RULES Q3, Q4, Q5
unfoldable pub check_header : List ℕ → Decoder → CheckResult
check_header s d =
    let x = find_sequence s d in
    when eq_z (start_code x) (negsuc 0) then refused 3 x
    else when not (has s (position x) 1088) then refused 4 x
    else check_size s x

-- RULES Q6: of the record passed in, d, nothing is changed
unfoldable pub check_store : Decoder → List ℕ → CheckResult → CheckResult
check_store d l (refused n x) = refused n x
check_store d l (passed x) = when leb (store_bytes x) (length l) then passed x else refused 6 d
