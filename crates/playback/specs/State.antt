-- What hand-outs change of the record, and the changes that the rules make in it.
use Rattle.std.specs.Prelude.{Bool, false, ℕ, leb, Float, ℤ}
use Rattle.picture_state.specs.State.{with_start_code, fresh_picture}
use Rattle.picture.specs.Pictures.{PictureState}
use Rattle.header.specs.State.{zero_float}
use Rattle.playback.specs.declared.outcome.Shown.{Shown}
use Rattle.playback.specs.declared.state.{Clock.Clock, Display.Display, State.State}

-- RULES Q2: the most pictures that a record can have handed out
abbrev pub most_pictures : ℕ
most_pictures = 134217728

-- the position (RULES S.7: place) in the stream, and the start code that was found last
abbrev pub position : State → ℕ
position x = x.position.0

abbrev pub start_code : State → ℤ
start_code x = x.picture.start_code

-- RULES 8.5: the Rust's has_reference_frame (RULES S.7: held); RULES 8.10: how many pictures have been handed out
abbrev pub has_reference_frame : State → Bool
has_reference_frame x = x.display.has_reference_frame

abbrev pub frames : State → ℕ
frames x = x.display.frames_decoded

-- RULES 8.12: the time of the next picture, and the time shown
abbrev pub next_time : State → Float
next_time x = x.display.clock.time

abbrev pub shown_time : State → Float
shown_time x = x.display.clock.last_frame_time

-- RULES F.12: what is told of the picture in the store number k, with the state x as the call leaves it: the store, and the time shown
abbrev pub shown_picture : ℕ → State → Shown
shown_picture k x = record { store = k; time = shown_time x }

-- RULES O.1: of the fresh record
unfoldable pub fresh_state : State
fresh_state = record {
  position = record { 0 = 0 };
  picture = fresh_picture;
  display = record {
    clock = record { framerate = zero_float; pixel_aspect_ratio = zero_float; time = zero_float; last_frame_time = zero_float };
    has_reference_frame = false;
    frames_decoded = 0;
  };
}

-- RULES Q2: is what is shown possible? The count of pictures handed out
unfoldable pub possible_display : Display → Bool
possible_display v = leb v.frames_decoded most_pictures

-- what is shown, with another clock
abbrev pub timed_as : Clock → Display → Display
timed_as c v = record { clock = c; has_reference_frame = v.has_reference_frame; frames_decoded = v.frames_decoded }

-- a search that ended at the place a with the start code c
abbrev pub with_search_result : ℤ → ℕ → State → State
with_search_result c a x = record { position = record { 0 = a }; picture = with_start_code c x.picture; display = x.display }

-- behind a picture that was read up to the place a
abbrev pub state_after_picture : PictureState → ℕ → State → State
state_after_picture f a x = record { position = record { 0 = a }; picture = f.picture; display = x.display }

-- the clock and the count of pictures handed out
abbrev pub clock_as : Clock → ℕ → State → State
clock_as c n x = record {
  position = x.position;
  picture = x.picture;
  display = record { clock = c; has_reference_frame = has_reference_frame x; frames_decoded = n };
}

-- RULES 8.5, 8.8: with this has_reference_frame
abbrev pub has_reference_frame_as : Bool → State → State
has_reference_frame_as b x = record {
  position = x.position;
  picture = x.picture;
  display = record { clock = x.display.clock; has_reference_frame = b; frames_decoded = frames x };
}
