-- What the code has behind a picture's header, behind a slice, and behind the slices of a picture.
use Rattle.std.specs.Prelude.{true, not, ◌&&◌, eqb, ℤ, pos, ◌+ℤ◌, Option, Some, None}
use Rattle.std.specs.Int.Signed.{le_z}
use Rattle.picture_state.specs.declared.types.{Context.Context, Stores.Stores, Progress.Progress, SlicesProgress.SlicesProgress}
use Rattle.picture_state.specs.declared.types.PictureProgress.{PictureProgress}
use Rattle.picture_state.specs.Stop.{stop_number}
use Rattle.picture.specs.Pictures as P
use Rattle.picture.specs.declared.headers.{Direction.Direction, HeaderRead.HeaderRead}

-- RULES 7.1: a direction as the code has it
abbrev pub direction_of : Option Direction → P.Direction
direction_of None = P.absent
direction_of (Some d) = P.present d.full_pel_vector d.f_code

-- RULES 7.1: the fields of a header as the code has read them, without the reader behind them
abbrev pub header_of : HeaderRead → P.PictureHeader
header_of h = record {
  temporal_reference = h.temporal_reference;
  picture_coding_type = h.picture_coding_type;
  vbv_delay = h.vbv_delay;
  forward = direction_of h.forward;
  backward = direction_of h.backward;
}

-- RULES 7.4: behind a slice with this start code another one follows unless it stopped, or the address has reached the last macroblock
abbrev pub after_slice_of : Context → ℤ → Progress → SlicesProgress
after_slice_of g code w = record {
  reader = w.reader;
  code = code;
  state = w.state;
  begun = true;
  continues = eqb (stop_number w.stop) 0 && not (le_z (pos g.sizes.mb_size) (w.state.macroblock_address +ℤ pos 1));
  stop = w.stop;
}

-- the picture whose slices were read, with these roles of the stores
abbrev pub progress_of : Context → Stores → SlicesProgress → PictureProgress
progress_of g stores t = record {
  reader = t.reader;
  picture = record { picture_type = g.picture_type; start_code = t.code; stores = stores; slice = t.state };
  stop = t.stop;
}
