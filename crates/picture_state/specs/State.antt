-- The state of a picture, and the changes that the rules of part 7 make in it.
use Rattle.std.specs.Prelude.{Bool, false, List, ℕ, ℤ, pos, negsuc, replicate}
use Rattle.picture_state.specs.declared.types.{Motion.Motion, Stores.Stores, Slice.Slice, Picture.Picture}

-- what macroblocks change: the slice's state, block_data (RULES S.7: the left-over coefficients) and the store
pub record SliceState : Type 0 where
  pub slice : Slice
  pub block_data : List ℤ
  pub store : List ℕ

abbrev pub slice_state : Slice → List ℤ → List ℕ → SliceState
slice_state s c l = record { slice = s; block_data = c; store = l }

-- with another state of the slice
abbrev pub with_slice : Slice → SliceState → SliceState
with_slice s w = slice_state s w.block_data w.store

-- RULES 7.19: the vector 0
abbrev pub zeroed : Motion → Motion
zeroed m = record { full_px = m.full_px; is_set = m.is_set; r_size = m.r_size; h = pos 0; v = pos 0 }

-- a motion with one thing changed: RULES 7.13, 7.1 (flag and r), 5.7
abbrev pub with_is_set : Bool → Motion → Motion
with_is_set b m = record { full_px = m.full_px; is_set = b; r_size = m.r_size; h = m.h; v = m.v }

abbrev pub with_full_px : Bool → Motion → Motion
with_full_px b m = record { full_px = b; is_set = m.is_set; r_size = m.r_size; h = m.h; v = m.v }

abbrev pub with_rsize : ℕ → Motion → Motion
with_rsize r m = record { full_px = m.full_px; is_set = m.is_set; r_size = r; h = m.h; v = m.v }

abbrev pub with_vector : ℤ → ℤ → Motion → Motion
with_vector h v m = record { full_px = m.full_px; is_set = m.is_set; r_size = m.r_size; h = h; v = v }

-- a slice with one thing changed: RULES 7.5 and 7.13, 7.8 to 7.11, 7.13 to 7.15, part 3
abbrev pub with_scale : ℕ → Slice → Slice
with_scale q s = record {
  quantizer_scale = q;
  macroblock_address = s.macroblock_address;
  motion_forward = s.motion_forward;
  motion_backward = s.motion_backward;
  dc_predictor = s.dc_predictor;
}

abbrev pub with_address : ℤ → Slice → Slice
with_address a s = record {
  quantizer_scale = s.quantizer_scale;
  macroblock_address = a;
  motion_forward = s.motion_forward;
  motion_backward = s.motion_backward;
  dc_predictor = s.dc_predictor;
}

abbrev pub with_motions : Motion → Motion → Slice → Slice
with_motions f b s = record {
  quantizer_scale = s.quantizer_scale;
  macroblock_address = s.macroblock_address;
  motion_forward = f;
  motion_backward = b;
  dc_predictor = s.dc_predictor;
}

abbrev pub with_predictors : List ℤ → Slice → Slice
with_predictors d s = record {
  quantizer_scale = s.quantizer_scale;
  macroblock_address = s.macroblock_address;
  motion_forward = s.motion_forward;
  motion_backward = s.motion_backward;
  dc_predictor = d;
}

-- RULES 7.20 (11172-2, 2.4.4.1): the DC predictors go back to 128
abbrev pub dc_reset : Slice → Slice
dc_reset s = with_predictors (replicate 3 (pos 128)) s

-- a picture with one thing changed: RULES 7.3, 7.1, 7.2, 7.5
abbrev pub with_start_code : ℤ → Picture → Picture
with_start_code c p = record { picture_type = p.picture_type; start_code = c; stores = p.stores; slice = p.slice }

abbrev pub with_picture_type : ℕ → Picture → Picture
with_picture_type t p = record { picture_type = t; start_code = p.start_code; stores = p.stores; slice = p.slice }

abbrev pub with_stores : Stores → Picture → Picture
with_stores t p = record { picture_type = p.picture_type; start_code = p.start_code; stores = t; slice = p.slice }

abbrev pub with_picture_slice : Slice → Picture → Picture
with_picture_slice s p = record { picture_type = p.picture_type; start_code = p.start_code; stores = p.stores; slice = s }

-- RULES O.4: the numbers of the stores at the beginning
abbrev pub first_stores : Stores
first_stores = record { cur = 0; fwd = 1; bwd = 2 }

-- RULES O.1: the state in a fresh record
abbrev pub fresh_motion : Motion
fresh_motion = record { full_px = false; is_set = false; r_size = 0; h = pos 0; v = pos 0 }

abbrev pub fresh_picture : Picture
fresh_picture = record {
  picture_type = 0;
  start_code = negsuc 0;
  stores = first_stores;
  slice = record {
    quantizer_scale = 0;
    macroblock_address = pos 0;
    motion_forward = fresh_motion;
    motion_backward = fresh_motion;
    dc_predictor = replicate 3 (pos 128);
  };
}

-- RULES O.1: no coefficients are left over
abbrev pub fresh_block : List ℤ
fresh_block = replicate 64 (pos 0)
