-- RULES 7.1 to 7.4, 8.4 (11172-2, 2.4.2.5): a picture, from behind its start code on.
use Rattle.std.specs.Prelude.{Bool, true, false, not, ◌&&◌, ◌||◌, List, ℕ, ◌-◌, eqb, leb, ℤ, pos, nat_abs}
use Rattle.std.specs.Int.Signed.{le_z}
use Rattle.laws.specs.Loops.{Step, continue, finish}
use Rattle.bits.specs.Programs.{Prog, done, bind, bits, next_start_code, eq_z, loop, stream_fuel, ◌>>=◌, when◌then◌else◌}
use Rattle.picture_state.specs.declared.types.{Context.Context, Motion.Motion, Stores.Stores, Sizes.Sizes, Matrices.Matrices, Picture.Picture}
use Rattle.picture_state.specs.State.{SliceState, slice_state, with_full_px, with_rsize, with_motions}
use Rattle.picture_state.specs.State.{with_start_code, with_picture_type, with_stores, with_picture_slice}
use Rattle.picture_state.specs.Result.{Result, ok, error, bind_result, pure}
use Rattle.picture_state.specs.Stop.{Stop}
use Rattle.slice.specs.Slices.{is_last, slice}

-- what a picture changes: its state, block_data (the left-over coefficients) and the store
pub record PictureState : Type 0 where
  pub picture : Picture
  pub block_data : List ℤ
  pub store : List ℕ

abbrev pub picture_state : Picture → List ℤ → List ℕ → PictureState
picture_state p c l = record { picture = p; block_data = c; store = l }

-- with another state of the picture
abbrev pub with_picture : Picture → PictureState → PictureState
with_picture p f = picture_state p f.block_data f.store

-- 11172-2, 2.4.2.5: full_pel_.._vector and .._f_code of one direction, where the header has them
pub data Direction : Type 0 where
  absent : Direction
  present : Bool → ℕ → Direction

-- 11172-2, 2.4.2.5: the fields of a picture header
pub record PictureHeader : Type 0 where
  pub temporal_reference : ℕ
  pub picture_coding_type : ℕ
  pub vbv_delay : ℕ
  pub forward : Direction
  pub backward : Direction

-- RULES 8.4: does the header have an f code of 0 for this direction?
abbrev pub has_zero_fcode : Direction → Bool
has_zero_fcode absent = false
has_zero_fcode (present full f) = eqb f 0

-- RULES 7.1: one bit and three, if the header has them
unfoldable pub direction : Bool → Prog Direction
direction here = when here then (do full ← bits 1; f ← bits 3; done (present (not (eqb full 0)) f)) else done absent

-- RULES 7.1, 8.4: a P or B header has the forward direction, and a B header then the backward one, unless the forward f code is 0. The Rust passes the first
-- and the last of the three numbers over: a read in the place of a skip ends at the same place on a cut stream, too, as both are refused together and stay
unfoldable pub picture_header : Prog PictureHeader
picture_header = do
  temporal ← bits 10
  type ← bits 3
  delay ← bits 16
  forward ← direction (eqb type 2 || eqb type 3)
  backward ← direction (eqb type 3 && not (has_zero_fcode forward))
  done (record { temporal_reference = temporal; picture_coding_type = type; vbv_delay = delay; forward = forward; backward = backward })

-- RULES 8.4: a picture is decoded if its type is 1 to 3 and its header has no f code of 0
abbrev pub is_decoded : PictureHeader → Bool
is_decoded h = leb 1 h.picture_coding_type && leb h.picture_coding_type 3 && not (has_zero_fcode h.forward) && not (has_zero_fcode h.backward)

-- RULES 7.1, 5.1, 8.4: flag and r of a motion; a direction that the header does not have leaves both as they were, and an f code of 0 leaves r
abbrev pub motion_by : Direction → Motion → Motion
motion_by absent m = m
motion_by (present full f) m = when eqb f 0 then with_full_px full m else with_rsize (f - 1) (with_full_px full m)

-- RULES 7.1: what a header sets in the picture p
abbrev pub with_picture_header : PictureHeader → Picture → Picture
with_picture_header h p =
    let forward = motion_by h.forward p.slice.motion_forward in
    let backward = motion_by h.backward p.slice.motion_backward in
    with_picture_type h.picture_coding_type (with_picture_slice (with_motions forward backward p.slice) p)

-- what the slices of the picture p are given
abbrev pub context_of : Sizes → Picture → Context
context_of z p = record { picture_type = p.picture_type; sizes = z; stores = p.stores }

-- before a start code: has a slice been read already?
pub record SlicesLoopState : Type 0 where
  pub begun : Bool
  pub picture_state : PictureState

abbrev pub slices_loop_state : Bool → PictureState → SlicesLoopState
slices_loop_state begun f = record { begun = begun; picture_state = f }

-- RULES 7.3: user data (B2) and extensions (B5)
abbrev pub is_extra : ℤ → Bool
is_extra c = eq_z c (pos 0xb2) || eq_z c (pos 0xb5)

-- RULES 7.3: 01 to AF
abbrev pub is_slice : ℤ → Bool
is_slice c = le_z (pos 1) c && le_z c (pos 0xaf)

-- RULES 7.4: the picture ends where the address has reached the last macroblock; it keeps the code of this slice
unfoldable pub after_slice : Context → Picture → Result Stop SliceState → Prog (Step SlicesLoopState (Result Stop PictureState))
after_slice g p (error e) = done (finish (error e))
after_slice g p (ok w) =
    let f = picture_state (with_picture_slice w.slice p) w.block_data w.store in
    when is_last g w then done (finish (ok f)) else done (continue (slices_loop_state true f))

-- RULES 7.3: the next start code; what is neither passed over nor a slice ends the picture and is kept
unfoldable pub slices_step : Context → Matrices → SlicesLoopState → Prog (Step SlicesLoopState (Result Stop PictureState))
slices_step g m x = do
  c ← next_start_code
  let p = with_start_code c x.picture_state.picture
  let f = with_picture p x.picture_state
  when is_slice c then bind (slice g m (nat_abs c) (slice_state p.slice f.block_data f.store)) (after_slice g p)
      else when is_extra c && not x.begun then done (continue (slices_loop_state false f)) else done (finish (ok f))

-- RULES 7.3, 7.4: the slices of a picture, none of them read so far
unfoldable pub slices : Context → Matrices → PictureState → Prog (Result Stop PictureState)
slices g m f = loop stream_fuel (slices_step g m) (ok f) (slices_loop_state false f)

-- RULES 7.2: the roles of the stores while the slices of an I or P picture are read, and after them
abbrev pub roles_while_reading : Stores → Stores
roles_while_reading t = record { cur = t.cur; fwd = t.bwd; bwd = t.bwd }

abbrev pub roles_after_reading : Stores → Stores
roles_after_reading t = record { cur = t.fwd; fwd = t.bwd; bwd = t.cur }

-- RULES 7.2: the slices, with the turn of the stores
unfoldable pub slices_in_roles : Sizes → Matrices → PictureState → Prog (Result Stop PictureState)
slices_in_roles z m f =
    let p = f.picture in
    when eqb p.picture_type 3 then slices (context_of z p) m f
    else let q = with_stores (roles_while_reading p.stores) p in
    bind_result (slices (context_of z q) m (with_picture q f)) λ f₁. pure (with_picture (with_stores (roles_after_reading p.stores) f₁.picture) f₁)

-- a picture; one that is not decoded ends behind its header (RULES 8.4)
unfoldable pub picture : Sizes → Matrices → PictureState → Prog (Result Stop PictureState)
picture z m f = do
  h ← picture_header
  let x = with_picture (with_picture_header h f.picture) f
  when is_decoded h then slices_in_roles z m x else pure x
