-- RULES Q8, Q9: where a picture ends a call: the first value outside that its reading comes to.
use Rattle.std.specs.Prelude.{◌≡◌, true, false, List, ℕ, suc, eqb, ℤ, nat_abs}
use Rattle.laws.specs.Loops.{continue}
use Rattle.bits.specs.Programs.{RunResult, run, next_start_code, stream_fuel, when◌then◌else◌}
use Rattle.picture_state.specs.declared.types.{Context.Context, Matrices.Matrices, Picture.Picture, Sizes.Sizes}
use Rattle.picture_state.specs.State.{SliceState, slice_state, with_stores}
use Rattle.picture_state.specs.Stop.{Stop}
use Rattle.slice.specs.Stops.{SliceStop}
use Rattle.picture.specs.Pictures.{PictureHeader, PictureState, with_picture, with_picture_header, picture_header, is_decoded, is_slice, context_of}
use Rattle.picture.specs.Pictures.{roles_while_reading}
use Rattle.picture.specs.Pictures.{SlicesLoopState, slices_loop_state, slices_step}

-- RULES 7.3: the next start code, and what a slice is given of the picture f
abbrev pub code_at : List ℕ → ℕ → RunResult ℤ
code_at s a = run next_start_code s a

abbrev pub slice_given : PictureState → SliceState
slice_given f = slice_state f.picture.slice f.block_data f.store

-- RULES 7.3, 7.4: of the next n start codes the first is that of a slice which stops, or it goes on and a later one is
pub data SlicesStop (g : Context) (m : Matrices) (s : List ℕ) (e : Stop) : ℕ → SlicesLoopState → ℕ → Type 0 where
  in-slice : {n : ℕ} {x : SlicesLoopState} {a : ℕ} → is_slice (code_at s a).value ≡ true
      → SliceStop g m (nat_abs (code_at s a).value) (slice_given x.picture_state) s (code_at s a).at e → SlicesStop g m s e (suc n) x a
  later : {n : ℕ} {x y : SlicesLoopState} {a b : ℕ} → run (slices_step g m x) s a ≡ record { value = continue y; at = b } → SlicesStop g m s e n y b
      → SlicesStop g m s e (suc n) x a

-- RULES 7.1: the header at the place a, and the picture f with it and with the roles of the stores while its slices are read
abbrev pub header_at : List ℕ → ℕ → RunResult PictureHeader
header_at s a = run picture_header s a

abbrev pub picture_read : PictureState → List ℕ → ℕ → Picture
picture_read f s a =
    let p = with_picture_header (header_at s a).value f.picture in with_stores
    (when eqb p.picture_type 3 then p.stores else roles_while_reading p.stores) p

-- RULES 7.1 to 7.4, 8.4: the picture is decoded, and one of its slices stops
pub record PictureStop (z : Sizes) (m : Matrices) (f : PictureState) (s : List ℕ) (a : ℕ) (e : Stop) : Type 0 where
  pub decoded : is_decoded (header_at s a).value ≡ true
  pub stops : SlicesStop (context_of z (picture_read f s a)) m s e stream_fuel (slices_loop_state false (with_picture (picture_read f s a) f))
      (header_at s a).at
