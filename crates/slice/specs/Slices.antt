-- RULES 7.5, 7.6 (11172-2, 2.4.2.6): a slice.
use Rattle.std.specs.Prelude.{Bool, true, false, ℕ, ◌-◌, ◌*◌, eqb, pos, ◌+ℤ◌, ◌-ℤ◌, replicate}
use Rattle.std.specs.Int.Signed.{le_z}
use Rattle.laws.specs.Loops.{Step, continue, finish}
use Rattle.bits.specs.Programs.{Prog, done, bits, skips, non_zero, loop, stream_fuel, ◌>>=◌, ◌>>◌, when◌then◌else◌}
use Rattle.picture_state.specs.declared.types.{Context.Context, Matrices.Matrices, Slice.Slice}
use Rattle.picture_state.specs.State.{SliceState, with_slice, zeroed}
use Rattle.picture_state.specs.Result.{Result, ok, error}
use Rattle.picture_state.specs.Stop.{Stop}
use Rattle.macroblock.specs.Macroblocks.{macroblock}

-- RULES 7.5: while one bit read is 1, 8 bits are passed over
unfoldable pub extra_step : Unit {0} → Prog (Step (Unit {0}) (Unit {0}))
extra_step x = do
  b ← bits 1
  when eqb b 0 then done (finish tt) else do
    skips 8
    done (continue tt)

-- RULES 7.5 (11172-2, 2.4.2.6, extra_information_slice): until the bit is 0
unfoldable pub extra : Prog (Unit {0})
extra = loop stream_fuel extra_step tt tt

-- RULES 7.4, 7.6: the address has reached the last macroblock
abbrev pub is_last : Context → SliceState → Bool
is_last g w = le_z (pos g.sizes.mb_size) (w.slice.macroblock_address +ℤ pos 1)

-- between two macroblocks: is the next one the first of its slice?
pub record SliceLoopState : Type 0 where
  pub first : Bool
  pub slice_state : SliceState

abbrev pub slice_loop_state : Bool → SliceState → SliceLoopState
slice_loop_state first w = record { first = first; slice_state = w }

-- RULES 7.6: the slice ends at the last macroblock, or where the next 23 bits are all 0 or not there
unfoldable pub after_macroblock : Context → Result Stop SliceState → Prog (Step SliceLoopState (Result Stop SliceState))
after_macroblock g (error e) = done (finish (error e))
after_macroblock g (ok w) =
    when is_last g w then done (finish (ok w))
    else do
      more ← non_zero 23
      when more then done (continue (slice_loop_state false w)) else done (finish (ok w))

-- RULES 7.6: one macroblock, and whether another follows
unfoldable pub slice_step : Context → Matrices → SliceLoopState → Prog (Step SliceLoopState (Result Stop SliceState))
slice_step g m x = do
  w ← macroblock g m x.first x.slice_state
  after_macroblock g w

-- RULES 7.5: the state at the beginning of slice n, with this scale
abbrev pub slice_start : Context → ℕ → ℕ → Slice → Slice
slice_start g number q s = record {
  quantizer_scale = q;
  macroblock_address = pos ((number - 1) * g.sizes.mb_width) -ℤ pos 1;
  motion_forward = zeroed s.motion_forward;
  motion_backward = zeroed s.motion_backward;
  dc_predictor = replicate 3 (pos 128);
}

-- RULES 7.5, 7.6: slice n, from behind its start code on
unfoldable pub slice : Context → Matrices → ℕ → SliceState → Prog (Result Stop SliceState)
slice g m number w = do
  q ← bits 5
  extra
  loop stream_fuel (slice_step g m) (ok w) (slice_loop_state true (with_slice (slice_start g number q w.slice) w))
