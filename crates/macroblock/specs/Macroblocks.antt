-- RULES 7.7 to 7.16 (11172-2, 2.4.2.7): a macroblock.
use Rattle.std.specs.Prelude.{Bool, ◌||◌, List, ℕ, ◌-◌, eqb, ltb, pos, nat_abs, ◌+ℤ◌}
use Rattle.std.specs.Int.Signed.{lt_z, le_z}
use Rattle.bits.specs.Programs.{Prog, when◌then◌else◌}
use Rattle.picture_state.specs.declared.types.{Context.Context, Matrices.Matrices, Slice.Slice}
use Rattle.picture_state.specs.State.{SliceState, slice_state, with_slice, zeroed, with_address, with_motions, dc_reset}
use Rattle.picture_state.specs.Result.{Result, ok, and_then, lift, from_result, pure, ◌>>=◌}
use Rattle.picture_state.specs.Stop.{Stop}
use Rattle.macroblock_head.specs.Increments.{increment}
use Rattle.macroblock_head.specs.Predictions.{predict, predict_skipped}
use Rattle.picture_state.specs.Flags.{is_intra}
use Rattle.macroblock_head.specs.Heads.{macroblock_type, head, pattern}
use Rattle.blocks.specs.Blocks.{blocks}

-- the address after n macroblocks more
abbrev pub address_plus : ℕ → SliceState → SliceState
address_plus n w = with_slice (with_address (w.slice.macroblock_address +ℤ pos n) w.slice) w

-- RULES 7.8: the address is that of no macroblock
abbrev pub is_outside : Context → SliceState → Bool
is_outside g w = lt_z w.slice.macroblock_address (pos 0) || le_z (pos g.sizes.mb_size) w.slice.macroblock_address

-- RULES 7.11, 7.19, 7.20 (11172-2, 2.4.4.4): what a skip resets: the DC predictors, and in a P picture the forward vector
unfoldable pub skip_reset : Context → Slice → Slice
skip_reset g s =
    let d = dc_reset s in
    when eqb g.picture_type 2 then with_motions (zeroed d.motion_forward) d.motion_backward d else d

-- RULES 7.9, 7.11: on by n, or by 1 where n is 0; the macroblocks between are skipped
unfoldable pub advance : Context → ℕ → SliceState → Result Stop SliceState
advance g n w =
    let s = skip_reset g w.slice in
    when ltb n 2 then ok (address_plus 1 w)
    else and_then (predict_skipped g s (nat_abs (w.slice.macroblock_address +ℤ pos 1)) (n - 1) w.store) λ l.
    ok (address_plus n (slice_state s w.block_data l))

-- RULES 7.14: prediction, unless intra
unfoldable pub predict_unless_intra : Context → ℕ → Slice → List ℕ → Result Stop (List ℕ)
predict_unless_intra g t s l = when is_intra t then ok l else predict g (nat_abs s.macroblock_address) s l

-- RULES 7.13 to 7.16: type, head, prediction, pattern, blocks
unfoldable pub body : Context → Matrices → SliceState → Prog (Result Stop SliceState)
body g m w = do
  t ← lift (macroblock_type g.picture_type)
  s ← lift (head g.picture_type t w.slice)
  l ← from_result (predict_unless_intra g t s w.store)
  c ← lift (pattern t)
  blocks g m (is_intra t) c (slice_state s w.block_data l)

-- RULES 7.8, 7.12: the first macroblock of a slice
unfoldable pub first_macroblock : Context → Matrices → ℕ → SliceState → Prog (Result Stop SliceState)
first_macroblock g m n w = when is_outside g (address_plus n w) then pure (address_plus n w) else body g m (address_plus n w)

-- RULES 7.9 to 7.11: a later one
unfoldable pub later_macroblock : Context → Matrices → ℕ → SliceState → Prog (Result Stop SliceState)
later_macroblock g m n w =
    when le_z (pos g.sizes.mb_size) (w.slice.macroblock_address +ℤ pos n) then pure w
    else do
      x ← from_result (advance g n w)
      body g m x

-- RULES 7.7 to 7.11: the increment, and the macroblock to which it leads; `first` says that it is the first of its slice
unfoldable pub macroblock : Context → Matrices → Bool → SliceState → Prog (Result Stop SliceState)
macroblock g m first w = do
  n ← lift increment
  when first then first_macroblock g m n w else later_macroblock g m n w
