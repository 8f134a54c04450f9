-- RULES Q8, Q9: where a macroblock ends a call.
use Rattle.std.specs.Prelude.{◌≡◌, Bool, true, false, List, ℕ, pos, ◌+ℤ◌}
use Rattle.std.specs.Int.Signed.{le_z}
use Rattle.bits.specs.Programs.{RunResult, run}
use Rattle.picture_state.specs.declared.types.{Context.Context, Matrices.Matrices, Slice.Slice}
use Rattle.picture_state.specs.State.{SliceState, slice_state}
use Rattle.picture_state.specs.Result.{ok, error}
use Rattle.picture_state.specs.Stop.{Stop}
use Rattle.picture_state.specs.Flags.{is_intra}
use Rattle.macroblock_head.specs.Increments.{increment}
use Rattle.macroblock_head.specs.Heads.{macroblock_type, head, pattern}
use Rattle.blocks.specs.Stops.{BlocksStop}
use Rattle.macroblock.specs.Macroblocks.{address_plus, is_outside, advance, predict_unless_intra}

-- what a macroblock's body reads from the place a on: its type, its head, its pattern
module _ (g : Context) (w : SliceState) (s : List ℕ) (a : ℕ) where
  abbrev pub type_at : RunResult ℕ
  type_at = run (macroblock_type g.picture_type) s a

  abbrev pub head_at : RunResult Slice
  head_at = run (head g.picture_type type_at.value w.slice) s type_at.at

  abbrev pub pattern_at : RunResult ℕ
  pattern_at = run (pattern type_at.value) s head_at.at

-- RULES 7.13 to 7.16: the prediction stops, or a block behind it, with the prediction in the store
pub data BodyStop (g : Context) (m : Matrices) (w : SliceState) (s : List ℕ) (a : ℕ) (e : Stop) : Type 0 where
  in_prediction : predict_unless_intra g (type_at g w s a).value (head_at g w s a).value w.store ≡ error e → BodyStop g m w s a e
  in_blocks : {l : List ℕ} → predict_unless_intra g (type_at g w s a).value (head_at g w s a).value w.store ≡ ok l
      → BlocksStop g m (is_intra (type_at g w s a).value) (pattern_at g w s a).value (slice_state (head_at g w s a).value w.block_data l) s
      (pattern_at g w s a).at e
      → BodyStop g m w s a e

-- RULES 7.7: the increment before it
abbrev pub increment_at : List ℕ → ℕ → RunResult ℕ
increment_at s a = run increment s a

-- RULES 7.7 to 7.11: the first macroblock of a slice stops in its body; a later one in those that are skipped before it, or in its body
pub data MacroblockStop (g : Context) (m : Matrices) (w : SliceState) (s : List ℕ) (a : ℕ) (e : Stop) : Bool → Type 0 where
  first_body : is_outside g (address_plus (increment_at s a).value w) ≡ false
      → BodyStop g m (address_plus (increment_at s a).value w) s (increment_at s a).at e → MacroblockStop g m w s a e true
  in-skipped : le_z (pos g.sizes.mb_size) (w.slice.macroblock_address +ℤ pos (increment_at s a).value) ≡ false
      → advance g (increment_at s a).value w ≡ error e → MacroblockStop g m w s a e false
  later-body : {x : SliceState} → le_z (pos g.sizes.mb_size) (w.slice.macroblock_address +ℤ pos (increment_at s a).value) ≡ false
      → advance g (increment_at s a).value w ≡ ok x → BodyStop g m x s (increment_at s a).at e → MacroblockStop g m w s a e false
