-- RULES Q8: where the DC value of a block is outside, and what a macroblock's blocks then leave.
use Rattle.std.specs.Prelude.{◌≡◌, Bool, true, false, List, ℕ, ◌-◌, ◌^◌, ◌<◌, ltb, ℤ, nat_abs, ◌+ℤ◌}
use Rattle.bits.specs.Programs.{run}
use Rattle.coefficients.specs.Dcs.{dc_difference, dc_in_range}
use Rattle.picture_state.specs.declared.types.{Context.Context, Matrices.Matrices}
use Rattle.picture_state.specs.State.{SliceState}
use Rattle.picture_state.specs.Result.{ok, for_below}
use Rattle.picture_state.specs.Stop.{dc_outside, Stop, stop}
use Rattle.picture_state.specs.Flags.{flag}
use Rattle.blocks.specs.Blocks.{dc_predictor, pattern_block}

-- RULES 3.2: what is added to the predictor of the block with this number, which is read from the place a on
abbrev pub difference_at : ℕ → List ℕ → ℕ → ℤ
difference_at number s a = (run (dc_difference (ltb number 4)) s a).value

-- RULES Q8: the block with this number, read from the place a on in the state w, has a DC value outside; e says so, and the store is that of w
pub record DcStop (intra : Bool) (number : ℕ) (w : SliceState) (s : List ℕ) (a : ℕ) (e : Stop) : Type 0 where
  pub is_intra : intra ≡ true
  pub outside : dc_in_range (dc_predictor number w.slice +ℤ difference_at number s a) ≡ false
  pub is : e ≡ stop (dc_outside (nat_abs w.slice.macroblock_address) number (dc_predictor number w.slice) (difference_at number s a)) w.store

-- it is one of the blocks that the pattern names, and `before` is the state, with the store, that those before it have left
pub record BlocksStop (g : Context) (m : Matrices) (intra : Bool) (pattern : ℕ) (w : SliceState) (s : List ℕ) (a : ℕ) (e : Stop) : Type 0 where
  pub number : ℕ
  pub few : number < 6
  pub coded : flag pattern (2 ^ (5 - number)) ≡ true
  pub before : SliceState
  pub at : ℕ
  pub read : run (for_below number (pattern_block g m intra pattern) w) s a ≡ record { value = ok before; at = at }
  pub stops : DcStop intra number before s at e
