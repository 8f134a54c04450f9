-- What the functions of a macroblock's blocks say.
use Rattle.std.specs.Prelude.{Bool, List, ℕ, ltb, ℤ}
use Rattle.bits.specs.Programs.{Prog}
use Rattle.coefficients.specs.declared.quantiser.Quantiser.{Quantiser}
use Rattle.coefficients.specs.Blocks.{BlockRead, block}
use Rattle.coefficients.specs.declared.block.BlockEnd.TheVariants.{Complete, Dropped, DcOutOfRange}
use Rattle.picture_state.specs.declared.types.{Context.Context, Matrices.Matrices, Slice.Slice}
use Rattle.blocks.specs.Blocks.{dc_predictor, quantiser_of, matrix_for, written}

-- a block of the slice's macroblock, as it is read
abbrev pub block_program : Context → Matrices → Bool → ℕ → Slice → List ℤ → Prog BlockRead
block_program g m intra number s left =
    block (quantiser_of g intra s) (matrix_for m intra) (ltb number 4) (dc_predictor number s) left

-- RULES 3.9, 6.13: the store after a block that was read; only a whole one is written
unfoldable pub store_after : Context → Quantiser → ℕ → ℕ → BlockRead → List ℕ → List ℕ
store_after g q number address r l = elim r.end [ Complete ↦ written g q number address r.block_coefficients l | Dropped ↦ l | DcOutOfRange ↦ l ]
