-- RULES 7.16, 6.12, 6.13: the blocks of a macroblock, read and written.
use Rattle.std.specs.Prelude.{Bool, List, ℕ, ◌-◌, ◌^◌, ltb, ℤ, pos, nat_abs, get_or, set}
use borrow.Rule.Slice.PartMut.{mid_of, put_mid}
use Rattle.laws.specs.Signed.{clamp255}
use Rattle.bits.specs.Programs.{Prog, when◌then◌else◌}
use Rattle.coefficients.specs.declared.quantiser.Quantiser.{Quantiser}
use Rattle.coefficients.specs.Dequantise.{quantiser}
use Rattle.coefficients.specs.Blocks.{BlockCoefficients, BlockRead, reconstructed, block_data_after, first_only}
use Rattle.coefficients.specs.Syntax.{coded_block}
use Rattle.coefficients.specs.declared.block.BlockEnd.TheVariants.{Complete, Dropped, DcOutOfRange}
use Rattle.transform.specs.Idct.{idct, dc_only}
use Rattle.prediction.specs.Predict.{macroblock_at}
use Rattle.prediction.specs.Planes.{plane_of, plane_length, plane_start}
use Rattle.prediction.specs.Writers.{set_const, overwrite, add_const, add_block, block_width, block_address}
use Rattle.picture_state.specs.declared.types.{Context.Context, Matrices.Matrices, Slice.Slice}
use Rattle.picture_state.specs.State.{SliceState, slice_state, with_predictors}
use Rattle.picture_state.specs.Result.{Result, ok, error, lift, from_result, pure, for_below, ◌>>=◌}
use Rattle.picture_state.specs.Stop.{Stop, stop, dc_outside}
use Rattle.picture_state.specs.Flags.{flag}

-- RULES 3.1: the place of a block's DC predictor: 0 for Y, 1 for Cb, 2 for Cr
abbrev pub predictor_of : ℕ → ℕ
predictor_of number = number - 3

-- RULES 4.3, 6.13: the results in a plane: with the first coefficient alone one number everywhere, else the transform; intra replaces, non-intra adds
unfoldable pub results : Quantiser → BlockCoefficients → ℕ → ℕ → List ℕ → List ℕ
results q f di dw d =
    let first = dc_only (get_or f.coefficients 0 (pos 0)) in
    when first_only q f then (when q.intra then set_const d di dw (clamp255 first) else add_const d di dw first)
    else when q.intra then overwrite d di dw (idct f.coefficients) else add_block d di dw (idct f.coefficients)

-- RULES 6.12, 6.13: the store with the results of a block that was read whole
unfoldable pub written : Context → Quantiser → ℕ → ℕ → BlockCoefficients → List ℕ → List ℕ
written g q number address f l =
    let m = macroblock_at g.sizes.mb_width g.sizes.mb_height address in
    let p = plane_of number in
    let start = plane_start g.stores.cur p g.sizes.mb_size in
    let size = plane_length p g.sizes.mb_size in
    put_mid start size l (results q f (block_address m number) (block_width m number) (mid_of start size l))

-- RULES 3.3: the predictor behind the block with this number
abbrev pub with_dc_predictor : ℕ → ℤ → Slice → Slice
with_dc_predictor number p s = with_predictors (set s.dc_predictor (predictor_of number) p) s

-- the DC predictor of the block with this number
abbrev pub dc_predictor : ℕ → Slice → ℤ
dc_predictor number s = get_or s.dc_predictor (predictor_of number) (pos 0)

-- RULES Q8, 3.3, 3.9, 3.12: predictor, left-over coefficients and store behind a block with this difference. A DC value outside ends the call with 8; a
-- dropped block writes nothing
unfoldable pub block_result : Context → Quantiser → ℕ → SliceState → ℤ → BlockRead → Result Stop SliceState
block_result g q number w difference r = elim r.end [
  | Complete ↦ ok (slice_state (with_dc_predictor number r.predictor w.slice) (block_data_after q r)
      (written g q number (nat_abs w.slice.macroblock_address) r.block_coefficients w.store))
  | Dropped ↦ ok (slice_state (with_dc_predictor number r.predictor w.slice) (block_data_after q r) w.store)
  | DcOutOfRange ↦ error (stop (dc_outside (nat_abs w.slice.macroblock_address) number (dc_predictor number w.slice) difference) w.store)
]

-- RULES 3.8: the matrix of blocks that are intra or not
abbrev pub matrix_for : Matrices → Bool → List ℕ
matrix_for m intra = when intra then m.intra_quant_matrix else m.non_intra_quant_matrix

-- RULES 3.8: what makes coefficients of the levels of such blocks
abbrev pub quantiser_of : Context → Bool → Slice → Quantiser
quantiser_of g intra s = quantiser intra s.quantizer_scale

-- the block with this number: read, reconstructed, and written
unfoldable pub one_block : Context → Matrices → Bool → ℕ → SliceState → Prog (Result Stop SliceState)
one_block g m intra number w = do
  let q = quantiser_of g intra w.slice
  let predictor = dc_predictor number w.slice
  c ← lift (coded_block q.intra (ltb number 4) predictor)
  from_result (block_result g q number w c.difference (reconstructed q (matrix_for m intra) predictor w.block_data c))

-- RULES 7.16: the block with this number, if the pattern has its bit: that of block 0 weighs 32, that of block 5 weighs 1
abbrev pub pattern_block : Context → Matrices → Bool → ℕ → ℕ → SliceState → Prog (Result Stop SliceState)
pattern_block g m intra pattern number w = when flag pattern (2 ^ (5 - number)) then one_block g m intra number w else pure w

-- RULES 7.16 (11172-2, 2.4.2.7): the blocks that the pattern names, 0 to 5 in this order
unfoldable pub blocks : Context → Matrices → Bool → ℕ → SliceState → Prog (Result Stop SliceState)
blocks g m intra pattern w = for_below 6 (pattern_block g m intra pattern) w
