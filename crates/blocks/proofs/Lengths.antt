-- A block's results leave the store as long as it was. Assumes nothing.
use mathlib.Core.Path.{◌≡◌}
use mathlib.Core.List.{List}
use Prim.Native.Nat.{ℕ}
use lib.ListN.{length}
use borrow.Rule.Slice.PartMut.{mid_of, same_len_mid}
use Rattle.laws.proofs.Lists.{length-rows}
use Rattle.laws.proofs.Tests.{by-case}
use Rattle.coefficients.specs.declared.quantiser.Quantiser.{Quantiser}
use Rattle.coefficients.specs.Blocks.{BlockCoefficients, first_only}
use Rattle.prediction.specs.Predict.{macroblock_at, address}
use Rattle.prediction.specs.Planes.{plane_of, plane_length, plane_start}
use Rattle.prediction.specs.Writers.{set_const, overwrite, add_const, add_block, block_width, block_address}
use Rattle.picture_state.specs.declared.types.Context.{Context}
use Rattle.blocks.specs.Blocks.{results, written}

results-length : (q : Quantiser) (f : BlockCoefficients) (di dw : ℕ) (d : List ℕ) → length (results q f di dw d) ≡ length d
unfolding results set_const add_const overwrite add_block
results-length q f di dw d =
    by-case (λ (l : List ℕ). length l ≡ length d) (first_only q f)
    (λ e. by-case (λ (l : List ℕ). length l ≡ length d) q.intra (λ e. length-rows d di dw 8 _ 8) (λ e. length-rows d di dw 8 _ 8))
    (λ e. by-case (λ (l : List ℕ). length l ≡ length d) q.intra (λ e. length-rows d di dw 8 _ 8) (λ e. length-rows d di dw 8 _ 8))

pub written-length : (g : Context) (q : Quantiser) (number address : ℕ) (f : BlockCoefficients) (l : List ℕ)
    → length (written g q number address f l) ≡ length l
unfolding written
written-length g q number address f l =
    let start = plane_start g.stores.cur (plane_of number) g.sizes.mb_size in
    let size = plane_length (plane_of number) g.sizes.mb_size in
    let m = macroblock_at g.sizes.mb_width g.sizes.mb_height address in
    same_len_mid start size l (results q f (block_address m number) (block_width m number) (mid_of start size l))
    (results-length q f (block_address m number) (block_width m number) (mid_of start size l))
