-- An end other than the first of the three leaves the coefficients.
use Rattle.std.proofs.Common.{◌≡◌, refl}
use lib.IntN.{ℤ}
use Rattle.coefficients.specs.declared.block.BlockEnd.{BlockEnd}
use Rattle.coefficients.specs.declared.block.BlockEnd.TheVariants.{Complete, Dropped, DcOutOfRange}
use Rattle.coefficients.specs.declared.quantiser.Quantiser.{Quantiser}
use Rattle.coefficients.specs.Blocks.{BlockCoefficients, block_coefficients, block_data_after}
use Rattle.coefficients.proofs.block.block_data_after.Goals as goal

kept : (q : Quantiser) (f : BlockCoefficients) (p : ℤ) (e : BlockEnd) → (e ≡ Complete → ⊥)
    → f.coefficients ≡ block_data_after q (record { block_coefficients = f; predictor = p; end = e })
unfolding block_data_after
kept q f p Complete k = absurd (k refl)
kept q f p Dropped k = refl
kept q f p DcOutOfRange k = refl

pub returns-in-Complete : goal.returns-in-Complete
unfolding block_data_after
returns-in-Complete c = rw c.in-Complete.is

pub returns-in_default : goal.returns-in_default
returns-in_default c =
    let a = c.args in
    kept a.q (block_coefficients a.values.now a.block.n) a.block.predictor a.block.end c.in_default.not-Complete
