-- The difference is small, so the sum fits.
use Rattle.std.proofs.Common.{◌≡◌, ◌≤◌, ◌∙◌, ap, arith, to_z-of_z, w32, ℤ, pos, nat_abs, ◌+ℤ◌}
use Rattle.laws.proofs.Ints.{reread, v, lit, ◌⊕◌, abs-of, fits_by}
use Rattle.laws.proofs.Nums.{num, rd}
use Rattle.bits.proofs.Gives.{given_by}
use Rattle.coefficients.proofs.Sizes.{difference-small}
use Rattle.reader_conformance.proofs.WorkedCases.{value-at}
use Rattle.reader_conformance.proofs.worked.dc_case.Goals as goal

back : (d : ℤ) → nat_abs d ≤ 255 → reread w32 d ≡ d
back d small = (rd w32 (num small) tt).is

pub overflow_add-result : goal.overflow_add-result
overflow_add-result c =
    let d = c.read_dc_difference.result.value in
    let small : nat_abs d ≤ 255 = given_by (difference-small _) c.read_dc_difference.ensures.runs in
    let b = abs-of (v d) small in
    rw (back d small) (fits_by (lit 128 ⊕ v d) (omega arith) (omega arith))

pub returns : goal.returns
returns c =
    let d = c.read_dc_difference.result.value in
    let small : nat_abs d ≤ 255 = given_by (difference-small _) c.read_dc_difference.ensures.runs in
    to_z-of_z (overflow_add-result c) ∙ ap (λ (z : ℤ). pos 128 +ℤ z) (back d small ∙ value-at c.new.ensures c.read_dc_difference.ensures)
