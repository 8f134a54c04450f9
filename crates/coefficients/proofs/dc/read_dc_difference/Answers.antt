-- The size is at most 8, so a read of so many bits is served as the standard's.
use Rattle.std.proofs.Common.{◌≡◌, arith, of_z, rules, to_z, w32}
use borrow.Author.Tests.{eq-eqb, ne_eqb}
use Rattle.bits.proofs.Gives.{given_by, g-reads}
use Rattle.bits.proofs.Rules.{r-call, r-yes, r-no, r-done, r-reads, reading}
use Rattle.coefficients.specs.Dcs.{dc_difference}
use Rattle.coefficients.proofs.Sizes.{size-most}
use Rattle.coefficients.proofs.dc.read_dc_difference.Goals as goal

pub added-requires : goal.added-requires
added-requires c = (
  omega arith,
  given_by (size-most c.args.luminance) c.read_dc_size-code.ensures.runs,
  given_by (g-reads _) c.read-differential.ensures.runs,
)

pub returns-then-size-eq0 : goal.returns-then-size-eq0
unfolding dc_difference
returns-then-size-eq0 c =
    reading c.requires.reader_in_bounds (r-call _ c.read_dc_size-code.ensures.runs (r-yes _ (eq-eqb _ _ c.if-size-eq0.true) r-done))

pub returns : goal.returns
unfolding dc_difference
returns c =
    let few = given_by (size-most c.args.luminance) c.read_dc_size-code.ensures.runs in
    let kept : to_z w32 (of_z w32 c.added.result) ≡ c.added.result = search rules in
    let differential = r-reads _ (omega arith) c.read-differential.ensures.runs in
    rw (kept, c.added.ensures.0)
    (reading c.requires.reader_in_bounds
    (r-call _ c.read_dc_size-code.ensures.runs (r-no _ (ne_eqb _ _ c.if-size-eq0.false) (r-call _ differential r-done))))
