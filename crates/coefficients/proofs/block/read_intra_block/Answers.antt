-- Question 8 is asked of the DC value, which is the predictor and the difference.
use Rattle.std.proofs.Common.{◌≡◌, ◌∙◌, List, [], ◌∷◌, ℤ, sym, ℕ, to_z-of_z, w32, true, Bool}
use Rattle.laws.proofs.Exprs.{Exp, var, cst, ◌⊹◌, ◌×̇◌, Input, signed, need, value}
use Rattle.bits.proofs.Gives.{given_by}
use Rattle.bits.proofs.Rules.{reading}
use Rattle.bits.specs.Runs.{Runs}
use Rattle.bits.specs.declared.reader.Reader.{Reader}
use Rattle.coefficients.specs.Dcs.{dc_difference, dc_in_range}
use Rattle.coefficients.proofs.Placing.{dc-outside, after-dc}
use Rattle.coefficients.proofs.Sizes.{difference-small, inside-small}
use Rattle.coefficients.proofs.block.read_intra_block.Goals as goal

-- predictor and difference
abbrev ρ : (luminance : Bool) (predictor : ℤ) {s : List ℕ} {from to : Reader} {x : ℤ} → dc_in_range predictor ≡ true
    → Runs (dc_difference luminance) s from x to → List (Input w32)
ρ luminance predictor {x = x} inside r =
    signed w32 predictor 256 (inside-small predictor inside) ∷ signed w32 x 255 (given_by (difference-small luminance) r) ∷ []

-- the DC value and its coefficient
abbrev sum : Exp
sum = var 0 ⊹ var 1

abbrev first : Exp
first = sum ×̇ cst 256

pub overflow_add-dc : goal.overflow_add-dc
overflow_add-dc c = need (ρ c.args.luminance c.args.predictor c.requires.intra_value.2 c.read_dc_difference-difference.ensures.runs) sum tt

pub returns-then-not-dc_in_range : goal.returns-then-not-dc_in_range
returns-then-not-dc_in_range c =
    let a = c.args in
    let difference = c.read_dc_difference-difference.ensures.runs in
    let dc = value (ρ c.args.luminance c.args.predictor c.requires.intra_value.2 difference) sum tt in
    let outside = rw dc at (sym c.dc_in_range.ensures ∙ c.if-not-dc_in_range.true) in
    rw (to_z-of_z c.ranges.predictor)
    (reading c.requires.reader_in_bounds (dc-outside _ a.luminance a.predictor a.values.now a.q c.requires.intra_value.0 difference outside))

pub returns : goal.returns
returns c =
    let a = c.args in
    let difference = c.read_dc_difference-difference.ensures.runs in
    let dc = value (ρ c.args.luminance c.args.predictor c.requires.intra_value.2 difference) sum tt in
    let inside = rw dc at (sym c.dc_in_range.ensures ∙ c.if-not-dc_in_range.false) in
    let coefficients = rw (value (ρ c.args.luminance c.args.predictor c.requires.intra_value.2 difference) first tt) at c.read_coefficients-last.ensures.runs in
    rw dc
    (reading c.requires.reader_in_bounds
    (after-dc _ a.luminance a.predictor a.values.now a.q c.requires.intra_value.0 difference inside coefficients))
