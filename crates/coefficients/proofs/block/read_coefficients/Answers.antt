-- What is read is a pair, which is placed, or the end of the block.
use Rattle.std.proofs.Common.{◌≡◌, ◌∙◌, arith, of_z, rules, to_z, w32}
use Rattle.laws.proofs.Nums.{num, rd}
use Rattle.bits.proofs.Gives.{given_by}
use Rattle.bits.proofs.Rules.{reading}
use Rattle.codes.proofs.Bounds.{zig_zag-inside}
use Rattle.coefficients.proofs.Placing.{pair-start, pair-on, pair-whole, pair-dropped}
use Rattle.coefficients.proofs.Sizes.{coefficient-small}
use Rattle.coefficients.proofs.block.read_coefficients.Goals as goal

pub loop-run-init : goal.loop-run-init
loop-run-init c = record { inside = c.requires.reader_in_bounds; placed = pair-start c.requires.first_bound.0 }

pub returns-in_default : goal.returns-in_default
returns-in_default c =
    reading c.requires.reader_in_bounds (pair-whole c.loop-run.invariant.placed (rw c.in_default.is at c.read_coefficient-read.ensures.runs))

pub overflow_add-at : goal.overflow_add-at
overflow_add-at c =
    let small = given_by (coefficient-small c.loop-run.n) (rw c.in-RunLevel.is at c.read_coefficient-read.ensures.runs) in
    omega (arith, small)

pub returns-then-at-ge64 : goal.returns-then-at-ge64
returns-then-at-ge64 c =
    reading c.requires.reader_in_bounds
    (pair-dropped c.loop-run.invariant.placed (rw c.in-RunLevel.is at c.read_coefficient-read.ensures.runs) c.if-at-ge64.true)

pub premultiplied-requires : goal.premultiplied-requires
premultiplied-requires c =
    let small = given_by (coefficient-small c.loop-run.n) (rw c.in-RunLevel.is at c.read_coefficient-read.ensures.runs) in
    record { level_bound = (rw (rd w32 (num small.1) tt).is small.1, c.requires.first_bound.1, rw c.zig_zag_position-position.ensures (zig_zag-inside _)) }

pub bounds-values-position : goal.bounds-values-position
bounds-values-position c = rw c.zig_zag_position-position.ensures (zig_zag-inside _)

pub offset_bounds-values-position : goal.offset_bounds-values-position
offset_bounds-values-position c = omega (arith, bounds-values-position c)

pub loop-run-preserved : goal.loop-run-preserved
loop-run-preserved c =
    let pair = rw c.in-RunLevel.is at c.read_coefficient-read.ensures.runs in
    let small = given_by (coefficient-small c.loop-run.n) pair in
    let kept : to_z w32 (of_z w32 c.premultiplied.result) ≡ c.premultiplied.result = search rules in
    rw (kept ∙ (rw (rd w32 (num small.1) tt).is at c.premultiplied.ensures), c.zig_zag_position-position.ensures)
    (record { inside = c.read_coefficient-read.ensures.inside; placed = pair-on c.loop-run.invariant.placed pair c.if-at-ge64.false })
