-- Each of the four ends is one writer, called with what the definition names.
use Rattle.std.proofs.Common.{◌≡◌, ◌<◌, get_or, ℤ, pos, w32, ap, ◌∙◌, arith, to_z-of_z}
use borrow.Author.Rules.{rules, sfits_of}
use lib.Signed.{mag}
use mir.Val.{SFits}
use Rattle.laws.proofs.Ints.{reread}
use Rattle.codes.specs.Matrices.{premultiplier_matrix}
use Rattle.coefficients.specs.Blocks.{block_coefficients}
use Rattle.transform.specs.Idct.{dc_only}
use Rattle.blocks.proofs.Results.{first_intra, first-other, all_intra, all-other}
use Rattle.blocks.proofs.writes.results.Goals as goal

-- the first result, read back from 32 bits
first-is : {r : ℤ} (x : ℤ) → SFits w32 x → mag r < 2147483648 → r ≡ dc_only (reread w32 x) → reread w32 r ≡ dc_only x
first-is x fits most e = to_z-of_z {w = w32} (sfits_of most) ∙ e ∙ ap dc_only (to_z-of_z fits)

pub dc_only-first-requires : goal.dc_only-first-requires
unfolding premultiplier_matrix
dc_only-first-requires c =
    let fits : SFits w32 (get_or c.args.values.now 0 (pos 0)) = search rules in
    rw (to_z-of_z fits) (c.requires.bounded.each 0 (omega arith))

pub returns-then-intra : goal.returns-then-intra
returns-then-intra c =
    let a = c.args in
    let fits : SFits w32 (get_or a.values.now 0 (pos 0)) = search rules in
    first_intra a.q (block_coefficients a.values.now a.n) a.di a.dw a.d.now c.if-n-eq1.true
    (first-is _ fits c.dc_only-first.type_inv c.dc_only-first.ensures.is) c.if-intra.true c.clamp_u8.ensures c.block_set_const.ensures

pub returns-then-n-eq1 : goal.returns-then-n-eq1
returns-then-n-eq1 c =
    let a = c.args in
    let fits : SFits w32 (get_or a.values.now 0 (pos 0)) = search rules in
    first-other a.q (block_coefficients a.values.now a.n) a.di a.dw a.d.now c.if-n-eq1.true
    (first-is _ fits c.dc_only-first.type_inv c.dc_only-first.ensures.is) c.if-intra.false c.block_set_add_const.ensures

pub returns-then-intra-2 : goal.returns-then-intra-2
returns-then-intra-2 c =
    let a = c.args in
    all_intra a.q (block_coefficients a.values.now a.n) a.di a.dw a.d.now c.if-n-eq1.false c.idct.ensures.is c.if-intra-2.true
    c.block_set_overwrite.ensures

pub returns : goal.returns
returns c =
    let a = c.args in
    all-other a.q (block_coefficients a.values.now a.n) a.di a.dw a.d.now c.if-n-eq1.false c.idct.ensures.is c.if-intra-2.false
    c.block_set_add.ensures
