-- The start code that was found is that of a slice, which is read, or is none.
use Rattle.std.proofs.Common.{sym, ◌∙◌}
use Rattle.picture_state.proofs.Ready.{size-most}
use Rattle.picture_state.specs.Promises.{matrices_in}
use Rattle.slice.proofs.SliceLoop.{adds_one}
use Rattle.picture.proofs.PictureLoop.{code_read, refines-slice, refines-other}
use Rattle.picture.proofs.pictures.slices_step.Goals as goal

pub after_slice-requires-clause-mb_size_bound : goal.after_slice-requires-clause-mb_size_bound
after_slice-requires-clause-mb_size_bound c = size-most c.requires.store_fits

pub after_slice-requires-clause-address_sum_bound : goal.after_slice-requires-clause-address_sum_bound
after_slice-requires-clause-address_sum_bound c = adds_one c.read_slice-w.ensures.reads.slice

pub returns-then-is_slice : goal.returns-then-is_slice
returns-then-is_slice c =
    let f = c.next_start_code-found.ensures in
    let is = code_read {c = c.next_start_code-found.result.value} f.code_bound in
    rw (c.after_slice.ensures, is)
    (refines-slice c.requires.read_invariant c.requires.store_fits (matrices_in c.args.tables.now) c.args.begun f.runs_in_bounds f.code_bound
    (sym (rw is at c.is_slice.ensures) ∙ c.if-is_slice.true) c.read_slice-w.result (rw is at c.read_slice-w.ensures))

pub returns : goal.returns
returns c =
    let f = c.next_start_code-found.ensures in
    let is = code_read {c = c.next_start_code-found.result.value} f.code_bound in
    rw is
    (refines-other c.requires.read_invariant c.requires.store_fits (matrices_in c.args.tables.now) c.args.begun f.runs_in_bounds f.code_bound
    (sym (rw is at c.is_slice.ensures) ∙ c.if-is_slice.false) c.passes_over.result (rw is at c.passes_over.ensures))
