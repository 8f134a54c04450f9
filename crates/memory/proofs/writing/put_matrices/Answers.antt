use Rattle.std.proofs.Common.{◌≡◌, ◌++◌, length, sym, ◌∙◌, arith, rules}
use Rattle.std.proofs.lemmas.List.{length-take-le, length-append, append-nil}
use Rattle.memory.proofs.Over.{over_on, over_all}
use Rattle.memory.proofs.writing.put_matrices.Goals as goal

pub slice_bounds-copy_from_slice-end-2 : goal.slice_bounds-copy_from_slice-end-2
slice_bounds-copy_from_slice-end-2 c = sym (length-take-le 64 c.args.matrices.now (omega (arith, c.requires)))

pub copy_from_slice-requires : goal.copy_from_slice-requires
copy_from_slice-requires c =
    let e : length c.args.d.now.sequence.matrices.intra_quant_matrix ≡ 64 = search rules in
    length-take-le 64 c.args.matrices.now (omega (arith, c.requires)) ∙ sym e

pub returns : goal.returns
returns c =
    let m = c.args.d.now.sequence.matrices in
    let l = c.args.matrices.now in
    let x = m.intra_quant_matrix in
    let y = m.non_intra_quant_matrix in
    let e : length x ≡ 64 = search rules in
    let f : length y ≡ 64 = search rules in (
      rw (c.copy_from_slice.ensures.after, c.copy_from_slice-2.ensures.after, append-nil y)
          (over_on 64 64 l x y e ∙ over_all 128 l (x ++ y) (length-append x y ∙ omega (arith, e, f))),
      (record { is = e }, (record { is = f }, tt)),
    )
