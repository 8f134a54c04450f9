-- Each turn of the inner loop makes a sample more of a row, each turn of the outer one writes the row.
use Rattle.std.proofs.Common.{◌∙◌}
use Rattle.prediction.proofs.Beside.{make-on, no_row, none_made, rows_on, all-rows, chosen-reads, chosen-rows, both_one}
use Rattle.prediction.proofs.apart.predict_rows.Goals as goal

pub loop-y-init : goal.loop-y-init
loop-y-init g c = no_row c.requires.disjoint

pub loop-x-init : goal.loop-x-init
loop-x-init g c = none_made c.requires.disjoint c.loop-y.invariant c.loop-y-test.true

pub loop-x-preserved : goal.loop-x-preserved
loop-x-preserved g c = make-on c.loop-x.invariant c.loop-x-test.true c.stored_sample_at.ensures

pub loop-y-preserved : goal.loop-y-preserved
loop-y-preserved g c =
    let a = c.args in
    let reads = chosen-reads a.dw _ a.right _ (both_one a.dw a.right a.below c.requires.right_bound) in
    rows_on c.requires.disjoint c.loop-y.invariant c.loop-y-test.true reads c.loop-x.invariant c.loop-x-test.false c.put_row.ensures

pub returns : goal.returns
returns g c =
    let a = c.args in
    all-rows c.loop-y.invariant c.loop-y-test.false
    ∙ chosen-rows a.interpolate a.store.now a.from a.to a.dw g.row.SIZE a.right a.below c.requires.right_bound
