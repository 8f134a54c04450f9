-- Each turn of the inner loop makes a byte more of a row, each turn of the outer one writes the row.
use Rattle.std.proofs.Common.{◌+◌, ◌*◌, get_or, arith}
use Rattle.laws.proofs.Lists.{none-stored, stored-first}
use Rattle.prediction.proofs.RowsWritten.{made_row, no_line, line_on, lines-all}
use Rattle.prediction.proofs.writers.write_block.Goals as goal

pub loop-y-init : goal.loop-y-init
loop-y-init g c = λ make gives. no_line c.requires.le_dw (omega arith)

pub loop-x-init : goal.loop-x-init
loop-x-init g c = λ make gives. none-stored

pub loop-x-preserved : goal.loop-x-preserved
loop-x-preserved g c =
    λ make gives.
    let at = c.args.di + c.loop-y.y * c.args.dw in
    let i = at + c.loop-x.x in
    let made = gives (get_or c.loop-y.d i 0) (c.loop-y.y * 8 + c.loop-x.x) c.sample.result (omega (arith, c.type_inv.d i)) (omega arith) c.sample.ensures in
    stored-first {f = λ x. make (get_or c.loop-y.d (at + x) 0) (c.loop-y.y * 8 + x)} (c.loop-x.invariant make gives) c.loop-x-test.true made

pub loop-y-preserved : goal.loop-y-preserved
loop-y-preserved g c =
    λ make gives.
    line_on (c.loop-y.invariant make gives) c.loop-y-test.true
    (made_row c.loop-y.d (c.args.di + c.loop-y.y * c.args.dw) (c.loop-x.invariant make gives) c.loop-x-test.false c.put_row.ensures)

pub returns : goal.returns
returns g c = λ make gives. lines-all (c.loop-y.invariant make gives) c.loop-y-test.false
