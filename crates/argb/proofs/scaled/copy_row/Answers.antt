-- One pixel more: those that are read stand before those that are written, and are as they were.
use Rattle.std.proofs.Common.{ℕ, ◌+◌, ◌-◌, List, get_or, ap, ◌∙◌, inl, arith}
use Rattle.laws.proofs.Lists.{row_out, none-stored, stored_on, all-stored}
use Rattle.argb.proofs.scaled.copy_row.Goals as goal

pub loop-tx-init : goal.loop-tx-init
loop-tx-init c = none-stored

pub loop-tx-preserved : goal.loop-tx-preserved
loop-tx-preserved c =
    let a = c.args in
    let i = c.loop-tx.invariant in
    let from = a.to - a.dst_w + c.loop-tx.tx in
    stored_on i c.loop-tx-test.true (ap (λ (z : List ℕ). get_or z from 0) i.is ∙ row_out a.dst.now a.to _ c.loop-tx.tx from 0 (inl (omega arith)))

pub returns : goal.returns
returns c = all-stored c.loop-tx.invariant (omega (arith, c.loop-tx-test.false))
