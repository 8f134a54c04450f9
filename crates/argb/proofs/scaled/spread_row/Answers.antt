-- One pixel more, of the colour at the column that is known.
use Rattle.std.proofs.Common.{ℕ, get_or, ap, arith}
use Rattle.laws.proofs.Lists.{none-stored, stored_on, all-stored}
use Rattle.argb.proofs.Columns.{shows_first, shows-on, column, column-below, further-asks}
use Rattle.argb.proofs.scaled.spread_row.Goals as goal

pub loop-tx-init : goal.loop-tx-init
loop-tx-init c = record { pixels = none-stored; next = shows_first (omega arith) }

pub bounds-row-sx : goal.bounds-row-sx
bounds-row-sx c = omega (arith, column-below c.loop-tx.invariant.next c.loop-tx-test.true c.requires.le_width.0)

pub further-c-requires : goal.further-c-requires
further-c-requires c =
    let asks = further-asks c.loop-tx.invariant.next c.loop-tx-test.true (c.requires.le_width.0, omega arith) (omega arith) in
    record { rest_lt_dst_w = asks.0; sx_bound = asks.1 }

pub loop-tx-preserved : goal.loop-tx-preserved
loop-tx-preserved c =
    record {
      pixels = stored_on c.loop-tx.invariant.pixels c.loop-tx-test.true (ap (λ (n : ℕ). get_or c.args.row.now n 0) (column c.loop-tx.invariant.next));
      next = shows-on c.loop-tx.invariant.next c.further-c.ensures;
    }

pub returns : goal.returns
returns c = all-stored c.loop-tx.invariant.pixels (omega (arith, c.loop-tx-test.false))
