-- So many pixels are stored, and the column of the next is known.
use Rattle.std.proofs.Common.{◌*◌, ◌/◌, get_or}
use Rattle.laws.proofs.Lists.{Stored}
use Rattle.argb.proofs.Columns.{Shows}
use Rattle.argb.proofs.scaled.spread_row.Given as goal

abbrev pub invariant-loop-tx : goal.invariant-loop-tx
invariant-loop-tx l =
    record {
      pixels : Stored l.initial.dst l.to (λ x. get_or l.row (x * l.width / l.dst_w) 0) l.dst_w l.dst l.tx;
      next : Shows l.dst_w l.width l.tx l.c.sx l.c.rest;
    }
