-- So many pixels are stored, and the column of the next is known. A sample's pixel does not depend on the height that is shown.
use Rattle.std.proofs.Common.{◌*◌, ◌/◌}
use Rattle.laws.proofs.Lists.{Stored}
use Rattle.argb.specs.Scaled.{picture, sample_pixel}
use Rattle.argb.proofs.Columns.{Shows}
use Rattle.argb.proofs.scaled.write_row.Given as goal

abbrev pub invariant-loop-tx : goal.invariant-loop-tx
invariant-loop-tx l =
    record {
      pixels : Stored l.initial.dst l.to (λ x. sample_pixel (picture l.width 0 l.luma_width l.y l.cr l.cb) (x * l.width / l.dst_w) l.sy) l.dst_w l.dst l.tx;
      next : Shows l.dst_w l.width l.tx l.c.sx l.c.rest;
    }
