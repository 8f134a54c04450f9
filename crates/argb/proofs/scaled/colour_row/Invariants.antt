-- The colours of so many pairs are made. They do not depend on the size that is shown.
use Rattle.std.proofs.Common.{◌*◌}
use Rattle.laws.proofs.Lists.{Stored}
use Rattle.argb.specs.Scaled.{picture, sample_pixel}
use Rattle.argb.proofs.scaled.colour_row.Given as goal

abbrev pub invariant-loop-k : goal.invariant-loop-k
invariant-loop-k l = Stored l.initial.row 0 (λ x. sample_pixel (picture 0 0 l.luma_width l.y l.cr l.cb) x l.sy) l.luma_width l.row (2 * l.k)
