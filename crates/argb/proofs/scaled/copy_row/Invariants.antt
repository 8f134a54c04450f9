-- So many pixels are copied.
use Rattle.std.proofs.Common.{◌+◌, ◌-◌, get_or}
use Rattle.laws.proofs.Lists.{Stored}
use Rattle.argb.proofs.scaled.copy_row.Given as goal

abbrev pub invariant-loop-tx : goal.invariant-loop-tx
invariant-loop-tx l = Stored l.initial.dst l.to (λ x. get_or l.initial.dst (l.to - l.dst_w + x) 0) l.dst_w l.dst l.tx
