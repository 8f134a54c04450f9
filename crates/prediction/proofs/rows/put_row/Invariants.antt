use Rattle.std.proofs.Common.{get_or}
use Rattle.laws.proofs.Lists.{Stored}
use Rattle.prediction.proofs.rows.put_row.Given as goal

-- x bytes of the row are written
abbrev pub invariant-loop-x : goal.invariant-loop-x
invariant-loop-x g l = Stored l.fn.d l.at (λ n. get_or l.row n 0) g.row.N l.d l.x
