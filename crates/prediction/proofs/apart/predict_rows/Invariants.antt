use Rattle.prediction.specs.DisjointBlocks.{averaged_four_or_two}
use Rattle.prediction.proofs.Beside.{Making, Rows}
use Rattle.prediction.proofs.apart.predict_rows.Given as goal

-- x samples of a row are made
abbrev pub invariant-loop-x : goal.invariant-loop-x
invariant-loop-x g l = Making l.interpolate (averaged_four_or_two l.dw l.other l.four) l.store l.i l.o g.row.SIZE l.other l.row l.x

-- y rows are written
abbrev pub invariant-loop-y : goal.invariant-loop-y
invariant-loop-y g l = Rows l.interpolate (averaged_four_or_two l.dw l.other l.four) l.fn.store l.from l.to l.dw g.row.SIZE l.store l.y
