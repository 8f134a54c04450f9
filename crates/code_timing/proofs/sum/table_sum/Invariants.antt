use Rattle.code_timing.specs.Sum.{code_of}
use Rattle.code_timing.proofs.Summing.{Summing}
use Rattle.code_timing.proofs.sum.table_sum.Given as goal

abbrev pub invariant-loop : goal.invariant-loop
invariant-loop g l = Summing (code_of g.row.TABLE) l.s l.count l.reader l.sum l.counter
