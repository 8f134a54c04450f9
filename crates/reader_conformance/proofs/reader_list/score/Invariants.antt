use Rattle.std.proofs.Common.{◌-◌}
use Rattle.reader_conformance.proofs.Scores.{Scoring}
use Rattle.reader_conformance.proofs.reader_list.score.Given as goal

abbrev pub invariant-loop : goal.invariant-loop
invariant-loop l = Scoring l.list l.cases l.along l.tally (l.cases - l.counter)
