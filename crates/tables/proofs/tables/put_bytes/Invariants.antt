-- The first k entries are copied.
use Rattle.tables.proofs.Made.{Pasted}
use Rattle.tables.proofs.tables.put_bytes.Given as goal

abbrev pub invariant-loop-k : goal.invariant-loop-k
invariant-loop-k l = Pasted l.initial.tables l.at l.table l.k l.tables
