-- The entries from `first` up to k are laid.
use Rattle.std.proofs.Common.{◌+◌, ◌-◌, drop}
use Rattle.codes.specs.DecodingTables.{merged_table}
use Rattle.tables.proofs.Made.{Pasted}
use Rattle.tables.proofs.tables.put_codes.Given as goal

abbrev pub invariant-loop-k : goal.invariant-loop-k
invariant-loop-k l = Pasted l.initial.tables (l.at + l.first) (drop l.first (merged_table l.index l.value)) (l.k - l.first) l.tables
