-- As many entries have been read as places are passed.
use Rattle.header.proofs.Entries.{AtEntry}
use Rattle.header.proofs.sequences.read_entries.Given as goal

abbrev pub invariant-loop-position : goal.invariant-loop-position
invariant-loop-position l = AtEntry l.s l.fn.reader l.read.value l.read.reader l.position-index
