use Rattle.std.proofs.Common.{◌+◌, ◌-◌, ◌<◌, length}
use Rattle.bits.specs.Runs.{ReaderInBounds}
use Rattle.bits.proofs.Rules.{Loops}
use Rattle.codes.specs.DecodingTables.{indices}
use Rattle.codes.specs.Walk.{walk_step}
use Rattle.codes.proofs.walk.walk_from.Given as goal

-- from the pair of entries at `at` on the program's walk ends where the whole walk does
abbrev pub invariant-loop-from : goal.invariant-loop-from
invariant-loop-from l =
    record {
      inside : ReaderInBounds l.s l.from;
      pair : l.at + 1 < length l.table;
      rest : Loops (length (indices l.table)) (walk_step (indices l.table)) 0 l.pair l.s l.initial.from l.at l.from (length l.table - 1 - l.at);
    }

abbrev pub decreases-loop-from : goal.decreases-loop-from
decreases-loop-from l = length l.table - 1 - l.at
