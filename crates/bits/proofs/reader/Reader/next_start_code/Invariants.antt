use Rattle.std.proofs.Common.{◌≡◌, ◌≤◌, ◌-◌, max, length}
use Rattle.bits.specs.Bits.{code_from}
use Rattle.bits.proofs.reader.Reader.next_start_code.Given as goal

-- the search from b on gives what the search from the next byte boundary on gives
abbrev pub invariant-loop-b : goal.invariant-loop-b
invariant-loop-b l =
    record {
      within : l.b ≤ max l.from l.end;
      same : code_from l.s l.from (length l.s - 4 - l.from) ≡ code_from l.s l.b (length l.s - 4 - l.b);
    }
