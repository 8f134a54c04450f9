use Rattle.std.proofs.Common.{◌-◌, negsuc}
use Rattle.bits.specs.Bounds.{last_position}
use Rattle.bits.specs.Runs.{ReaderInBounds, position_of}
use Rattle.bits.specs.Programs.{find_step, stream_fuel}
use Rattle.bits.proofs.Rules.{Loops}
use Rattle.bits.proofs.reader.Reader.find_start_code.Given as goal

-- from the reader's place on the program's loop gives what it gives from the start
abbrev pub invariant-loop-found : goal.invariant-loop-found
invariant-loop-found l =
    record {
      inside : ReaderInBounds l.s l.reader;
      rest : Loops stream_fuel (find_step l.fn.code) (negsuc 0) tt l.s l.initial.reader tt l.reader (last_position - position_of l.reader);
    }

abbrev pub decreases-loop-found : goal.decreases-loop-found
decreases-loop-found l = last_position - position_of l.reader
