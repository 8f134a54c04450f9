use Rattle.bits.specs.Runs.{bits_left}
use Rattle.macroblock_head.proofs.Sums.{AtSequenceCode}
use Rattle.macroblock_head.proofs.increments.read_increment.Given as goal

abbrev pub invariant-loop-sum : goal.invariant-loop-sum
invariant-loop-sum l = AtSequenceCode l.s l.fn.reader l.from l.sum

abbrev pub decreases-loop-sum : goal.decreases-loop-sum
decreases-loop-sum l = bits_left l.s l.from
