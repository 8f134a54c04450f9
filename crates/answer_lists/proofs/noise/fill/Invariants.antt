-- The bytes before i are noise.
use Rattle.laws.proofs.Lists.{Stored}
use Rattle.std.proofs.Common.{length}
use Rattle.answer_lists.specs.Noise.{noise}
use Rattle.answer_lists.proofs.noise.fill.Given as goal

abbrev pub invariant-loop-i : goal.invariant-loop-i
invariant-loop-i l = Stored l.initial.d 0 (noise l.seed) (length l.initial.d) l.d l.i
