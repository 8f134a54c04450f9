-- The bytes before i are stored.
use Rattle.std.proofs.Common.{get_or}
use Rattle.laws.proofs.Lists.{Stored}
use Rattle.answer_lists.proofs.block.matrix_of.Given as goal

abbrev pub invariant-loop-i : goal.invariant-loop-i
invariant-loop-i l = Stored l.initial.matrix 0 (λ k. get_or l.list k 0) 64 l.matrix l.i
