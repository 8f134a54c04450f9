-- The numbers before i are stored.
use Rattle.std.proofs.Common.{◌*◌, to_z}
use Rattle.std.specs.Int.{w32}
use Rattle.laws.proofs.Lists.{Stored}
use Rattle.answer_lists.specs.Numbers.{number_at}
use Rattle.answer_lists.proofs.block.block_of.Given as goal

abbrev pub invariant-loop-i : goal.invariant-loop-i
invariant-loop-i l = Stored l.initial.block 0 (λ k. to_z w32 (number_at l.list (4 * k))) 64 l.block l.i
