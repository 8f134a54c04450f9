use Rattle.std.proofs.Common.{ℕ, ◌-◌}
use Rattle.count.proofs.Counting.{Counting}
use Rattle.count.proofs.run.decode_all.Given as goal

abbrev pub invariant-loop-answer : goal.invariant-loop-answer
invariant-loop-answer l =
    Counting l.stream l.initial.store l.initial.decoder l.store l.decoder l.pictures

abbrev pub decreases-loop-answer : goal.decreases-loop-answer
decreases-loop-answer l = 4628199 - l.pictures
