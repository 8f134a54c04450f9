-- The columns before i have been through the step.
use Rattle.transform.specs.Butterfly.{butterfly}
use Rattle.transform.proofs.Passes.{After, by-columns}
use Rattle.transform.proofs.idct.columns.Given as goal

abbrev pub invariant-loop-i : goal.invariant-loop-i
invariant-loop-i l = After by-columns butterfly l.initial.block l.block l.i
