-- The rows before i have been through the step, and are rounded.
use Rattle.transform.proofs.Passes.{After, by_rows, row_step}
use Rattle.transform.proofs.idct.rows.Given as goal

abbrev pub invariant-loop-i : goal.invariant-loop-i
invariant-loop-i l = After by_rows row_step l.initial.block l.block l.i
