use Rattle.std.proofs.Common.{ℕ, ◌+◌, ◌*◌, get_or, replicate}
use Rattle.laws.proofs.Lists.{Stored}
use Rattle.prediction.specs.Writers.{Gives}
use Rattle.prediction.proofs.RowsWritten.{RowsWritten}
use Rattle.prediction.proofs.writers.write_block.Given as goal

abbrev pub invariant-loop-x : goal.invariant-loop-x
invariant-loop-x g l =
    (make : ℕ → ℕ → ℕ) → Gives (goal.F-post g l.sample) make → Stored (replicate 8 0) 0 (λ x. make (get_or l.d (l.at + x) 0) (l.y * 8 + x)) 8 l.row l.x

abbrev pub invariant-loop-y : goal.invariant-loop-y
invariant-loop-y g l =
    (make : ℕ → ℕ → ℕ) → Gives (goal.F-post g l.sample) make → RowsWritten l.fn.d l.di l.dw 8 8 (λ old y x. make old (y * 8 + x)) l.d l.y
