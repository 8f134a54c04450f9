use Rattle.conformance.proofs.Summing.{Wording}
use Rattle.conformance.proofs.sums.sum.Given as goal

abbrev pub invariant-loop-element : goal.invariant-loop-element
invariant-loop-element g l = Wording g.T.Summed.words_of l.before l.part l.sum l.element-index
