use Rattle.std.proofs.Common.{ap, ◌∙◌}
use Rattle.conformance.specs.Sums.{mixed, summed}
use Rattle.conformance.proofs.Summing.{held-is}
use Rattle.conformance.proofs.sums.I32Summed.summed.Goals as goal

pub returns : goal.returns
unfolding summed
returns c =
    (c.mixed.ensures.0 ∙ ap (mixed c.args.before) (held-is c.args.self c.twos_complement.ensures c.ranges.self), c.mixed.ensures.1)
