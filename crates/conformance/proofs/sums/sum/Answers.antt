use Rattle.std.proofs.Common.{ap, ◌∙◌}
use Rattle.conformance.specs.Sums.{summed}
use Rattle.conformance.proofs.Summing.{wording-none, wording-one, wording-all}
use Rattle.conformance.proofs.sums.sum.Goals as goal

pub loop-element-init : goal.loop-element-init
loop-element-init g c = wording-none c.requires

pub summed-sum-requires : goal.summed-sum-requires
summed-sum-requires g c = c.loop-element.invariant.small

pub loop-element-preserved : goal.loop-element-preserved
loop-element-preserved g c =
    wording-one c.element-item.result c.loop-element.invariant c.loop-element-test.true
    (c.summed-sum.ensures.0 ∙ ap (λ x. summed c.loop-element.sum (g.T.Summed.words_of x)) c.element-item.is) c.summed-sum.ensures.1

pub returns : goal.returns
returns g c = wording-all c.loop-element.invariant c.loop-element-test.false
