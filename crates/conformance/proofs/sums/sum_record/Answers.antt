use Rattle.std.proofs.Common.{ap, ap₂, ◌∙◌}
use Rattle.conformance.specs.Sums.{summed, words, signed_word, float_words}
use Rattle.conformance.proofs.Summing.{words-single}
use Rattle.conformance.proofs.sums.sum_record.Goals as goal

pub returns : goal.returns
returns c =
    let m = c.args in
    c.sum-3.ensures.0
    ∙ ap (λ k. summed k (words float_words m.clock.now))
    (c.sum-2.ensures.0
    ∙ ap₂ summed (c.sum-heads.ensures.0 ∙ ap (λ k. summed k (words signed_word m.integers.now)) c.sum.ensures.0) (words-single m.matrices.now))
