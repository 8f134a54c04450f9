-- The count of the bytes that the chain takes.
use Rattle.std.proofs.Common.{◌≡◌, refl, sym, ap, ◌∙◌, drop, eqb, arith, rules, tests}
use Rattle.std.proofs.lemmas.Iterator.{YieldsList-from_slice}
use Rattle.std.proofs.lemmas.Iterator.Consumers.{count_from_yields_List}
use Rattle.std.proofs.lemmas.Iterator.Search.{YieldsList-from_take_while}
use Rattle.std.proofs.lemmas.List.{drop_min, take_rest}
use Rattle.std.proofs.lemmas.List.Folds.{length-prefix_len}
use Rattle.bits.specs.Bits.{boundary}
use Rattle.bits.proofs.WholeBytes.{equal-prefix}
use Rattle.bits.proofs.reader.Reader.skip_bytes.Goals as goal

pub returns-clause-count_value : goal.returns-clause-count_value
returns-clause-count_value c =
    let s = c.args.s.now in
    let v = c.args.v in
    let from = c.tell-from.result.value.0 in
    let at : from ≡ boundary c.args.self.at.0 = omega arith in
    let behind = ap (λ i. i.rest.now) c.take_while.ensures.source ∙ c.iter.ensures.rest ∙ take_rest s c.min.result
    ∙ ap (λ m. drop m s) c.min.ensures ∙ drop_min from s in
    count_from_yields_List c.take_while.result _ c.count-count.ensures.ran
    (YieldsList-from_take_while _ (λ b. eqb b v) (YieldsList-from_slice (drop from s) behind) c.take_while.ensures.closure c.take_while.ensures.done
    (λ x b q k. search (rules, tests)))
    ∙ length-prefix_len (λ b. eqb b v) (drop from s)
    ∙ rw at (sym (equal-prefix s v _ _ refl))
