use Rattle.std.proofs.Common.{◌≤◌, ◌<◌, refl, take, arith, rules, tests}
use Rattle.std.proofs.lemmas.Iterator.{cases_from_all, YieldsList-from_slice, YieldsList-from_zip}
use Rattle.memory.specs.Fields.{fields}
use Rattle.memory.proofs.Fields.{bounds, within_zipped}
use Rattle.memory.proofs.reading.in_range.Goals as goal

pub returns : goal.returns
returns c =
    let n = c.args.numbers.now in
    within_zipped fields.numbers n (take 21 n) _ c.requires refl (λ k. omega (arith, c.type_inv.numbers k))
    (cases_from_all c.all.new.self tt _ (λ p. p.0 ≤ p.1) (λ p. p.1 < p.0) c.all.ensures.ran
    (YieldsList-from_zip (YieldsList-from_slice (take 21 n) cc) (YieldsList-from_slice (bounds fields.numbers) cc))
    (λ x q k. search (rules, tests)) (λ x q k. search (rules, tests)))
