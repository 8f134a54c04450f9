use Rattle.std.proofs.Common.{rules, ◌≡◌, ◌+◌, get_or}
use Rattle.memory.proofs.FromFn.{made_each, part_made}
use Rattle.memory.proofs.reading.part_in.Goals as goal

pub returns : goal.returns
returns g c =
    let xs = c.args.part.now in
    part_made c.args.at g.row.N xs c.from_fn.result c.from_fn.ensures.items.long c.requires
    (made_each _ _ (λ k y. get_or xs (c.args.at + k) y ≡ y) (λ k y q r. search rules) _ _ c.from_fn.ensures.items)
