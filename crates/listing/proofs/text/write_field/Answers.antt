use Rattle.listing.proofs.Writing.{wrote-field}
use Rattle.listing.proofs.text.write_field.Goals as goal

pub returns-clause-wrote : goal.returns-clause-wrote
returns-clause-wrote c =
    wrote-field c.args.n c.args.end c.decimal-count.result _ _ _ _ _ c.decimal-count.ensures.len c.ranges.n.fits c.decimal-count.ensures.digits
    c.write_bytes-next.ensures
