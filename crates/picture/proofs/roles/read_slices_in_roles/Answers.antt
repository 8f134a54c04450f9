-- The tables have the matrices, and the stores turn.
use Rattle.picture.proofs.PictureLoop.{start-read}
use Rattle.picture.proofs.SlicesStep.{made, held-during, coded-of}
use Rattle.picture.proofs.roles.read_slices_in_roles.Goals as goal

pub returns : goal.returns
returns c =
    let a = c.args in
    let long = c.told-matrices in
    coded-of a.sizes c.tables_with-tables.result (made a.matrices.now long.0 long.1 c.tables_with-tables.ensures) a.p a.values.now a.store.now
    c.read_slices-t.result c.roles_of-roles.ensures.during_value c.roles_of-roles.ensures.afterwards_value (start-read c.requires.possible_picture)
    c.picture_of.ensures c.read_slices-t.ensures

pub read_slices-t-requires-clause-store_fits : goal.read_slices-t-requires-clause-store_fits
read_slices-t-requires-clause-store_fits c = held-during c.args.p c.args.sizes c.roles_of-roles.ensures.during_value c.requires.store_fits
