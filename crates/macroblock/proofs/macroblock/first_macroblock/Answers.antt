-- There is a body where a macroblock has the address.
use Rattle.picture_state.specs.Promises.{matrices_in}
use Rattle.picture_state.proofs.Ready.{size-most}
use Rattle.macroblock.proofs.Firsts.{outside_read, first_nowhere, first-ready, first_body}
use Rattle.macroblock.proofs.macroblock.first_macroblock.Goals as goal

pub is_outside-requires : goal.is_outside-requires
is_outside-requires c = size-most c.requires.advance_invariant.store_fits

pub returns-then-is_outside : goal.returns-then-is_outside
returns-then-is_outside c =
    let k = c.requires.advance_invariant in
    let e = c.address_plus-here.ensures in
    first_nowhere k e (outside_read k e c.is_outside.ensures) (matrices_in c.args.tables.now) c.if-is_outside.true

pub body-requires : goal.body-requires
body-requires c =
    let k = c.requires.advance_invariant in
    let e = c.address_plus-here.ensures in
    record { macroblock_invariant = first-ready k e (outside_read k e c.is_outside.ensures) c.if-is_outside.false }

pub returns : goal.returns
returns c =
    let k = c.requires.advance_invariant in
    let e = c.address_plus-here.ensures in
    first_body k e (outside_read k e c.is_outside.ensures) (matrices_in c.args.tables.now) c.if-is_outside.false c.body.ensures
