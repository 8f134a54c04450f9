-- The block that `read_block` gives is the definition's: it ends outside, or is written.
use Rattle.picture_state.proofs.Signed.{inside-read, address_read}
use Rattle.blocks.proofs.BlockEnds.{kept, predictor_read, block_out, block_on}
use Rattle.blocks.proofs.blocks.one_block.Goals as goal

pub returns-in-DcOutOfRange : goal.returns-in-DcOutOfRange
returns-in-DcOutOfRange c =
    let a = c.args in
    let k = c.requires.macroblock_invariant in
    let few = c.requires.number_bound in
    block_out a.coded.context a.tables.now a.coded.intra a.number a.state a.values.now a.store.now k few
    c.quantiser_of-q.ensures (predictor_read k.reads.slice few c.predictor_of.ensures) c.read_block-r.ensures c.in-DcOutOfRange.is

pub write_block-requires : goal.write_block-requires
write_block-requires c =
    let a = c.args in
    let k = c.requires.macroblock_invariant in
    let few = c.requires.number_bound in
    let r = kept a.coded.context a.tables.now a.coded.intra a.number a.state a.values.now a.store.now k few
    c.quantiser_of-q.ensures (predictor_read k.reads.slice few c.predictor_of.ensures) c.read_block-r.ensures in
    record { store_fits = k.store_fits; address_in_picture = rw (address_read k.reads.slice) k.here; bounded = r.bounded }

pub returns : goal.returns
returns c =
    let a = c.args in
    let k = c.requires.macroblock_invariant in
    let few = c.requires.number_bound in
    let at = predictor_read k.reads.slice few c.predictor_of.ensures in
    let r = kept a.coded.context a.tables.now a.coded.intra a.number a.state a.values.now a.store.now k few
    c.quantiser_of-q.ensures at c.read_block-r.ensures in
    block_on a.coded.context a.tables.now a.coded.intra a.number a.state a.values.now a.store.now k few
    c.quantiser_of-q.ensures at c.read_block-r.ensures c.in_default.not-DcOutOfRange
    (rw (address_read k.reads.slice) at c.write_block.ensures.store_after) c.write_block.ensures.values_after
    (rw (inside-read _ r.predictor) at c.with_dc_predictor.ensures) c.write_block.auto.store
