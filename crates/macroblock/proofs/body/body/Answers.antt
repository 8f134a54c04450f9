-- Type, head, prediction, pattern and blocks are the definition's steps, in this order.
use Rattle.picture_state.specs.Promises.{matrices_in}
use Rattle.macroblock.proofs.Bodies.{headed-possible, headed-here, body_refused, blocks-ready, body-on}
use Rattle.macroblock.proofs.body.body.Goals as goal

pub predict_unless_intra-requires-clause-address_in_picture : goal.predict_unless_intra-requires-clause-address_in_picture
predict_unless_intra-requires-clause-address_in_picture c =
    headed-here c.requires.macroblock_invariant c.read_macroblock_type-t.ensures c.read_head-h.ensures

pub predict_unless_intra-requires-clause-possible_slice : goal.predict_unless_intra-requires-clause-possible_slice
predict_unless_intra-requires-clause-possible_slice c =
    headed-possible c.requires.macroblock_invariant c.read_macroblock_type-t.ensures c.read_head-h.ensures

pub returns-in_default : goal.returns-in_default
returns-in_default c =
    body_refused c.requires.macroblock_invariant c.read_macroblock_type-t.ensures c.read_head-h.ensures c.predict_unless_intra.ensures
    c.predict_unless_intra.auto.store (matrices_in c.args.tables.now) c.in_default.is

pub read_blocks-requires : goal.read_blocks-requires
read_blocks-requires c =
    record {
      macroblock_invariant = blocks-ready c.requires.macroblock_invariant c.read_macroblock_type-t.ensures c.read_head-h.ensures
          c.predict_unless_intra.ensures c.predict_unless_intra.auto.store c.read_pattern-p.ensures;
    }

pub returns : goal.returns
returns c =
    body-on c.requires.macroblock_invariant c.read_macroblock_type-t.ensures c.read_head-h.ensures c.predict_unless_intra.ensures
    c.predict_unless_intra.auto.store c.read_pattern-p.ensures (matrices_in c.args.tables.now) c.in-Ok.is
    (rw c.is_intra-intra.ensures at c.read_blocks.ensures)
