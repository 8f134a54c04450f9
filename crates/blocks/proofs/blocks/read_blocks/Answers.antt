use Rattle.picture_state.proofs.Results.{some-is-stop, none-goes-on}
use Rattle.std.proofs.Common.{sym, ◌∙◌}
use Rattle.blocks.proofs.BlockLoop.{at_first, at_next, at-stop, at-end}
use Rattle.blocks.proofs.blocks.read_blocks.Goals as goal

pub loop-number-init : goal.loop-number-init
loop-number-init c = at_first c.requires.macroblock_invariant

pub returns-then-is_some : goal.returns-then-is_some
returns-then-is_some c =
    at-stop c.loop-number.invariant c.loop-number-test.true c.block_of_pattern-b.ensures (some-is-stop _ (sym c.is_some.ensures ∙ c.if-is_some.true))

pub loop-number-preserved : goal.loop-number-preserved
loop-number-preserved c =
    at_next c.loop-number.invariant c.loop-number-test.true c.block_of_pattern-b.ensures (none-goes-on _ (sym c.is_some.ensures ∙ c.if-is_some.false))
    c.block_of_pattern-b.auto.store

pub returns : goal.returns
returns c = let i = c.loop-number.invariant in record { runs = at-end i c.loop-number-test.false; ready = i.ready }
