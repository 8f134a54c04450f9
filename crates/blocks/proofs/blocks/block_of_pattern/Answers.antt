use Rattle.std.proofs.Common.{rules}
use Rattle.blocks.proofs.BlockLoop.{bit-no}
use Rattle.blocks.proofs.blocks.block_of_pattern.Goals as goal

pub returns-then-not-flag : goal.returns-then-not-flag
returns-then-not-flag c =
    let a = c.args in
    bit-no a.coded a.tables.now a.number a.state a.values.now a.store.now (search rules) c.requires.macroblock_invariant
