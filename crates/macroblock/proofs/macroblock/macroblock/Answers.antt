-- The increment, then the first macroblock or a later one.
use Rattle.picture_state.specs.Promises.{matrices_in}
use Rattle.macroblock.proofs.Laters.{begun, between, macroblock-first, macroblock-later}
use Rattle.macroblock.proofs.macroblock.macroblock.Goals as goal

pub returns-then-first : goal.returns-then-first
returns-then-first c =
    macroblock-first c.requires.increment_invariant c.read_increment-n.ensures (matrices_in c.args.tables.now) c.if-first.true c.first_macroblock.ensures

pub returns : goal.returns
returns c =
    macroblock-later c.requires.increment_invariant c.read_increment-n.ensures (matrices_in c.args.tables.now) c.if-first.false c.later_macroblock.ensures

pub first_macroblock-requires : goal.first_macroblock-requires
first_macroblock-requires c = record { advance_invariant = begun c.requires.increment_invariant c.read_increment-n.ensures c.if-first.true }

pub later_macroblock-requires : goal.later_macroblock-requires
later_macroblock-requires c = record { later_invariant = between c.requires.increment_invariant c.read_increment-n.ensures c.if-first.false }
