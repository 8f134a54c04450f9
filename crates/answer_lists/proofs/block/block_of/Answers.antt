-- One number more.
use Rattle.std.proofs.Common.{List, ℤ, ◌*◌, to_z, ap, ◌∙◌}
use Rattle.std.specs.Int.{w32}
use Rattle.laws.specs.Stores.{store_row}
use Rattle.laws.proofs.Lists.{none-stored, stored-first, all-stored}
use Rattle.answer_lists.specs.Blocks.{block_of}
use Rattle.answer_lists.specs.Numbers.{number_at}
use Rattle.answer_lists.proofs.Signs.{given}
use Rattle.answer_lists.proofs.block.block_of.Goals as goal

pub loop-i-init : goal.loop-i-init
loop-i-init c = none-stored

pub loop-i-preserved : goal.loop-i-preserved
loop-i-preserved c =
    stored-first c.loop-i.invariant c.loop-i-test.true
    (given c.cast_signed.type_inv c.cast_signed.ensures ∙ ap (to_z w32) c.number_at.ensures)

pub returns : goal.returns
unfolding block_of
returns c =
    all-stored c.loop-i.invariant c.loop-i-test.false
    ∙ ap (λ (b : List ℤ). store_row b 0 (λ k. to_z w32 (number_at c.args.list.now (4 * k))) 64) c.blank-block.ensures
