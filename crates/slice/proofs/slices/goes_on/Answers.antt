use Rattle.std.proofs.Common.{sym, ◌∙◌}
use mir.Facts.{to_z-of_z}
use Rattle.macroblock.proofs.Reached.{address-fits}
use Rattle.picture_state.proofs.Results.{some-is-stop, none-goes-on}
use Rattle.slice.proofs.SliceLoop.{goes-stop, goes_last, goes-more}
use Rattle.slice.proofs.slices.goes_on.Goals as goal

pub returns-then-is_some : goal.returns-then-is_some
returns-then-is_some c = goes-stop (some-is-stop _ (sym c.is_some.ensures ∙ c.if-is_some.true))

pub past-requires-clause-address_sum_bound : goal.past-requires-clause-address_sum_bound
past-requires-clause-address_sum_bound c = let p = c.requires.address_sum_bound in rw (to_z-of_z (address-fits p)) p

pub returns-then-past : goal.returns-then-past
returns-then-past c =
    goes_last (none-goes-on _ (sym c.is_some.ensures ∙ c.if-is_some.false))
    (sym (rw (to_z-of_z (address-fits c.requires.address_sum_bound)) at c.past.ensures) ∙ c.if-past.true)

pub returns : goal.returns
returns c =
    goes-more (none-goes-on _ (sym c.is_some.ensures ∙ c.if-is_some.false))
    (sym (rw (to_z-of_z (address-fits c.requires.address_sum_bound)) at c.past.ensures) ∙ c.if-past.false)
    c.peek_non_zero-more.ensures.runs_in_bounds c.peek_non_zero-more.ensures.reader_value
