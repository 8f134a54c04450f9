-- Nothing past the last macroblock, else on to the next one and its body.
use Rattle.std.proofs.Common.{refl, sym, ◌∙◌}
use Rattle.picture_state.specs.Promises.{matrices_in}
use Rattle.picture_state.proofs.Signed.{address_read}
use Rattle.picture_state.proofs.Results.{some-is-stop, none-goes-on}
use Rattle.macroblock.proofs.Laters.{later-past, later-stop, later-ready, later-body}
use Rattle.macroblock.proofs.macroblock.later_macroblock.Goals as goal

pub returns-then-past : goal.returns-then-past
returns-then-past c =
    let k = c.requires.later_invariant in
    later-past k (matrices_in c.args.tables.now) (sym (rw (address_read k.reads.slice) at c.past.ensures) ∙ c.if-past.true)

pub returns-then-is_some : goal.returns-then-is_some
returns-then-is_some c =
    let k = c.requires.later_invariant in
    later-stop k (sym (rw (address_read k.reads.slice) at c.past.ensures) ∙ c.if-past.false) c.advance-here.ensures c.advance-here.auto.store
    (matrices_in c.args.tables.now) refl (some-is-stop _ (sym c.is_some.ensures ∙ c.if-is_some.true))

pub body-requires : goal.body-requires
body-requires c =
    let k = c.requires.later_invariant in
    record {
      macroblock_invariant = later-ready k (sym (rw (address_read k.reads.slice) at c.past.ensures) ∙ c.if-past.false) c.advance-here.ensures
          c.advance-here.auto.store (none-goes-on _ (sym c.is_some.ensures ∙ c.if-is_some.false));
    }

pub returns : goal.returns
returns c =
    let k = c.requires.later_invariant in
    later-body k (sym (rw (address_read k.reads.slice) at c.past.ensures) ∙ c.if-past.false) c.advance-here.ensures c.advance-here.auto.store
    (matrices_in c.args.tables.now) (none-goes-on _ (sym c.is_some.ensures ∙ c.if-is_some.false)) c.body.ensures
