-- By the flag for intra; the address is read back from 32 bits.
use Rattle.std.proofs.Common.{nat_abs, sym, ap, ◌∙◌}
use Rattle.picture_state.proofs.Signed.{address_read}
use Rattle.macroblock.proofs.Bodies.{unless_intra, unless-predicted}
use Rattle.macroblock.proofs.body.predict_unless_intra.Goals as goal

pub returns-then-is_intra : goal.returns-then-is_intra
returns-then-is_intra c = let a = c.args in unless_intra a.g a.t.0 a.state a.store.now (sym c.is_intra.ensures ∙ c.if-is_intra.true)

pub returns : goal.returns
returns c =
    let a = c.args in
    unless-predicted a.g a.t.0 a.state a.store.now (sym c.is_intra.ensures ∙ c.if-is_intra.false) _ (ap nat_abs (address_read c.requires.possible_slice))
    c.predict.ensures
