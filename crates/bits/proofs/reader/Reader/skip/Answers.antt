-- A skip by what `has` says.
use Rattle.std.proofs.Common.{sym, ◌∙◌}
use Rattle.bits.proofs.Programs.{next-has, next_not}
use Rattle.bits.proofs.Rules.{is-skips, reading}
use Rattle.bits.proofs.reader.Reader.skip.Goals as goal

pub returns-then-has : goal.returns-then-has
returns-then-has c = reading c.requires (is-skips (sym (next-has _ _ _ (sym c.has.ensures.0 ∙ c.if-has.true))))

pub returns : goal.returns
returns c = reading c.requires (is-skips (sym (next_not _ _ _ (sym c.has.ensures.0 ∙ c.if-has.false))))
