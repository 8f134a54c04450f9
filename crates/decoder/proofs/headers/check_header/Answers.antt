use Rattle.std.proofs.Common.{sym, ◌∙◌}
use borrow.Author.Tests.{not-true, not-false}
use Rattle.decoder.proofs.Checking.{header-3, header-4, header-5}
use Rattle.decoder.proofs.Fits.{fit_found}
use Rattle.decoder.proofs.headers.check_header.Goals as goal

pub returns-then-has_code-clause-decoder_value : goal.returns-then-has_code-clause-decoder_value
returns-then-has_code-clause-decoder_value c = header-3 _ _ c.find_sequence-d.ensures (sym c.has_code.ensures ∙ c.if-has_code.true)

pub returns-then-has_code-clause-fit_2 : goal.returns-then-has_code-clause-fit_2
returns-then-has_code-clause-fit_2 c = rw c.find_sequence-d.ensures (fit_found c.args.s.now c.requires.fit c.requires.s_len_bound)

pub returns-then-not-has-clause-decoder_value : goal.returns-then-not-has-clause-decoder_value
returns-then-not-has-clause-decoder_value c =
    header-4 _ _ c.find_sequence-d.ensures (sym c.has_code.ensures ∙ c.if-has_code.false)
    (sym (rw c.from_position.ensures at c.has.ensures.0) ∙ not-true _ c.if-not-has.true)

pub returns-then-not-has-clause-fit_2 : goal.returns-then-not-has-clause-fit_2
returns-then-not-has-clause-fit_2 c = rw c.find_sequence-d.ensures (fit_found c.args.s.now c.requires.fit c.requires.s_len_bound)

pub check_size-requires-clause-fit : goal.check_size-requires-clause-fit
check_size-requires-clause-fit c = rw c.find_sequence-d.ensures (fit_found c.args.s.now c.requires.fit c.requires.s_len_bound)

pub returns-clause-decoder_value : goal.returns-clause-decoder_value
returns-clause-decoder_value c =
    c.check_size.ensures.decoder_value
    ∙ header-5 _ _ c.find_sequence-d.ensures (sym c.has_code.ensures ∙ c.if-has_code.false)
    (sym (rw c.from_position.ensures at c.has.ensures.0) ∙ not-false _ c.if-not-has.false)
