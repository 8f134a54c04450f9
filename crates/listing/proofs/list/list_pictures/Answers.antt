use Rattle.std.proofs.Common.{◌≡◌, ◌+◌, ℕ, sym, ap, subst, ◌∙◌}
use Rattle.playback.specs.declared.outcome.Outcome.{Outcome}
use Rattle.decoder.specs.Answers.{decode_error_code}
use Rattle.decoder.specs.Record.{call_result}
use Rattle.decoder.specs.Listing.{line}
use Rattle.listing.specs.Text.{Wrote, line_text}
use Rattle.listing.proofs.Listed.{listed-end, listed-one, listed-first}
use Rattle.listing.proofs.list.list_pictures.Goals as goal

pub loop-shown-init : goal.loop-shown-init
loop-shown-init c =
    let r = c.requires.stream_len_bound in
    listed-first c.args.store.now c.args.opened r.0 (λ k. (c.type_inv.stream k).fits) r.1 c.requires.first_bound.0

pub returns-in_default-clause-wrote : goal.returns-in_default-clause-wrote
returns-in_default-clause-wrote c =
    let l = c.loop-shown in
    let d = c.decode-call in
    let e : c.from-answer.result ≡ c.in_default.field-0 = c.from-answer.ensures ∙ c.decode_error_code.ensures ∙ ap decode_error_code c.in_default.is in
    listed-end l.invariant c.in_default.field-0 d.result.decoder d.new.store
    (ap (λ (y : Outcome). call_result y d.result.decoder d.new.store) (sym c.in_default.is) ∙ d.ensures)
    (subst (λ (k : ℕ). Wrote l.page l.at (line_text (line l.handed 0 0 k)) c.write_line.new.page c.write_line.result) e c.write_line.ensures.wrote)

pub loop-shown-preserved : goal.loop-shown-preserved
loop-shown-preserved c =
    let l = c.loop-shown in
    let d = c.decode-call in
    listed-one l.invariant c.in-Picture.shown d.result.decoder d.new.store
    (ap (λ (y : Outcome). call_result y d.result.decoder d.new.store) (sym c.in-Picture.is) ∙ d.ensures)
    (subst (λ (k : ℕ). Wrote l.page l.at (line_text (line (l.handed + 1) c.in-Picture.shown.store k 0)) c.write_line-at.new.page c.write_line-at.result)
    c.from-kind.ensures c.write_line-at.ensures.wrote)
    c.write_line-at.ensures.upper_bound
