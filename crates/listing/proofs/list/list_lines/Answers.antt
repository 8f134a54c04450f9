use Rattle.std.proofs.Common.{◌≡◌, ℕ, sym, ap, subst, ◌∙◌}
use Rattle.decoder.specs.declared.answers.Opening.{Opening}
use Rattle.decoder.specs.Record.{call_result}
use Rattle.decoder.specs.Answers.{opening_error_code}
use Rattle.decoder.specs.Listing.{line}
use Rattle.listing.specs.Text.{Wrote, line_text}
use Rattle.listing.proofs.Listed.{one_line, long-listed, refused-listed}
use Rattle.listing.proofs.list.list_lines.Goals as goal

pub returns-then-stream-gt65536-clause-wrote : goal.returns-then-stream-gt65536-clause-wrote
returns-then-stream-gt65536-clause-wrote c =
    one_line c.args.stream.now (line 0 0 0 1) (long-listed c.args.stream.now c.if-stream-gt65536.true) c.write_line.ensures.wrote

pub returns-in_default-clause-wrote : goal.returns-in_default-clause-wrote
returns-in_default-clause-wrote c =
    let s = c.args.stream.now in
    let a = c.in_default.field-0 in
    let o = c.open-opened in
    let w = c.write_line-in_default in
    let e : c.from-answer.result ≡ a = c.from-answer.ensures ∙ c.opening_error_code.ensures ∙ ap opening_error_code c.in_default.is in
    one_line s (line 0 0 0 a)
    (refused-listed s o.result.decoder o.new.store a c.if-stream-gt65536.false
    (ap (λ (y : Opening). call_result y o.result.decoder o.new.store) (sym c.in_default.is) ∙ o.ensures))
    (subst (λ (k : ℕ). Wrote c.args.page.now c.args.at (line_text (line 0 0 0 k)) w.new.page w.result) e w.ensures.wrote)
