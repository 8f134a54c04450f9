use mathlib.Core.Path.{◌≡◌, sym, ap, ◌∙◌}
use Prim.Native.Nat.{ℕ}
use Rattle.decoder.specs.declared.answers.Opening.{Opening}
use Rattle.decoder.specs.declared.answers.Opening.TheVariants as O
use Rattle.playback.specs.declared.outcome.Outcome.{Outcome}
use Rattle.playback.specs.declared.outcome.Outcome.TheVariants as H
use Rattle.decoder.specs.Record.{call_result}
use Rattle.decoder.specs.Answers.{opening_error_code, decode_error_code}
use Rattle.count.specs.Count.{counts}
use Rattle.count.proofs.Counting.{refused-counts, ready-counts, counting-end, counting-on, counting-first}
use Rattle.count.proofs.run.decode_all.Goals as goal

pub returns-in_default : goal.returns-in_default
returns-in_default c =
    let s = c.args in
    let o = c.open-opened in
    let a = c.in_default.field-0 in
    let known = ap (λ (y : Opening). call_result y o.result.decoder o.new.store) (sym c.in_default.is) ∙ o.ensures in
    ap (λ (k : ℕ). counts k 0 o.new.store) (c.opening_error_code-answer.ensures ∙ ap opening_error_code c.in_default.is)
    ∙ refused-counts s.stream.now s.store.now o.result.decoder o.new.store a known

pub loop-answer-init : goal.loop-answer-init
loop-answer-init c =
    let s = c.args in
    let o = c.open-opened in
    let ready = ap (λ (y : Opening). call_result y o.result.decoder o.new.store) (sym c.in-Ready.is) ∙ o.ensures in
    counting-first s.stream.now s.store.now o.result.decoder o.new.store (λ k. (c.type_inv.stream k).fits) ready

-- where a refusal is answered
pub returns-in_default-outcome : goal.returns-in_default-outcome
returns-in_default-outcome c =
    let s = c.args in
    let o = c.open-opened in
    let l = c.loop-answer in
    let d = c.decode-call in
    let ready = ap (λ (y : Opening). call_result y o.result.decoder o.new.store) (sym c.in-Ready.is) ∙ o.ensures in
    let known = ap (λ (y : Outcome). call_result y d.result.decoder d.new.store) (sym c.in_default-outcome.is) ∙ d.ensures in
    ap (λ (k : ℕ). counts k l.pictures d.new.store) (c.decode_error_code-answer.ensures ∙ ap decode_error_code c.in_default-outcome.is)
    ∙ counting-end l.invariant c.in_default-outcome.field-0 d.result.decoder d.new.store known
    ∙ ready-counts s.stream.now s.store.now o.result.decoder o.new.store ready

-- where a picture is answered
pub loop-answer-preserved : goal.loop-answer-preserved
loop-answer-preserved c =
    let d = c.decode-call in
    let known = ap (λ (y : Outcome). call_result y d.result.decoder d.new.store) (sym c.in-Picture.is) ∙ d.ensures in
    counting-on c.loop-answer.invariant c.in-Picture.field-0 d.result.decoder d.new.store known d.auto.store
