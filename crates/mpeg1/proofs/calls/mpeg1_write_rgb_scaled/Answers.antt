use Rattle.std.proofs.Common.{List, Float, sym, ap, ◌∙◌}
use Rattle.decoder.specs.Conversion as Conversion
use Rattle.memory.specs.Memory.{memory, record_of, is_record}
use Rattle.mpeg1.specs.Calls.{zero_clock}
use Rattle.mpeg1.proofs.Answers.{converts-2, converts_record}
use Rattle.mpeg1.proofs.Seen.{still-is}
use Rattle.mpeg1.proofs.calls.mpeg1_write_rgb_scaled.Goals as goal

pub returns-then-not-is_record : goal.returns-then-not-is_record
returns-then-not-is_record c =
    let s = c.args in
    let lent = λ (k : List Float). memory s.numbers.now s.integers.now s.matrices.now k in
    converts-2 s.store.now (lent zero_clock) s.index s.area.now s.width s.height
    (sym (c.is_record.ensures ∙ ap (λ k. is_record (lent k)) still-is) ∙ c.if-not-is_record.true)

pub returns : goal.returns
returns c =
    let s = c.args in
    let lent = λ (k : List Float). memory s.numbers.now s.integers.now s.matrices.now k in
    converts_record s.store.now (lent zero_clock) s.index s.area.now s.width s.height
    (sym (c.is_record.ensures ∙ ap (λ k. is_record (lent k)) still-is) ∙ c.if-not-is_record.false)
    (c.write_rgb_scaled.ensures
    ∙ ap (λ d. Conversion.converted d s.store.now s.index s.area.now s.width s.height) (c.record_of-d.ensures ∙ ap (λ k. record_of (lent k)) still-is))
    c.conversion_error_code.ensures
