use mathlib.Core.Bool.{false≢true}
use mathlib.Core.Path.{sym, ap, subst, ◌∙◌}
use Rattle.decoder.specs.declared.record.Decoder.{Decoder}
use Rattle.memory.specs.Memory.{memory, HoldsRecord}
use Rattle.mpeg1.proofs.Answers.{opens-2, opens}
use Rattle.mpeg1.proofs.calls.mpeg1_open.Goals as goal

pub returns-then-not-has_room : goal.returns-then-not-has_room
returns-then-not-has_room c =
    let s = c.args in
    let x = memory s.numbers.now s.integers.now s.matrices.now s.clock.now in
    let e = sym c.has_room.ensures ∙ c.if-not-has_room.true in
    record { left = opens-2 s.stream.now s.store.now x e; held = λ h. absurd (false≢true (sym e ∙ h)) }

pub returns : goal.returns
returns c =
    let s = c.args in
    let x = memory s.numbers.now s.integers.now s.matrices.now s.clock.now in
    let w = c.save.new in
    let room = sym c.has_room.ensures ∙ c.if-not-has_room.false in
    let o = c.open-opened.ensures in
    record {
      left = opens s.stream.now s.store.now x room o c.opening_error_code.ensures c.save.ensures.clock_after;
      held =
          λ h. subst (λ (d : Decoder). HoldsRecord (memory w.numbers w.integers w.matrices w.clock) d) (ap (λ y. y.decoder) o) c.save.ensures.holds_record;
    }
