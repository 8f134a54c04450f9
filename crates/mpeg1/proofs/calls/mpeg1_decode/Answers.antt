use mathlib.Core.Bool.{false≢true}
use mathlib.Core.Path.{◌≡◌, sym, ap, subst, ◌∙◌}
use native.Mathlib.Omega.{arith}
use borrow.Author.Tests.{lt-leb}
use lib.ListN.{length}
use Rattle.bits.specs.Bounds.{longest_stream}
use Rattle.decoder.specs.Answers.{decode_error_code}
use Rattle.memory.specs.Memory.{memory}
use Rattle.mpeg1.specs.Calls.{host_decode}
use Rattle.mpeg1.proofs.Answers.{decodes-1, decodes-2, told, decodes}
use Rattle.mpeg1.proofs.calls.mpeg1_decode.Goals as goal
use Rattle.playback.specs.declared.outcome.Outcome.{Outcome}

pub returns-then-stream-gt-LONGEST_STREAM : goal.returns-then-stream-gt-LONGEST_STREAM
returns-then-stream-gt-LONGEST_STREAM c =
    let s = c.args in
    let x = memory s.numbers.now s.integers.now s.matrices.now s.clock.now in
    let long = c.if-stream-gt-LONGEST_STREAM.true in
    record {
      left = decodes-1 s.stream.now s.store.now x s.picture.now s.time.now long;
      held = λ i h p. absurd (false≢true (sym (lt-leb (length s.stream.now) longest_stream long) ∙ h));
    }

pub returns-then-not-is_record : goal.returns-then-not-is_record
returns-then-not-is_record c =
    let s = c.args in
    let x = memory s.numbers.now s.integers.now s.matrices.now s.clock.now in
    let e = sym c.is_record.ensures ∙ c.if-not-is_record.true in
    record {
      left = decodes-2 s.stream.now s.store.now x s.picture.now s.time.now c.if-stream-gt-LONGEST_STREAM.false e;
      held = λ i h p. absurd (false≢true (sym e ∙ i));
    }

-- the outcome is a number
pub returns-in_default : goal.returns-in_default
returns-in_default c =
    let s = c.args in
    let x = memory s.numbers.now s.integers.now s.matrices.now s.clock.now in
    let d = c.decode_record-outcome in
    let z = memory d.new.numbers d.new.integers d.new.matrices d.new.clock in
    let code = c.decode_error_code.ensures ∙ ap decode_error_code c.in_default.is in
    let gives =
    decodes s.stream.now s.store.now x s.picture.now s.time.now c.if-stream-gt-LONGEST_STREAM.false (sym c.is_record.ensures ∙ c.if-not-is_record.false)
    (omega arith) d.ensures in
    let known =
    subst (λ (a : Outcome). told a d.new.store z s.picture.now s.time.now ≡ host_decode s.stream.now s.store.now x s.picture.now s.time.now) c.in_default.is
    gives in
    record { left = rw code known; held = λ i h q. d.ensures.holds }

-- the outcome is a picture, whose numbers are put over the beginning of what is lent
pub returns : goal.returns
returns c =
    let s = c.args in
    let x = memory s.numbers.now s.integers.now s.matrices.now s.clock.now in
    let d = c.decode_record-outcome in
    let z = memory d.new.numbers d.new.integers d.new.matrices d.new.clock in
    let put = c.copy_from_slice.ensures.after ∙ c.picture_numbers.ensures in
    let gives =
    decodes s.stream.now s.store.now x s.picture.now s.time.now c.if-stream-gt-LONGEST_STREAM.false (sym c.is_record.ensures ∙ c.if-not-is_record.false)
    (omega arith) d.ensures in
    let known =
    subst (λ (a : Outcome). told a d.new.store z s.picture.now s.time.now ≡ host_decode s.stream.now s.store.now x s.picture.now s.time.now) c.in-Picture.is
    gives in
    record { left = rw put known; held = λ i h q. d.ensures.holds }
