-- The bits out of the window at the byte of the place.
use Rattle.std.proofs.Common.{arith, ap, ◌∙◌, ℕ, ◌*◌}
use borrow.Author.Tests.{lt-leb}
use Rattle.bits.specs.Bits.{bits_at}
use Rattle.bits.proofs.Bits.{window-bits}
use Rattle.bits.proofs.Rules.{bits-there, bits-refused, r-done, r-no, reading, reads-bits}
use Rattle.bits.proofs.reader.Reader.read.Goals as goal

pub returns-then-count-gt32 : goal.returns-then-count-gt32
returns-then-count-gt32 c = reading c.requires (r-no _ (lt-leb _ _ c.if-count-gt32.true) r-done)

pub returns-then-bit_of-to : goal.returns-then-bit_of-to
returns-then-bit_of-to c = reads-bits c.if-count-gt32.false (bits-refused c.requires (omega arith))

pub returns : goal.returns
returns c =
    let s = c.args.s.now in
    let window = c.window.ensures ∙ ap (λ (b : ℕ). bits_at s (b * 8) 40) c.byte_of-b.ensures in
    reads-bits c.if-count-gt32.false
    (bits-there c.requires (omega arith) (window-bits _ c.args.self.at.0 c.args.count s window c.if-count-gt32.false) (omega arith))
