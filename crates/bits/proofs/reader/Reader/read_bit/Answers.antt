-- The bit out of its byte; past the end there is none.
use Rattle.std.proofs.Common.{arith, ap, ◌∙◌, ℕ, get_or, ◌/◌, ◌^◌, ◌-◌, ◌%◌}
use Rattle.bits.proofs.Bits.{one_bit}
use Rattle.bits.proofs.Rules.{bits-there, bits-refused}
use Rattle.bits.proofs.reader.Reader.read_bit.Goals as goal

pub returns-then-b-s : goal.returns-then-b-s
returns-then-b-s c =
    let at = c.args.self.at.0 in
    let s = c.args.s.now in
    let byte = ap (λ (b : ℕ). get_or s b 0 / 2 ^ (7 - at % 8) % 2) c.byte_of-b.ensures in
    bits-there c.requires (omega arith) (c.from.ensures ∙ byte ∙ one_bit s at) (omega arith)

pub returns : goal.returns
returns c = bits-refused c.requires (omega arith)
