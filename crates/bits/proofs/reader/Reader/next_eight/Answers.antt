-- The two bytes as the code joins them, and the eight bits in them.
use Rattle.std.proofs.Common.{ap, ◌∙◌, ℕ, ◌*◌}
use Rattle.bits.specs.Bits.{bits_at}
use Rattle.bits.proofs.Bits.{two_bytes, eight-bits}
use Rattle.bits.proofs.reader.Reader.next_eight.Goals as goal

pub returns : goal.returns
returns c =
    let s = c.args.s.now in
    eight-bits s c.args.self.at.0 _
    (two_bytes s c.byte_of-b.result.0 c.byte.ensures c.byte-2.ensures ∙ ap (λ (n : ℕ). bits_at s (n * 8) 16) c.byte_of-b.ensures)
