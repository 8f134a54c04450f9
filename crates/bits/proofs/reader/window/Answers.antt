-- The five bytes, as `from_be_bytes` joins them.
use Rattle.std.proofs.Common.{arith}
use Rattle.bits.proofs.Bits.{five-bytes}
use Rattle.bits.proofs.reader.window.Goals as goal

pub returns-then-b-s : goal.returns-then-b-s
returns-then-b-s c = omega (arith, c.from_be_bytes.ensures, five-bytes c.args.s.now c.args.b (λ i. omega (arith, c.type_inv.s i)))

pub returns : goal.returns
returns c =
    omega (
      arith,
      c.from_be_bytes-2.ensures,
      c.byte_or_0.ensures,
      c.byte_or_0-2.ensures,
      c.byte_or_0-3.ensures,
      c.byte_or_0-4.ensures,
      c.byte_or_0-5.ensures,
      five-bytes c.args.s.now c.args.b (λ i. omega (arith, c.type_inv.s i)),
    )
