-- What is cast is the last bit.
use Rattle.std.proofs.Common.{◌≤◌, eqb, nat_abs, ℕ, bit_and, of_z, w32, ap, ◌∙◌, arith}
use Rattle.laws.proofs.Bytes.{natural-num, odd-one}
use Rattle.laws.proofs.Ints.{parity}
use Rattle.prediction.proofs.position.half_sample.Goals as goal

pub returns : goal.returns
returns c =
    let bit = bit_and (of_z w32 c.args.n) 1 in
    let small : bit ≤ 1 = omega (arith, parity w32 c.args.n c.ranges.n) in
    let e = ap nat_abs (natural-num w32 bit 1 small tt).is in
    (omega (arith, small, e), ap (λ (n : ℕ). eqb n 1) e ∙ odd-one w32 c.ranges.n)
