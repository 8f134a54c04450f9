-- Each code ends the sum, or another follows it.
use Rattle.std.proofs.Common.{arith}
use Rattle.macroblock_head.proofs.Sums.{at_code, escape, last, stuffing, last-34, goes_on, at-code-on, code-end}
use Rattle.macroblock_head.proofs.increments.read_increment.Goals as goal
use Rattle.macroblock_head.proofs.increments.read_increment.Goals.{in_default-via-in-34+else-sum-eq0, in_default-via-in_default-1}

pub loop-sum-init : goal.loop-sum-init
loop-sum-init c = at_code c.requires.reader_in_bounds

pub loop-sum-smaller-then-sum-eq0 : goal.loop-sum-smaller-then-sum-eq0
loop-sum-smaller-then-sum-eq0 c =
    goes_on c.loop-sum.invariant (stuffing c.loop-sum.sum c.read_macroblock_address_increment-code.ensures c.in-34.is c.if-sum-eq0.true)

pub loop-sum-preserved-then-sum-eq0 : goal.loop-sum-preserved-then-sum-eq0
loop-sum-preserved-then-sum-eq0 c =
    at-code-on c.loop-sum.invariant (stuffing c.loop-sum.sum c.read_macroblock_address_increment-code.ensures c.in-34.is c.if-sum-eq0.true)

pub loop-sum-smaller : goal.loop-sum-smaller
loop-sum-smaller c = goes_on c.loop-sum.invariant (escape c.loop-sum.sum c.read_macroblock_address_increment-code.ensures c.in-35.is)

pub loop-sum-preserved : goal.loop-sum-preserved
loop-sum-preserved c = at-code-on c.loop-sum.invariant (escape c.loop-sum.sum c.read_macroblock_address_increment-code.ensures c.in-35.is)

pub returns-in_default : goal.returns-in_default
returns-in_default c =
    let r = c.read_macroblock_address_increment-code.ensures in
    code-end c.loop-sum.invariant (elim c.in_default-1.branch [
      | in_default-via-in-34+else-sum-eq0 w ↦ last-34 c.loop-sum.sum r w.in-34.is w.if-sum-eq0.false
      | in_default-via-in_default-1 w ↦ last c.loop-sum.sum r (grind arith) (grind arith)
    ])
