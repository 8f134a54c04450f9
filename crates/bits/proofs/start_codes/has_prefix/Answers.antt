-- The join of the first two tests, and the third.
use Rattle.std.proofs.Common.{eq-eqb, ne_eqb}
use Rattle.bits.specs.Bits.{code_prefix}
use Rattle.bits.proofs.start_codes.has_prefix.Goals as goal
use Rattle.bits.proofs.start_codes.has_prefix.Goals.{then-s-b-eq0, else-s-b-eq0}

pub returns-then-s-b-eq0-2 : goal.returns-then-s-b-eq0-2
unfolding code_prefix
returns-then-s-b-eq0-2 c =
    elim c.if-s-b-eq0.branch [
      | then-s-b-eq0 w ↦ rw (eq-eqb _ _ w.if-s-b-eq0.true, ← w.value-is, c.if-s-b-eq0-2.true)
      | else-s-b-eq0 w ↦ cc (ne_eqb _ _ w.if-s-b-eq0.false)
    ]

pub returns-else-s-b-eq0-2 : goal.returns-else-s-b-eq0-2
unfolding code_prefix
returns-else-s-b-eq0-2 c =
    elim c.if-s-b-eq0.branch [
      | then-s-b-eq0 w ↦ rw (eq-eqb _ _ w.if-s-b-eq0.true, ← w.value-is, c.if-s-b-eq0-2.false)
      | else-s-b-eq0 w ↦ rw (ne_eqb _ _ w.if-s-b-eq0.false) c.if-s-b-eq0-2.false
    ]
