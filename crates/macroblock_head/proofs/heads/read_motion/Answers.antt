use Rattle.bits.proofs.Rules.{r-yes, r-no, r-done}
use Rattle.macroblock_head.proofs.heads.read_motion.Goals as goal

pub returns-then-resets : goal.returns-then-resets
returns-then-resets c = rw c.zeroed.ensures (record { runs = r-no _ c.if-m.false (r-yes _ c.if-resets.true r-done); inside = c.requires.reader_in_bounds })

pub returns : goal.returns
returns c = record { runs = r-no _ c.if-m.false (r-no _ c.if-resets.false r-done); inside = c.requires.reader_in_bounds }
