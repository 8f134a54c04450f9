use borrow.Author.Tests.{eq-eqb, ne_eqb}
use Rattle.bits.proofs.Rules.{r-call, r-done, r-yes, r-no}
use Rattle.header.specs.Sequences.{matrix}
use Rattle.header.proofs.sequences.read_matrix.Goals as goal

pub returns-then-loaded-eq0 : goal.returns-then-loaded-eq0
unfolding matrix
returns-then-loaded-eq0 c =
    let b = c.read_bit-loaded.ensures in
    record { runs = r-call _ b.runs (r-yes _ (eq-eqb _ 0 c.if-loaded-eq0.true) r-done); inside = b.inside }

pub returns : goal.returns
unfolding matrix
returns c =
    let e = c.read_entries.ensures in
    record { runs = r-call _ c.read_bit-loaded.ensures.runs (r-no _ (ne_eqb _ 0 c.if-loaded-eq0.false) e.runs); inside = e.inside }
