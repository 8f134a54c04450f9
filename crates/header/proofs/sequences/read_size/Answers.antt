use Rattle.std.proofs.Common.{arith}
use Rattle.bits.proofs.Gives.{given_by, g-reads}
use Rattle.bits.proofs.Rules.{r-reads, r-call, r-done}
use Rattle.header.specs.Sequences.{size}
use Rattle.header.proofs.sequences.read_size.Goals as goal

pub returns-clause-runs_in_bounds : goal.returns-clause-runs_in_bounds
unfolding size
returns-clause-runs_in_bounds c = record {
  runs = r-call _ (r-reads 12 (omega arith) c.read-width.ensures.runs) (r-call _ (r-reads 12 (omega arith) c.read-height.ensures.runs) r-done);
  inside = c.read-height.ensures.inside;
}

pub returns-clause-width_bound : goal.returns-clause-width_bound
returns-clause-width_bound c =
    (omega (arith, given_by (g-reads 12) c.read-width.ensures.runs), omega (arith, given_by (g-reads 12) c.read-height.ensures.runs))
