use Rattle.std.proofs.Common.{arith}
use Rattle.bits.proofs.Gives.{given_by, g-reads}
use Rattle.bits.proofs.Rules.{r-reads, r-call, r-done}
use Rattle.header.specs.Sequences.{rest}
use Rattle.header.proofs.sequences.read_rest.Goals as goal

pub returns-clause-runs_in_bounds : goal.returns-clause-runs_in_bounds
unfolding rest
returns-clause-runs_in_bounds c =
    let intra = rw c.intra_quant_matrix.ensures at c.read_matrix-intra.ensures.runs in
    let other = rw c.non_intra_quant_matrix.ensures at c.read_matrix-other.ensures.runs in
    record {
      runs =
          r-call _ (r-reads 4 (omega arith) c.read-aspect.ensures.runs) (r-call _ (r-reads 4 (omega arith) c.read-rate.ensures.runs)
          (r-call _ (r-reads 18 (omega arith) c.read-bit_rate.ensures.runs) (r-call _ c.read_bit-marker.ensures.runs
          (r-call _ (r-reads 10 (omega arith) c.read-buffer.ensures.runs) (r-call _ c.read_bit-constrained.ensures.runs
          (r-call _ intra (r-call _ other r-done)))))));
      inside = c.read_matrix-other.ensures.inside;
    }

pub returns-clause-picture_rate_bound : goal.returns-clause-picture_rate_bound
returns-clause-picture_rate_bound c = omega (arith, given_by (g-reads 4) c.read-rate.ensures.runs)
