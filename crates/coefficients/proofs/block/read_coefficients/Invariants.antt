use Rattle.std.proofs.Common.{◌-◌}
use Rattle.bits.specs.Runs.{ReaderInBounds}
use Rattle.codes.specs.DecodingTables.{matrix_of}
use Rattle.coefficients.specs.Blocks.{block_coefficients}
use Rattle.coefficients.proofs.Placing.{AtPair}
use Rattle.coefficients.proofs.block.read_coefficients.Given as goal

-- the pairs read so far are at their places
abbrev pub invariant-loop-run : goal.invariant-loop-run
invariant-loop-run l =
    record {
      inside : ReaderInBounds l.s l.from;
      placed : AtPair l.q (matrix_of l.tables l.q.intra) (block_coefficients l.initial.values l.first) l.s l.initial.from
          (block_coefficients l.values l.n) l.from;
    }

abbrev pub decreases-loop-run : goal.decreases-loop-run
decreases-loop-run l = 64 - l.n
