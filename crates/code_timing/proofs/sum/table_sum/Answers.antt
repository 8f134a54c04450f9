-- The reader of either table reads a code of it.
use Rattle.std.proofs.Common.{eq-eqb, ne_eqb}
use Rattle.bits.proofs.Rules.{r-yes, r-no}
use Rattle.bits.specs.Runs.{RunsInBounds}
use Rattle.code_timing.specs.Sum.{code_of}
use Rattle.code_timing.proofs.Summing.{summing-first, summing_on, summing-end}
use Rattle.code_timing.proofs.sum.table_sum.Goals as goal
use Rattle.code_timing.proofs.sum.table_sum.Goals.{then-this-eq0, else-this-eq0}

pub loop-init : goal.loop-init
loop-init g c = summing-first c.requires.s_len_bound c.new-reader.ensures

pub loop-preserved : goal.loop-preserved
loop-preserved g c =
    let code = c.if-this-eq0.code in
    let read : RunsInBounds (code_of g.row.TABLE) c.args.s.now c.loop.reader code.value code.reader =
    elim c.if-this-eq0.branch [
      | then-this-eq0 w ↦
          let coefficient = w.read_dct_coeff-code.ensures in
          rw w.code-is (record { runs = r-yes _ (eq-eqb _ _ w.if-this-eq0.true) coefficient.runs; inside = coefficient.inside })
      | else-this-eq0 w ↦
          let increment = w.read_macroblock_address_increment-code.ensures in
          rw w.code-is (record { runs = r-no _ (ne_eqb _ _ w.if-this-eq0.false) increment.runs; inside = increment.inside })
    ] in
    rw c.from.ensures (summing_on c.loop.invariant c.loop-test.true read)

pub returns : goal.returns
returns g c = summing-end c.loop.invariant c.loop-test.false
