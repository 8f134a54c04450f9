use Rattle.std.proofs.Common.{inl, inr}
use borrow.Author.Tests.{eq-eqb, ne_eqb, lt-ltb, le-ltb}
use Rattle.bits.proofs.Rules.{r-call, r-yes, r-no, r-done, and_yes, and_no, reading}
use Rattle.coefficients.specs.Coefficients.{coefficient}
use Rattle.coefficients.proofs.coefficient.read_coefficient.Goals as goal
use Rattle.coefficients.proofs.coefficient.read_coefficient.Goals.{else-code-eq1-via-then-code-eq1+else-n-gt0, else-code-eq1-via-else-code-eq1}

pub returns-then-more-eq0 : goal.returns-then-more-eq0
unfolding coefficient
returns-then-more-eq0 c =
    let one = and_yes _ _ (eq-eqb _ _ c.if-code-eq1.true) (lt-ltb _ _ c.if-n-gt0.true) in
    let end = r-yes _ (eq-eqb _ _ c.if-more-eq0.true) r-done in
    reading c.requires.reader_in_bounds (r-call _ c.read_dct_coeff-code.ensures.runs (r-yes _ one (r-call _ c.read_bit-more.ensures.runs end)))

pub returns-then-n-gt0 : goal.returns-then-n-gt0
unfolding coefficient
returns-then-n-gt0 c =
    let one = and_yes _ _ (eq-eqb _ _ c.if-code-eq1.true) (lt-ltb _ _ c.if-n-gt0.true) in
    let pair = r-no _ (ne_eqb _ _ c.if-more-eq0.false) c.read_run_level.ensures.runs in
    reading c.requires.reader_in_bounds (r-call _ c.read_dct_coeff-code.ensures.runs (r-yes _ one (r-call _ c.read_bit-more.ensures.runs pair)))

pub returns : goal.returns
unfolding coefficient
returns c =
    let other =
    and_no _ _
    (elim c.else-code-eq1.branch [
      | else-code-eq1-via-then-code-eq1+else-n-gt0 w ↦ inr (le-ltb _ _ w.if-n-gt0.false)
      | else-code-eq1-via-else-code-eq1 w ↦ inl (ne_eqb _ _ w.if-code-eq1.false)
    ]) in
    reading c.requires.reader_in_bounds (r-call _ c.read_dct_coeff-code.ensures.runs (r-no _ other c.read_run_level-2.ensures.runs))
