-- Each field has eight bits, so it fits, and so does the field less 256.
use Rattle.std.proofs.Common.{List, [], ◌∷◌, ℕ, ◌≤◌, arith, w32}
use borrow.Author.Tests.{eq-eqb, ne_eqb, lt-ltb, le-ltb}
use Rattle.laws.proofs.Exprs.{Exp, var, cst, ◌∸◌, Input, natural, need, value, eval-fits}
use Rattle.bits.specs.Programs.{read_at_most32}
use Rattle.bits.specs.Runs.{Runs}
use Rattle.bits.specs.declared.reader.Reader.{Reader}
use Rattle.bits.proofs.Gives.{given_by, g-reads}
use Rattle.bits.proofs.Rules.{r-call, r-yes, r-no, r-done, reading}
use Rattle.coefficients.specs.Coefficients.{escape_level}
use Rattle.coefficients.proofs.coefficient.read_escape_level.Goals as goal

abbrev ρ : (n : ℕ) → n ≤ 255 → List (Input w32)
ρ n h = natural w32 n 255 h ∷ []

abbrev less : Exp
less = var 0 ∸ cst 256

eight : {s : List ℕ} {from to : Reader} {v : ℕ} → Runs (read_at_most32 8) s from v to → v ≤ 255
eight r = omega (arith, given_by (g-reads 8) r)

pub overflow_cast-result : goal.overflow_cast-result
overflow_cast-result c = eval-fits (ρ c.read-more.result.value (eight c.read-more.ensures.runs)) (var 0) tt

pub returns-then-field-eq0 : goal.returns-then-field-eq0
unfolding escape_level
returns-then-field-eq0 c =
    rw (value (ρ c.read-more.result.value (eight c.read-more.ensures.runs)) (var 0) tt)
    (reading c.requires
    (r-call _ c.read-first.ensures.runs (r-yes _ (eq-eqb _ _ c.if-field-eq0.true) (r-call _ c.read-more.ensures.runs r-done))))

pub returns-then-field-lt128 : goal.returns-then-field-lt128
unfolding escape_level
returns-then-field-lt128 c =
    let n = c.read-first.result.value in
    rw (value (ρ n (eight c.read-first.ensures.runs)) (var 0) tt)
    (reading c.requires
    (r-call _ c.read-first.ensures.runs
    (r-no _ (ne_eqb _ _ c.if-field-eq0.false) (r-no _ (ne_eqb n 128 (λ e. omega arith)) (r-no _ (le-ltb 128 n (omega arith)) r-done)))))

pub overflow_cast-result-then-field-gt128 : goal.overflow_cast-result-then-field-gt128
overflow_cast-result-then-field-gt128 c = eval-fits (ρ c.read-first.result.value (eight c.read-first.ensures.runs)) (var 0) tt

pub overflow_sub-result : goal.overflow_sub-result
overflow_sub-result c = need (ρ c.read-first.result.value (eight c.read-first.ensures.runs)) less tt

pub returns-then-field-gt128 : goal.returns-then-field-gt128
unfolding escape_level
returns-then-field-gt128 c =
    let n = c.read-first.result.value in
    rw (value (ρ n (eight c.read-first.ensures.runs)) less tt)
    (reading c.requires
    (r-call _ c.read-first.ensures.runs
    (r-no _ (ne_eqb _ _ c.if-field-eq0.false) (r-no _ (ne_eqb n 128 (λ e. omega arith)) (r-yes _ (lt-ltb 128 n c.if-field-gt128.true) r-done)))))

pub overflow_cast-result-2 : goal.overflow_cast-result-2
overflow_cast-result-2 c = eval-fits (ρ c.read-more-2.result.value (eight c.read-more-2.ensures.runs)) (var 0) tt

pub overflow_sub-result-2 : goal.overflow_sub-result-2
overflow_sub-result-2 c = need (ρ c.read-more-2.result.value (eight c.read-more-2.ensures.runs)) less tt

pub returns : goal.returns
unfolding escape_level
returns c =
    let n = c.read-first.result.value in
    rw (value (ρ c.read-more-2.result.value (eight c.read-more-2.ensures.runs)) less tt)
    (reading c.requires
    (r-call _ c.read-first.ensures.runs
    (r-no _ (ne_eqb _ _ c.if-field-eq0.false) (r-yes _ (eq-eqb n 128 (omega arith)) (r-call _ c.read-more-2.ensures.runs r-done)))))
