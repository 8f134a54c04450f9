-- The level without its sign is a byte.
use Rattle.std.proofs.Common.{◌≡◌, List, [], ◌∷◌, ℕ, ◌%◌, arith, neg_ℤ, pos, to_z, w32}
use borrow.Author.Tests.{eq-eqb, ne_eqb}
use Rattle.laws.proofs.Exprs.{var, neg, Input, natural, num_of}
use Rattle.bits.proofs.Rules.{r-call, r-yes, r-no, r-done, reading}
use Rattle.coefficients.specs.Coefficients.{run_level}
use Rattle.coefficients.proofs.coefficient.read_run_level.Goals as goal
use Rattle.coefficients.proofs.coefficient.read_run_level.Goals.{then-sign-eq0, else-sign-eq0}

abbrev ρ : ℕ → List (Input w32)
ρ code = natural w32 (code % 256) 255 (omega arith) ∷ []

pub returns-then-code-eq65535 : goal.returns-then-code-eq65535
unfolding run_level
returns-then-code-eq65535 c = reading c.requires (r-yes _ (eq-eqb _ _ c.if-code-eq65535.true) c.read_escape.ensures.runs)

pub returns : goal.returns
unfolding run_level
returns c =
    let coded = ne_eqb _ _ c.if-code-eq65535.false in
    elim c.if-sign-eq0.branch [
      | then-sign-eq0 w ↦
          let plus : to_z w32 c.if-sign-eq0.level-bits ≡ pos (c.args.code % 256) = cc (num_of (ρ c.args.code) (var 0) tt).is in
          rw plus (reading c.requires (r-no _ coded (r-call _ c.read_bit-sign.ensures.runs (r-yes _ (eq-eqb _ _ w.if-sign-eq0.true) r-done))))
      | else-sign-eq0 w ↦
          let minus : to_z w32 c.if-sign-eq0.level-bits ≡ neg_ℤ (pos (c.args.code % 256)) = cc (num_of (ρ c.args.code) (neg (var 0)) tt).is in
          rw minus (reading c.requires (r-no _ coded (r-call _ c.read_bit-sign.ensures.runs (r-no _ (ne_eqb _ _ w.if-sign-eq0.false) r-done))))
    ]
