-- A counter that stops at its largest number is `more`.
use Rattle.std.proofs.Common.{◌≡◌, ℕ, ◌+◌, ◌-◌, ◌^◌, ◌<◌, min, arith, rules}
use Rattle.std.proofs.lemmas.Bool.Decides.{nat_tests}
use Rattle.answer_lists.specs.Tallies.{more}
use Rattle.answer_lists.proofs.tally.Tally.counted.Goals as goal

more_is : (n : ℕ) → n < 4294967296 → min (n + 1) (2 ^ 32 - 1) ≡ more n
unfolding more
more_is n h = grind (arith, nat_tests)

pub returns-then-agrees : goal.returns-then-agrees
returns-then-agrees c =
    let t = c.args.self in
    rw (c.saturating_add-cases.ensures, c.saturating_add.ensures, more_is t.cases (search rules), more_is t.agreed (search rules), c.if-agrees.true)

pub returns : goal.returns
returns c = rw (c.or.ensures, c.saturating_add-cases.ensures, more_is c.args.self.cases (search rules), c.if-agrees.false)
