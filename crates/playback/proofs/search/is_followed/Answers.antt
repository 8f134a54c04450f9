use Rattle.std.proofs.Common.{arith, ap, w32, of_z, negsuc}
use borrow.Author.Tests.{ne_eqb}
use Rattle.laws.proofs.Ints.{same_bits}
use Rattle.bits.proofs.Codes.{code_fits}
use Rattle.playback.specs.Search.{is_followed}
use Rattle.playback.proofs.Seeking.{follow-yes, follow-no}
use Rattle.playback.proofs.search.is_followed.Goals as goal

pub returns-then-has_start_code : goal.returns-then-has_start_code
unfolding is_followed
returns-then-has_start_code c =
    rw (ne_eqb _ 4294967295 c.if-has_start_code.true)
    (follow-yes _ c.has_start_code.ensures.code_value.0 (λ e. c.if-has_start_code.true (ap (of_z w32) e)))

pub returns-else-has_start_code : goal.returns-else-has_start_code
unfolding is_followed
returns-else-has_start_code c =
    let a = c.has_start_code.ensures in
    let none = same_bits w32 (code_fits _ a.code_bound) (code_fits (negsuc 0) (omega arith)) c.if-has_start_code.false in
    follow-no _ a.code_value.0 none c.has_ended.ensures.0
