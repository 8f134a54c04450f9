use Rattle.std.proofs.Common.{ap, ◌∙◌, ℤ, pos, ◌+ℤ◌}
use Rattle.bits.specs.Programs.{RunResult}
use Rattle.coefficients.proofs.Cases.{w8-read, w9-read}
use Rattle.reader_conformance.proofs.WorkedCases.{told}
use Rattle.reader_conformance.proofs.worked.dc_cases.Goals as goal

-- the value for a difference
abbrev dc : RunResult ℤ → ℤ
dc o = pos 128 +ℤ o.value

pub returns : goal.returns
returns c = (told (c.dc_case-w8.ensures ∙ ap dc w8-read), told (c.dc_case-w9.ensures ∙ ap dc w9-read))
