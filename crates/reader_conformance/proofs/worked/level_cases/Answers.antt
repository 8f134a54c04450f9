use Rattle.std.proofs.Common.{◌∙◌}
use Rattle.coefficients.proofs.Cases.{w10, w11, w12}
use Rattle.reader_conformance.proofs.WorkedCases.{told}
use Rattle.reader_conformance.proofs.worked.level_cases.Goals as goal

pub returns : goal.returns
returns c =
    (told (c.level_case-w10.ensures ∙ w10), told (c.level_case-w11.ensures ∙ w11), told (c.level_case-w12.ensures ∙ w12 1 19))
