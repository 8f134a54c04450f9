use Rattle.motion.proofs.Cases.{cases}
use Rattle.reader_conformance.proofs.WorkedCases.{computed, told}
use Rattle.reader_conformance.proofs.worked.vector_cases.Goals as goal

pub returns : goal.returns
returns c = (
  told (computed c.vector_case-w1.ensures cases.w1-read),
  told (computed c.vector_case-w2.ensures cases.w2-read),
  told (computed c.vector_case-w3.ensures cases.w3-read),
  told (computed c.vector_case-w4.ensures cases.w4-read),
)
