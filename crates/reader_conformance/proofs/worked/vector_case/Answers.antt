use Rattle.std.proofs.Common.{◌≡◌, ◌∙◌, of_z, rules, to_z, to_z-of_z, w32}
use Rattle.reader_conformance.proofs.WorkedCases.{value-at}
use Rattle.reader_conformance.proofs.worked.vector_case.Goals as goal

pub returns : goal.returns
returns c =
    let z = c.decode_motion_vector.result.value in
    let kept : to_z w32 (of_z w32 z) ≡ z = search rules in
    kept ∙ (rw (to_z-of_z c.ranges.motion) at (value-at c.new.ensures c.decode_motion_vector.ensures))
