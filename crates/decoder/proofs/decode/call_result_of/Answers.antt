use Rattle.std.proofs.Common.{◌∙◌}
use Rattle.decoder.proofs.Decoding.{ended-stop, ended-gave}
use Rattle.decoder.proofs.decode.call_result_of.Goals as goal
use Rattle.decoder.proofs.decode.call_result_of.Goals.{in-Continues, in-Finished}

pub returns-in-Aborted : goal.returns-in-Aborted
returns-in-Aborted c =
    let a = c.args in
    λ l. rw c.number-stop.ensures at (c.refused.ensures l) ∙ rw c.in-Aborted.is (ended-stop a.before a.d a.t.state a.left l c.in-Aborted.mark)

pub returns : goal.returns
returns c =
    let a = c.args in
    λ l. elim c.match-t.branch [
      | in-Continues w ↦ rw (w.outcome-is, w.in-Continues.is) (ended-gave a.before a.d a.t.state a.left l _)
      | in-Finished w ↦ rw (w.outcome-is, w.in-Finished.is) (ended-gave a.before a.d a.t.state a.left l _)
    ]
