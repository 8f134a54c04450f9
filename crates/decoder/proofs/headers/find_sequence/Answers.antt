use Rattle.decoder.specs.Headers.{find_sequence}
use Rattle.decoder.proofs.headers.find_sequence.Goals as goal

pub returns : goal.returns
unfolding find_sequence
returns c = rw c.next_code-d.ensures
