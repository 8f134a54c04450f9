use Rattle.decoder.specs.Headers.{accepted}
use Rattle.decoder.proofs.headers.accepted.Goals as goal

pub returns : goal.returns
unfolding accepted
returns c = rw (c.position-d.ensures, c.aspect_of-d.ensures, c.rate_of-d.ensures, c.sizes_of-d.ensures)
