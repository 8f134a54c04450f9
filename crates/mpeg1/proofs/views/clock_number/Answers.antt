use Rattle.std.proofs.Common.{length}
use Rattle.std.proofs.lemmas.Bool.{lt-leb}
use Rattle.memory.specs.Fields.{clock_count}
use Rattle.mpeg1.proofs.Seen.{zero_is}
use Rattle.mpeg1.proofs.views.clock_number.Goals as goal

pub returns-in-None : goal.returns-in-None
returns-in-None c = rw (lt-leb clock_count (length c.args.clock.now) c.in-None.ensures.cases) zero_is
