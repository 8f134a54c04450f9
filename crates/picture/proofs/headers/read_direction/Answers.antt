use Rattle.std.proofs.Common.{arith}
use Rattle.bits.proofs.Rules.{r-call, r-yes, r-no, r-done, r-reads, reading}
use Rattle.picture.specs.Pictures.{direction}
use Rattle.picture.proofs.headers.read_direction.Goals as goal

pub returns-then-not-present : goal.returns-then-not-present
unfolding direction
returns-then-not-present c = record { runs = r-no _ c.if-not-present.true r-done; inside = c.requires }

pub returns : goal.returns
unfolding direction
returns c =
    reading c.requires
    (r-yes _ c.if-not-present.false (r-call _ c.read_bit-full.ensures.runs (r-call _ (r-reads 3 (omega arith) c.read-f.ensures.runs) r-done)))
