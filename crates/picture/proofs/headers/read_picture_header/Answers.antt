use Rattle.std.proofs.Common.{arith}
use Rattle.bits.proofs.Rules.{r-call, r-done, r-reads}
use Rattle.picture.specs.Pictures.{picture_header}
use Rattle.picture.proofs.headers.read_picture_header.Goals as goal

pub returns : goal.returns
unfolding picture_header
returns c =
    let back = rw c.is_zero.ensures at c.read_direction-b.ensures.runs in
    record {
      runs = r-call _ (r-reads 10 (omega arith) c.read-temporal.ensures.runs) (r-call _ (r-reads 3 (omega arith) c.read-t.ensures.runs)
          (r-call _ (r-reads 16 (omega arith) c.read-delay.ensures.runs) (r-call _ c.read_direction-f.ensures.runs (r-call _ back r-done))));
      inside = c.read_direction-b.ensures.inside;
    }
