use Rattle.std.proofs.Common.{refl, arith}
use Rattle.listing.proofs.Writing.{put-sets}
use Rattle.listing.proofs.text.write_bytes.Goals as goal

pub returns : goal.returns
returns c = record {
  bytes = rw c.copy_from_slice.ensures.after (put-sets c.args.at _ c.args.page.now c.args.text.now (omega arith) c.requires);
  position = refl;
}
