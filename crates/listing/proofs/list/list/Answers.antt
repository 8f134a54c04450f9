use Rattle.std.proofs.Common.{arith}
use Rattle.listing.specs.Text.{names}
use Rattle.listing.proofs.Listed.{wrote-listing}
use Rattle.listing.proofs.list.list.Goals as goal

pub returns : goal.returns
unfolding names
returns c =
    let w = wrote-listing c.args.stream.now c.write_bytes-at.ensures c.list_lines.ensures.wrote (omega (arith, c.list_lines.ensures.upper_bound, c.requires)) in
    record { wrote = w.0; prefix_len = w.1 }
