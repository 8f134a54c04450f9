use Rattle.std.proofs.Common.{◌-◌}
use Rattle.listing.proofs.Listed.{Listed}
use Rattle.listing.proofs.list.list_pictures.Given as goal

abbrev pub invariant-loop-shown : goal.invariant-loop-shown
invariant-loop-shown l = Listed l.stream l.fn.page l.first l.page l.at l.store l.decoder l.handed

-- a stream has at most 18,079 pictures
abbrev pub decreases-loop-shown : goal.decreases-loop-shown
decreases-loop-shown l = 18080 - l.handed
