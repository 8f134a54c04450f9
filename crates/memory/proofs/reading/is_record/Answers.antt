use Rattle.std.proofs.Common.{sym, ◌∙◌}
use Rattle.memory.specs.Memory.{is_record}
use Rattle.memory.proofs.Room.{room}
use Rattle.memory.proofs.reading.is_record.Goals as goal

pub in_range-requires : goal.in_range-requires
in_range-requires c = (room _ (sym c.has_room.ensures ∙ c.if-has_room.true)).numbers

pub returns-then-has_room : goal.returns-then-has_room
unfolding is_record
returns-then-has_room c = rw (sym c.has_room.ensures ∙ c.if-has_room.true) c.in_range.ensures

pub returns-else-has_room : goal.returns-else-has_room
unfolding is_record
returns-else-has_room c = rw (sym c.has_room.ensures ∙ c.if-has_room.false) c.if-has_room.false
