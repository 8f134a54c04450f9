use Rattle.std.proofs.Common.{refl, arith}
use Rattle.memory.specs.Memory.{record_of}
use Rattle.memory.proofs.Fields.{short-at}
use Rattle.memory.proofs.Room.{roomed, record-ranged}
use Rattle.memory.proofs.reading.record_of.Goals as goal

pub bounds-numbers-0 : goal.bounds-numbers-0
bounds-numbers-0 c = omega (arith, (roomed _ c.requires).numbers)

pub sequence_in-sequence-requires : goal.sequence_in-sequence-requires
sequence_in-sequence-requires c = let r = roomed _ c.requires in (r.numbers, r.matrices)

pub picture_in-picture-requires : goal.picture_in-picture-requires
picture_in-picture-requires c = let r = roomed _ c.requires in (record-ranged _ c.requires, r.numbers, r.integers)

pub part_in-block_data-requires : goal.part_in-block_data-requires
part_in-block_data-requires c = (omega arith, (roomed _ c.requires).integers)

pub bounds-numbers-18 : goal.bounds-numbers-18
bounds-numbers-18 c = omega (arith, (roomed _ c.requires).numbers)

pub bounds-numbers-19 : goal.bounds-numbers-19
bounds-numbers-19 c = omega (arith, (roomed _ c.requires).numbers)

pub overflow_cast-display : goal.overflow_cast-display
overflow_cast-display c = omega (arith, short-at c.args.numbers.now (record-ranged _ c.requires) 19 refl)

pub bounds-numbers-20 : goal.bounds-numbers-20
bounds-numbers-20 c = omega (arith, (roomed _ c.requires).numbers)

pub overflow_cast-result : goal.overflow_cast-result
overflow_cast-result c = omega (arith, short-at c.args.numbers.now (record-ranged _ c.requires) 20 refl)

pub clock_in-requires : goal.clock_in-requires
clock_in-requires c = (roomed _ c.requires).clock

pub returns : goal.returns
unfolding record_of
returns c = rw (c.sequence_in-sequence.ensures, c.picture_in-picture.ensures, c.part_in-block_data.ensures, c.clock_in.ensures)
