use Rattle.std.proofs.Common.{refl, arith}
use Rattle.memory.proofs.Fields.{short-at}
use Rattle.memory.proofs.reading.picture_in.Goals as goal

pub overflow_cast-result : goal.overflow_cast-result
overflow_cast-result c = omega (arith, short-at c.args.numbers.now c.requires.0 7 refl)

pub overflow_cast-slice : goal.overflow_cast-slice
overflow_cast-slice c = omega (arith, short-at c.args.numbers.now c.requires.0 11 refl)

pub motion_in-requires : goal.motion_in-requires
motion_in-requires c = (omega arith, short-at c.args.numbers.now c.requires.0 14 refl, omega arith)

pub motion_in-requires-2 : goal.motion_in-requires-2
motion_in-requires-2 c = (omega arith, short-at c.args.numbers.now c.requires.0 17 refl, omega arith)
