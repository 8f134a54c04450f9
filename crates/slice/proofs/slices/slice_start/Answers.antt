use Rattle.std.proofs.Common.{arith}
use Rattle.slice.proofs.SliceLoop.{rows, rows_fit, start_fits, start_is}
use Rattle.slice.proofs.slices.slice_start.Goals as goal

pub overflow_mul-address : goal.overflow_mul-address
overflow_mul-address c = omega (arith, rows c.args.number c.args.g.sizes.mb_width c.requires.le_number.1 c.requires.mb_width_bound)

pub overflow_cast-address : goal.overflow_cast-address
overflow_cast-address c = rows_fit c.args.number c.args.g.sizes.mb_width c.requires.le_number.1 c.requires.mb_width_bound

pub overflow_sub-address-2 : goal.overflow_sub-address-2
overflow_sub-address-2 c = start_fits c.args.number c.args.g.sizes.mb_width c.requires.le_number.1 c.requires.mb_width_bound

pub returns : goal.returns
returns c =
    rw (start_is c.args.number c.args.g.sizes.mb_width c.requires.le_number.1 c.requires.mb_width_bound, c.zeroed.ensures, c.zeroed-2.ensures)
