-- On by 1, or over the skipped macroblocks; the next address is read back from 32 bits.
use Rattle.std.proofs.Common.{nat_abs, ap, arith}
use Rattle.macroblock.proofs.Advancing.{
  skip-address,
  skip-motions,
  reaches,
  next-read,
  next_cast,
  skip-room,
  advance-one,
  advance-refused,
  advance-on,
}
use Rattle.macroblock.proofs.later.advance.Goals as goal

pub returns-then-n-lt2 : goal.returns-then-n-lt2
returns-then-n-lt2 c =
    let a = c.args in
    let r = c.requires in
    advance-one a.g a.n a.state r.store_fits r.possible_slice r.n_value c.if-n-lt2.true c.address_plus-next.ensures

pub overflow_cast-first : goal.overflow_cast-first
overflow_cast-first c =
    let a = c.args in
    let r = c.requires in
    rw (next-read a.g a.n a.state r.store_fits r.possible_slice r.n_value c.address_plus-next.ensures)
    (next_cast a.g a.n a.state r.store_fits r.possible_slice r.n_value)

pub predict_skipped-requires-clause-n_bound : goal.predict_skipped-requires-clause-n_bound
predict_skipped-requires-clause-n_bound c =
    let a = c.args in
    let r = c.requires in
    rw (next-read a.g a.n a.state r.store_fits r.possible_slice r.n_value c.address_plus-next.ensures)
    (skip-room a.g a.n a.state r.store_fits r.possible_slice r.n_value c.if-n-lt2.false)

pub predict_skipped-requires-clause-possible_motions : goal.predict_skipped-requires-clause-possible_motions
predict_skipped-requires-clause-possible_motions c = rw c.skip_reset-skipped.ensures (skip-motions c.args.g c.args.state c.requires.possible_slice)

pub returns-in_default : goal.returns-in_default
returns-in_default c =
    let a = c.args in
    let r = c.requires in
    advance-refused a.g a.n a.state r.store_fits r.possible_slice r.n_value c.if-n-lt2.false c.skip_reset-skipped.ensures
    (ap nat_abs (next-read a.g a.n a.state r.store_fits r.possible_slice r.n_value c.address_plus-next.ensures)) c.predict_skipped.ensures c.in_default.is

pub address_plus-here-requires : goal.address_plus-here-requires
address_plus-here-requires c =
    let a = c.args in
    let r = c.requires in
    rw (c.skip_reset-skipped.ensures, skip-address a.g a.state) (reaches a.g a.n a.state r.store_fits r.possible_slice r.n_value (omega arith))

pub returns : goal.returns
returns c =
    let a = c.args in
    let r = c.requires in
    advance-on a.g a.n a.state r.store_fits r.possible_slice r.n_value c.if-n-lt2.false c.skip_reset-skipped.ensures
    (ap nat_abs (next-read a.g a.n a.state r.store_fits r.possible_slice r.n_value c.address_plus-next.ensures)) c.predict_skipped.ensures c.in-Ok.is
    c.address_plus-here.ensures
