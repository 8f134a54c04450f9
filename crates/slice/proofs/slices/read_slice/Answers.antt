-- The scale and the extra bytes are read, and the macroblocks are those of the definition's loop.
use Rattle.picture_state.specs.Result.{ok}
use Rattle.picture_state.specs.State.{slice_state}
use Rattle.picture_state.specs.Promises.{matrices_in}
use Rattle.slice.proofs.SliceLoop.{start-awaits, slice-runs}
use Rattle.slice.proofs.slices.read_slice.Goals as goal

pub returns : goal.returns
returns c =
    let a = c.args in
    let w = c.read_macroblocks.ensures.passed (ok (slice_state a.state a.values.now a.store.now)) in
    record {
      runs = slice-runs c.requires.read_invariant c.requires.store_fits a.number c.requires.le_number.1 c.read-q.ensures c.skip_extra-from.ensures
          (matrices_in a.tables.now) c.slice_start-start.ensures w.runs;
      reads = w.reads;
      store_fits = w.store_fits;
    }

pub read_macroblocks-requires : goal.read_macroblocks-requires
read_macroblocks-requires c =
    let r = c.requires in
    record {
      increment_invariant =
          rw c.slice_start-start.ensures
          (start-awaits r.read_invariant r.store_fits c.args.number r.le_number.1 c.read-q.ensures c.skip_extra-from.ensures);
    }
