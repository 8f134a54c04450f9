-- The planes as they are cut are those of the picture.
use Rattle.conversion.proofs.Planes.{picture-whole}
use Rattle.conversion.proofs.pictures.write_picture.Goals as goal

pub invariant_of-planes : goal.invariant_of-planes
invariant_of-planes c =
    let q = c.requires in
    record {
      fit =
          rw (c.plane-y.ensures, c.plane-cr.ensures, c.plane-cb.ensures)
          (picture-whole c.args.q c.args.store.now c.args.index q.has_header q.mb_size_in_bounds q.index_bound.0);
    }
