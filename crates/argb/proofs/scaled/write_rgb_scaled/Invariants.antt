-- The rows before ty are made.
use Rattle.argb.specs.Planes.{picture_of}
use Rattle.argb.proofs.Rows.{Written}
use Rattle.argb.proofs.scaled.write_rgb_scaled.Given as goal

abbrev pub invariant-loop-ty : goal.invariant-loop-ty
invariant-loop-ty l = Written (picture_of l.planes) l.dst_w l.dst_h l.initial.dst l.row l.dst l.shown l.ty
