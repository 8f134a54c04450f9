-- RULES part 9: the picture in a store, and the area that it is converted into.
use Rattle.std.specs.Prelude.{Bool, ◌&&◌, List, ℕ, ◌*◌, leb, length}
use borrow.Rule.Slice.PartMut.{mid_of}
use Rattle.prediction.specs.declared.planes.Plane.{Plane}
use Rattle.prediction.specs.declared.planes.Plane.TheVariants.{Y, Cr, Cb}
use Rattle.prediction.specs.Planes.{plane_length, plane_start}
use Rattle.argb.specs.Scaled as Argb
use Rattle.header.specs.declared.state.Sequence.{Sequence}

-- RULES 9.1, 9.2: the picture in the store number k
abbrev pub picture_in : Sequence → List ℕ → ℕ → Argb.Picture
picture_in q l k =
    let n = q.sizes.mb_size in
    let plane : Plane → List ℕ = λ p. mid_of (plane_start k p n) (plane_length p n) l in
    Argb.picture q.width q.height (q.sizes.mb_width * 16) (plane Y) (plane Cr) (plane Cb)

-- RULES Q11, QE
abbrev pub fits : ℕ → ℕ → List ℕ → Bool
fits w h a = leb w 4096 && leb h 4096 && leb (w * h) (length a)
