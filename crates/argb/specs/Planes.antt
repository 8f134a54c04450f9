-- The planes that the code takes, as a picture.
use Rattle.argb.specs.declared.planes.Planes.{Planes}
use Rattle.argb.specs.Scaled.{Picture, picture}

abbrev pub picture_of : Planes → Picture
picture_of p = picture p.width p.height p.luma_width p.y.now p.cr.now p.cb.now
