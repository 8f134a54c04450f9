-- RULES Q2: what the conversion asks of a header.
use Rattle.std.specs.Prelude.{◌≡◌, ◌*◌, ◌≤◌}
use Rattle.header.specs.declared.state.Sequence.{Sequence}
use Rattle.header.specs.Possible.{across}

-- a picture with at least one sample, and the sizes that follow from its width and height
pub record HasHeader (q : Sequence) : Type 0 where
  pub wide : (1 ≤ q.width) × (q.width ≤ 4095)
  pub high : (1 ≤ q.height) × (q.height ≤ 4095)
  pub columns : q.sizes.mb_width ≡ across q.width
  pub rows : q.sizes.mb_height ≡ across q.height
  pub size : q.sizes.mb_size ≡ q.sizes.mb_width * q.sizes.mb_height
