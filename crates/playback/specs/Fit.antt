-- What the turns ask and keep: bounds that follow from question 2 (RULES Q2).
use Rattle.std.specs.Prelude.{◌≡◌, true, List, ℕ, ◌*◌, ◌≤◌, ℤ}
use Rattle.bits.specs.Bounds.{last_position}
use Rattle.codes.specs.Matrices.{Bounded}
use Rattle.picture_state.specs.declared.types.{Picture.Picture, Sizes.Sizes}
use Rattle.picture_state.specs.Possible.{PossiblePicture}
use Rattle.playback.specs.declared.state.{Display.Display, State.State}
use Rattle.playback.specs.State.{position, possible_display}

-- of the sizes, the place, the picture, the left-over coefficients and what is shown
pub record Fit (z : Sizes) (a : ℕ) (p : Picture) (c : List ℤ) (v : Display) : Type 0 where
  pub position : a ≤ last_position
  pub across : z.mb_width ≤ 256
  pub down : z.mb_height ≤ 256
  pub size : z.mb_size ≡ z.mb_width * z.mb_height
  pub picture : PossiblePicture p
  pub block : Bounded c
  pub display : possible_display v ≡ true

abbrev pub FitState : Sizes → State → List ℤ → Type 0
FitState z x c = Fit z (position x) x.picture c x.display
