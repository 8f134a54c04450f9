-- A picture's header keeps a possible state possible. Assumes nothing.
use mathlib.Core.Bool.{Bool}
use mathlib.Core.List.{List}
use Prim.Native.Nat.{ℕ, ◌≤◌, ◌<◌}
use native.Mathlib.Omega.{arith}
use lib.Dec.{eqb}
use Rattle.bits.proofs.Gives.{Gives, g-done, g_any, g-bind, g_if, g-bits}
use Rattle.laws.proofs.Tests.{by-case}
use Rattle.picture_state.specs.declared.types.{Motion.Motion, Picture.Picture}
use Rattle.picture.specs.Pictures.{Direction, absent, present, PictureHeader, direction, picture_header, motion_by, with_picture_header}
use Rattle.picture_state.specs.Possible.{PossibleMotion, PossiblePicture}
use Rattle.picture_state.proofs.Kept.{motions-kept}

-- the f code of a direction has three bits
abbrev DirectionFits : Direction → Type 0
DirectionFits absent = Unit {0}
DirectionFits (present full f) = f < 8

-- and so has the type
pub record HeaderFits (h : PictureHeader) : Type 0 where
  type : h.picture_coding_type ≤ 7
  forward : DirectionFits h.forward
  backward : DirectionFits h.backward

module _ {s : List ℕ} where
  direction-fits : (here : Bool) → Gives s DirectionFits (direction here)
  unfolding direction
  direction-fits here = g_if here (λ e. g-bind _ (g-bits 1) (λ full i. g-bind _ (g-bits 3) (λ f j. g-done j))) (λ e. g-done tt)

  pub header-fits : Gives s HeaderFits picture_header
  unfolding picture_header
  header-fits =
      g-bind _ (g_any _) (λ temporal u. g-bind _ (g-bits 3) (λ type i. g-bind _ (g_any _) (λ delay u.
      g-bind _ (direction-fits _) (λ f j. g-bind _ (direction-fits _) (λ b k. g-done (record { type = omega arith; forward = j; backward = k }))))))

motion-by : {m : Motion} (d : Direction) → DirectionFits d → PossibleMotion m → PossibleMotion (motion_by d m)
motion-by absent h k = k
motion-by (present full f) h k =
    by-case PossibleMotion (eqb f 0) (λ e. record { size = k.size; h = k.h; v = k.v }) (λ e. record { size = omega arith; h = k.h; v = k.v })

pub headed-possible : {p : Picture} {h : PictureHeader} → PossiblePicture p → HeaderFits h → PossiblePicture (with_picture_header h p)
headed-possible {h = h} k i = record {
  type = i.type;
  code = k.code;
  stores = k.stores;
  slice = motions-kept k.slice (motion-by h.forward i.forward k.slice.forward) (motion-by h.backward i.backward k.slice.backward);
}
