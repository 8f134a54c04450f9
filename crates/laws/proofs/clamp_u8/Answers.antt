-- `clamp` brings n into the bounds, and `clamp255` is its number without the sign.
use Rattle.std.proofs.Common.{◌≡◌, ℤ, pos, arith, ap, ◌∙◌}
use Rattle.std.proofs.lemmas.Int.{ints, clamps}
use Rattle.std.specs.Int.{int_max, int_min}
use borrow.Author.Rules.{sfits_of}
use lib.IntN.{negsuc, nat_abs}
use mir.Facts.{to_z-of_z}
use mir.Syntax.{w32}
use Rattle.laws.specs.Signed.{clamp255}
use Rattle.laws.proofs.clamp_u8.Goals as goal

clamped : (z : ℤ) → nat_abs (int_max (pos 0) (int_min z (pos 255))) ≡ clamp255 z
unfolding clamp255
clamped (pos n) = omega (arith, ints, clamps)
clamped (negsuc n) = omega (arith, ints, clamps)

pub returns : goal.returns
returns c =
    ap nat_abs (to_z-of_z {w = w32} (sfits_of c.clamp.type_inv) ∙ rw (to_z-of_z c.ranges.n) at c.clamp.ensures.value)
    ∙ clamped c.args.n
