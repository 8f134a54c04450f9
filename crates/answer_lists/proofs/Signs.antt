-- A signed number that a callee gave.
use mathlib.Core.Path.{◌≡◌, ◌∙◌}
use Prim.Native.Nat.{◌^◌, ◌<◌}
use borrow.Author.Rules.{sfits_of}
use lib.IntN.{ℤ}
use lib.Signed.{mag}
use mir.Facts.{to_z-of_z}
use mir.Syntax.{w32}
use mir.Val.{hbits, of_z, to_z}

-- as the caller holds it
pub given : {x z : ℤ} → mag x < 2 ^ hbits w32 → x ≡ z → to_z w32 (of_z w32 x) ≡ z
given h e = to_z-of_z {w = w32} (sfits_of h) ∙ e
