-- Entries of a code table. Assumes nothing.
use mathlib.Core.Path.{◌≡◌, refl}
use mathlib.Core.Bool.{false, true≢false}
use Prim.Native.Nat.{zero, suc, ◌<◌}
use native.Mathlib.Omega.{arith}
use lib.Dec.{T}
use lib.IntN.{ℤ, pos, negsuc, nat_abs}
use lib.Signed.{le_z, non_neg}

pub natural : (z : ℤ) → T (non_neg z) → z ≡ pos (nat_abs z)
natural (pos n) t = refl
natural (negsuc n) t = absurd t

-- an index above 0
pub above : (z : ℤ) → le_z z (pos 0) ≡ false → (z ≡ pos (nat_abs z)) × (0 < nat_abs z)
above (pos zero) e = absurd (true≢false e)
above (pos (suc n)) e = (refl, omega arith)
above (negsuc n) e = absurd (true≢false e)
