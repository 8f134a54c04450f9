-- Computed: an exact result that is no whole number, nor one of 256ths. A lone 1 in row 1, column 1 gives (473/256 - 1) ^ 2 there, over 256.
use mathlib.Core.Path.{◌≡◌, refl}
use mathlib.Core.List.{◌∷◌, ◌++◌}
use Prim.Native.Nat.{◌*◌}
use lib.IntN.{pos}
use lib.ListN.{replicate}
use Rattle.transform.specs.Exact.{exact_result}

pub exact-of-one : exact_result (replicate 9 (pos 0) ++ (pos 1 ∷ replicate 54 (pos 0))) 1 1 ≡ pos (217 * 217)
exact-of-one = refl
