-- What clearing a store leaves.
use mathlib.Core.Path.{◌≡◌, sym, ap, ◌∙◌}
use mathlib.Core.List.{List, ◌++◌}
use Prim.Native.Nat.{ℕ, ◌+◌, ◌≤◌}
use native.Mathlib.Omega.{arith}
use lib.ListN.{length, get_or, drop, replicate, length-replicate, length-drop, length-append}
use lib.Seq.{get_or-drop, get_or-append-add}
use Rattle.header.specs.Store.{cleared}

-- RULES O.4: what is cleared keeps its length, and later bytes stay
pub cleared-later : (n : ℕ) (l : List ℕ) (i : ℕ) → get_or (cleared n l) (n + i) 0 ≡ get_or l (n + i) 0
unfolding cleared
cleared-later n l i =
    ap (λ (m : ℕ). get_or (replicate n 0 ++ drop n l) (m + i) 0) (sym (length-replicate {A = ℕ} n 0))
    ∙ get_or-append-add (replicate n 0) (drop n l) i 0
    ∙ get_or-drop n l i 0

pub cleared-length : (n : ℕ) (l : List ℕ) → n ≤ length l → length (cleared n l) ≡ length l
unfolding cleared
cleared-length n l h = omega (arith, length-append (replicate n 0) (drop n l), length-replicate {A = ℕ} n 0, length-drop n l)
