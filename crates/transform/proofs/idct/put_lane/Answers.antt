-- The eight stores, one after the other, are those of one row; a number is stored as it is.
use Rattle.std.proofs.Common.{◌≡◌, ℕ, ℤ, List, ◌+◌, ◌*◌, ap, ◌∙◌, rules}
use native.Mathlib.Nat.{add-zero, zero-mul, one-mul}
use lib.ListN.{set}
use mir.Syntax.{w32}
use Rattle.laws.specs.Stores.{store_row, store_rows}
use Rattle.laws.proofs.Ints.{reread}
use Rattle.transform.specs.declared.butterfly.Eight.{Eight}
use Rattle.transform.specs.Butterfly.{eight, nth}
use Rattle.transform.proofs.idct.put_lane.Goals as goal

abbrev stored : List ℤ → ℕ → ℕ → Eight → List ℤ
stored l s d e =
    let first = set (set (set (set l s e.v0) (s + d) e.v1) (s + 2 * d) e.v2) (s + 3 * d) e.v3 in
    set (set (set (set first (s + 4 * d) e.v4) (s + 5 * d) e.v5) (s + 6 * d) e.v6) (s + 7 * d) e.v7

stored_is : (l : List ℤ) (s d : ℕ) (e : Eight) → stored l s d e ≡ store_rows l s d 1 (λ k x. nth e k) 8
unfolding store_row store_rows
stored_is l s d e = simp (add-zero, zero-mul, one-mul)

-- the code holds a number as it is
abbrev IsHeld : ℤ → Type 0
IsHeld z = reread w32 z ≡ z

held : (e : Eight) → IsHeld e.v0 → IsHeld e.v1 → IsHeld e.v2 → IsHeld e.v3 → IsHeld e.v4 → IsHeld e.v5 → IsHeld e.v6 → IsHeld e.v7
    → ◌≡◌ {A = Eight} (eight (λ k. reread w32 (nth e k))) e
held e h0 h1 h2 h3 h4 h5 h6 h7 =
    λ i. record { v0 = h0 i; v1 = h1 i; v2 = h2 i; v3 = h3 i; v4 = h4 i; v5 = h5 i; v6 = h6 i; v7 = h7 i }

pub returns : goal.returns
returns c =
    let a = c.args in
    ap (stored a.block.now a.start a.step)
    (held a.e (search rules) (search rules) (search rules) (search rules) (search rules) (search rules) (search rules) (search rules))
    ∙ stored_is a.block.now a.start a.step a.e
