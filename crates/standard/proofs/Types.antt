-- Table B.2: which flags a macroblock_type can have together. Assumes nothing.
use mathlib.Core.Path.{◌≡◌, refl, sym, ◌∙◌, subst}
use mathlib.Core.Bool.{Bool, true, false, cond, not, ◌&&◌, ◌||◌, false≢true}
use mathlib.Core.List.{List, [], ◌∷◌}
use Prim.Native.Nat.{ℕ}
use borrow.Author.Tests.{eqb-true}
use lib.Dec.{eqb}
use Rattle.laws.proofs.Tests.{both}
use Rattle.codes.specs.Standard.{Code, macroblock_type_intra_codes, macroblock_type_predictive_codes, macroblock_type_b_codes}
use Rattle.picture_state.specs.Flags.{flag}
use Rattle.standard.specs.Standard as S

-- a test that every row passes
abbrev all_rows : (ℕ → Bool) → List (Code ℕ) → Bool
all_rows p [] = true
all_rows p (c ∷ cs) = p c.value && all_rows p cs

row-passes : (p : ℕ → Bool) (codes : List (Code ℕ)) (t : ℕ) → all_rows p codes ≡ true → S.row_of codes t ≡ true → p t ≡ true
row-passes p [] t h e = absurd (false≢true e)
row-passes p (c ∷ cs) t h e = go (eqb c.value t) refl (λ a e. row-passes p cs t a e) e
  where
    u : (p c.value ≡ true) × (all_rows p cs ≡ true)
    u = both (p c.value) (all_rows p cs) h

    go : (b : Bool) → eqb c.value t ≡ b → (all_rows p cs ≡ true → S.row_of cs t ≡ true → p t ≡ true) → (b || S.row_of cs t) ≡ true → p t ≡ true
    go true q k e = subst (λ (n : ℕ). p n ≡ true) (eqb-true c.value t q) u.0
    go false q k e = k u.1 e

no : (b : Bool) → not b ≡ true → b ≡ false
no true e = absurd (false≢true e)
no false e = refl

-- an intra type has no other flag but macroblock_quant
abbrev alone : ℕ → Bool
alone t = not (flag t 1) || (not (flag t 8) && not (flag t 4) && not (flag t 2))

abbrev forwards : ℕ → Bool
forwards t = not (flag t 4)

in-table : (p : ℕ → Bool) (type t : ℕ) → all_rows p macroblock_type_intra_codes ≡ true → all_rows p macroblock_type_predictive_codes ≡ true
    → (eqb type 3 ≡ true → all_rows p macroblock_type_b_codes ≡ true)
    → S.in_table type t ≡ true → p t ≡ true
unfolding S.in_table
in-table p type t i q b e = go (eqb type 1) (eqb type 2) (eqb type 3) b e
  where
    go : (x y z : Bool) → (z ≡ true → all_rows p macroblock_type_b_codes ≡ true)
        → cond x (S.row_of macroblock_type_intra_codes t)
        (cond y (S.row_of macroblock_type_predictive_codes t) (cond z (S.row_of macroblock_type_b_codes t) false))
        ≡ true → p t ≡ true
    go true y z b e = row-passes p macroblock_type_intra_codes t i e
    go false true z b e = row-passes p macroblock_type_predictive_codes t q e
    go false false true b e = row-passes p macroblock_type_b_codes t (b refl) e
    go false false false b e = absurd (false≢true e)

pub intra-alone : (type t : ℕ) → S.in_table type t ≡ true → flag t 1 ≡ true → (flag t 8 ≡ false) × (flag t 4 ≡ false) × (flag t 2 ≡ false)
unfolding macroblock_type_intra_codes macroblock_type_predictive_codes macroblock_type_b_codes
intra-alone type t e h =
    let a = in-table alone type t refl refl (λ b. refl) e in
    let c : (not (flag t 8) && not (flag t 4) && not (flag t 2)) ≡ true = rw h at a in
    let d = both (not (flag t 8) && not (flag t 4)) (not (flag t 2)) c in
    let f = both (not (flag t 8)) (not (flag t 4)) d.0 in
    (no _ f.0, no _ f.1, no _ d.1)

-- only a B picture has macroblock_motion_backward
pub no-backward : (type t : ℕ) → S.in_table type t ≡ true → eqb type 3 ≡ false → flag t 4 ≡ false
unfolding macroblock_type_intra_codes macroblock_type_predictive_codes
no-backward type t e h = no _ (in-table forwards type t refl refl (λ b. absurd (false≢true (sym h ∙ b))) e)
