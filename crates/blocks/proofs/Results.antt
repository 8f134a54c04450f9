-- The results of a block, by whether it has its first coefficient alone, and whether it is intra. Assumes nothing.
use mathlib.Core.Path.{◌≡◌, refl, sym, ◌∙◌}
use mathlib.Core.Bool.{true, false}
use mathlib.Core.List.{List}
use Prim.Native.Nat.{ℕ}
use borrow.Author.Tests.{eq-eqb, ne_eqb}
use lib.IntN.{ℤ, pos}
use lib.ListN.{get_or}
use Rattle.laws.specs.Signed.{clamp255}
use Rattle.laws.proofs.Tests.{if_yes, if_no}
use Rattle.coefficients.specs.declared.quantiser.Quantiser.{Quantiser}
use Rattle.coefficients.specs.Blocks.{BlockCoefficients}
use Rattle.transform.specs.Idct.{idct, dc_only}
use Rattle.prediction.specs.Writers.{set_const, overwrite, add_const, add_block}
use Rattle.blocks.specs.Blocks.{results}

module _ (q : Quantiser) (f : BlockCoefficients) (di dw : ℕ) (d : List ℕ) {r : List ℕ} where
  module _ (one : f.n ≡ 1) {first : ℤ} (is : first ≡ dc_only (get_or f.coefficients 0 (pos 0))) where
    pub first_intra : q.intra ≡ true → {byte : ℕ} → byte ≡ clamp255 first → r ≡ set_const d di dw byte → r ≡ results q f di dw d
    unfolding results
    first_intra i b e = e ∙ rw (b, is) (sym (if_yes _ (eq-eqb f.n 1 one) (if_yes _ i refl)))

    pub first-other : q.intra ≡ false → r ≡ add_const d di dw first → r ≡ results q f di dw d
    unfolding results
    first-other i e = e ∙ rw is (sym (if_yes _ (eq-eqb f.n 1 one) (if_no _ i refl)))

  module _ (more : f.n ≡ 1 → ⊥) {values : List ℤ} (are : values ≡ idct f.coefficients) where
    pub all_intra : q.intra ≡ true → r ≡ overwrite d di dw values → r ≡ results q f di dw d
    unfolding results
    all_intra i e = e ∙ rw are (sym (if_no _ (ne_eqb f.n 1 more) (if_yes _ i refl)))

    pub all-other : q.intra ≡ false → r ≡ add_block d di dw values → r ≡ results q f di dw d
    unfolding results
    all-other i e = e ∙ rw are (sym (if_no _ (ne_eqb f.n 1 more) (if_no _ i refl)))
