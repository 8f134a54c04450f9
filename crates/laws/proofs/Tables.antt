-- A rule of a table, proved at each of its entries by one test that is computed over the whole table.
use mathlib.Core.Path.{◌≡◌, refl, ◌∙◌, sym, subst}
use mathlib.Core.Bool.{Bool, true, false, ◌&&◌}
use mathlib.Core.List.{List, [], ◌∷◌}
use Prim.Native.Nat.{ℕ, zero, suc, ◌+◌, ◌<◌}
use native.Mathlib.Nat.{add-zero, zero-add, add-suc, suc-add, le_of_suc-le-suc, not-suc-le-zero}
use borrow.Author.Tests.{ltb-true, ltb-false}
use lib.Dec.{T, ltb}
use lib.ListN.{length, get_or, get_or-eq_default}
use mir.Facts.{and_yes}

module _ {A : Type 0} (f : ℕ → A → Bool) where
  -- the test f passes at each entry and its place, counted from i
  abbrev pub every : ℕ → List A → Bool
  every i [] = true
  every i (x ∷ xs) = f i x && every (suc i) xs

  from : (xs : List A) (d : A) (i : ℕ) → T (every i xs) → (k : ℕ) → k < length xs → T (f (i + k) (get_or xs k d))
  from [] d i t k h = absurd (not-suc-le-zero h)
  from (x ∷ xs) d i t zero h = subst (λ (m : ℕ). T (f m x)) (sym (add-zero i)) (and_yes (f i x) (every (suc i) xs) t).0
  from (x ∷ xs) d i t (suc k) h =
      subst (λ (m : ℕ). T (f m (get_or xs k d))) (suc-add i k ∙ sym (add-suc i k))
      (from xs d (suc i) (and_yes (f i x) (every (suc i) xs) t).1 k (le_of_suc-le-suc h))

  pub at : (xs : List A) (d : A) → T (every 0 xs) → (k : ℕ) → k < length xs → T (f k (get_or xs k d))
  at xs d t k h = subst (λ (m : ℕ). T (f m (get_or xs k d))) (zero-add k) (from xs d 0 t k h)

-- what each entry keeps, and the default too, is so at any place
pub anywhere : {A : Type 0} (P : A → Bool) (xs : List A) (d : A) → T (every (λ k x. P x) 0 xs) → T (P d) → (k : ℕ) → T (P (get_or xs k d))
anywhere {A} P xs d all none k = go (ltb k (length xs)) refl
  where
    go : (b : Bool) → ltb k (length xs) ≡ b → T (P (get_or xs k d))
    go true e = at (λ k x. P x) xs d all k (ltb-true _ _ e)
    go false e = subst (λ (x : A). T (P x)) (sym (get_or-eq_default xs d (ltb-false _ _ e))) none
