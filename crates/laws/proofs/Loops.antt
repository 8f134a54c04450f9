-- Fuel loops: what a turn does, and that fuel beyond what a run needs changes nothing.
use mathlib.Core.Path.{◌≡◌, refl, sym, ap, ◌∙◌}
use mathlib.Core.Bool.{true, false≢true}
use Prim.Native.Nat.{ℕ, zero, suc, ◌≤◌, ◌<◌}
use native.Mathlib.Omega.{arith}
use Rattle.laws.specs.Loops.{Step, continue, finish, iterate, finishes}

module _ {S A : Type 0} (f : S → Step S A) where
  -- one turn
  pub steps-again : (n : ℕ) (d : S → A) (x y : S) → f x ≡ continue y → iterate (suc n) f d x ≡ iterate n f d y
  unfolding iterate
  steps-again n d x y e = ap (λ (t : Step S A). elim t [ continue z ↦ iterate n f d z | finish v ↦ v ]) e

  pub steps-stop : (n : ℕ) (d : S → A) (x : S) (v : A) → f x ≡ finish v → iterate (suc n) f d x ≡ v
  unfolding iterate
  steps-stop n d x v e = ap (λ (t : Step S A). elim t [ continue z ↦ iterate n f d z | finish u ↦ u ]) e

  stops-again : (n : ℕ) (x y : S) → f x ≡ continue y → finishes (suc n) f x ≡ finishes n f y
  unfolding finishes
  stops-again n x y e = ap (λ (t : Step S A). elim t [ continue z ↦ finishes n f z | finish v ↦ true ]) e

  stops-stop : (n : ℕ) (x : S) (v : A) → f x ≡ finish v → finishes (suc n) f x ≡ true
  unfolding finishes
  stops-stop n x v e = ap (λ (t : Step S A). elim t [ continue z ↦ finishes n f z | finish u ↦ true ]) e

  stops-zero : (x : S) → finishes 0 f x ≡ true → ⊥
  unfolding finishes
  stops-zero x e = false≢true e

  -- two runs from one state that both stop give the same answer, whatever their fuel and what they would give with it spent
  same_answer : (n m : ℕ) (d e : S → A) (x : S) → finishes n f x ≡ true → finishes m f x ≡ true → iterate n f d x ≡ iterate m f e x
  same_answer zero m d e x p q = absurd (stops-zero x p)
  same_answer (suc n) zero d e x p q = absurd (stops-zero x q)
  same_answer (suc n) (suc m) d e x p q = go (f x) refl (λ y. same_answer n m d e y)
    where
      go : (t : Step S A) → f x ≡ t → ((y : S) → finishes n f y ≡ true → finishes m f y ≡ true → iterate n f d y ≡ iterate m f e y)
          → iterate (suc n) f d x ≡ iterate (suc m) f e x
      go (continue y) r k =
          steps-again n d x y r ∙ k y (sym (stops-again n x y r) ∙ p) (sym (stops-again m x y r) ∙ q) ∙ sym (steps-again m e x y r)
      go (finish v) r k = steps-stop n d x v r ∙ sym (steps-stop m e x v r)

  -- a run that stops does so with more fuel, too
  still-stops : (n m : ℕ) (x : S) → n ≤ m → finishes n f x ≡ true → finishes m f x ≡ true
  still-stops zero m x h p = absurd (stops-zero x p)
  still-stops (suc n) zero x h p = let z : ⊥ = omega arith in absurd z
  still-stops (suc n) (suc m) x h p = go (f x) refl (λ y. still-stops n m y (omega arith))
    where
      go : (t : Step S A) → f x ≡ t → ((y : S) → finishes n f y ≡ true → finishes m f y ≡ true) → finishes (suc m) f x ≡ true
      go (continue y) r k = stops-again m x y r ∙ k y (sym (stops-again n x y r) ∙ p)
      go (finish v) r k = stops-stop m x v r

  -- a run that stops before its fuel is spent gives the same with more fuel
  pub more-fuel : (n m : ℕ) (d e : S → A) (x : S) → n ≤ m → finishes n f x ≡ true → iterate n f d x ≡ iterate m f e x
  more-fuel n m d e x h p = same_answer n m d e x p (still-stops n m x h p)

  -- a measure that falls at each turn that goes on, as long as P holds, and P is kept
  module _ (P : S → Type 0) (μ : S → ℕ) (falls : (x y : S) → P x → f x ≡ continue y → P y × (μ y < μ x)) where
    pub ends : (n : ℕ) (x : S) → P x → μ x < n → finishes n f x ≡ true
    ends zero x p h = let z : ⊥ = omega arith in absurd z
    ends (suc n) x p h = go (f x) refl (λ y. ends n y)
      where
        go : (t : Step S A) → f x ≡ t → ((y : S) → P y → μ y < n → finishes n f y ≡ true) → finishes (suc n) f x ≡ true
        go (continue y) r k = let w = falls x y p r in stops-again n x y r ∙ k y w.0 (omega arith)
        go (finish v) r k = stops-stop n x v r

    -- enough fuel is enough: more changes nothing
    pub enough-fuel : (n m : ℕ) (d e : S → A) (x : S) → P x → μ x < n → μ x < m → iterate n f d x ≡ iterate m f e x
    enough-fuel n m d e x p h k = same_answer n m d e x (ends n x p h) (ends m x p k)
