-- Loops as definitions. The fuel is a constant that is more than any run needs.
use Rattle.std.specs.Prelude.{Bool, true, false, ℕ, zero, suc}

-- a step of a loop, which rules and comments call a turn: it continues with a state, or finishes with an answer
pub data Step (S A : Type 0) : Type 0 where
  continue : S → Step S A
  finish : A → Step S A

-- steps of f from x on until one finishes; with the fuel n spent, d of the state reached
unfoldable pub iterate : {S A : Type 0} → ℕ → (S → Step S A) → (S → A) → S → A
iterate zero f d x = d x
iterate (suc n) f d x = elim (f x) [ continue y ↦ iterate n f d y | finish v ↦ v ]

-- does one of the first n steps of f from x on finish?
unfoldable pub finishes : {S A : Type 0} → ℕ → (S → Step S A) → S → Bool
finishes zero f x = false
finishes (suc n) f x = elim (f x) [ continue y ↦ finishes n f y | finish v ↦ true ]
