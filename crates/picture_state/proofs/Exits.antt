-- What holds of the value of a program that may leave early: one rule for each form. Assumes nothing.
use mathlib.Core.List.{List}
use Prim.Native.Nat.{ℕ, ◌<◌}
use Rattle.bits.specs.Programs.{Prog}
use Rattle.bits.proofs.Gives.{Gives, g-done, g-bind, g-for}
use Rattle.picture_state.specs.Result.{Result, ok, error, and_then, if_ok, bind_result, lift, for_below}

-- a way goes on with P, or leaves with O
abbrev pub OnResult : {E A : Type 0} → (A → Type 0) → (E → Type 0) → Result E A → Type 0
OnResult P O (ok x) = P x
OnResult P O (error e) = O e

module _ {E : Type 0} (O : E → Type 0) where
  pub and_then-results : {A B : Type 0} (P : A → Type 0) (Q : B → Type 0) (w : Result E A) (f : A → Result E B) → OnResult P O w
      → ((x : A) → P x → OnResult Q O (f x))
      → OnResult Q O (and_then w f)
  unfolding and_then
  and_then-results P Q (ok x) f h k = k x h
  and_then-results P Q (error e) f h k = h

  pub results_as : {A : Type 0} {P Q : A → Type 0} → ((x : A) → P x → Q x) → (w : Result E A) → OnResult P O w → OnResult Q O w
  results_as k (ok x) h = k x h
  results_as k (error e) h = h

  pub bind-results : {s : List ℕ} {A B : Type 0} {P : A → Type 0} {Q : B → Type 0} {p : Prog (Result E A)} (f : A → Prog (Result E B))
      → Gives s (OnResult P O) p
      → ((x : A) → P x → Gives s (OnResult Q O) (f x)) → Gives s (OnResult Q O) (bind_result p f)
  unfolding bind_result if_ok
  bind-results {s} {A} {B} {P} {Q} f g k = g-bind (if_ok f) g go
    where
      go : (w : Result E A) → OnResult P O w → Gives s (OnResult Q O) (if_ok f w)
      go (ok x) h = k x h
      go (error e) h = g-done h

  pub lift-results : {s : List ℕ} {A B : Type 0} {P : A → Type 0} {Q : B → Type 0} {p : Prog A} (f : A → Prog (Result E B)) → Gives s P p
      → ((x : A) → P x → Gives s (OnResult Q O) (f x)) → Gives s (OnResult Q O) (bind_result (lift p) f)
  unfolding lift
  lift-results {P = P} f g k = bind-results {P = P} f (g-bind _ g (λ x h. g-done h)) k

  pub for-results : {s : List ℕ} {A : Type 0} {P : A → Type 0} (n : ℕ) (f : ℕ → A → Prog (Result E A))
      → ((i : ℕ) → i < n → (x : A) → P x → Gives s (OnResult P O) (f i x)) → {x : A} → P x → Gives s (OnResult P O) (for_below n f x)
  unfolding if_ok
  for-results {s} {A} {P} n f keeps h = g-for n (λ i. if_ok (f i)) go h
    where
      go : (i : ℕ) → i < n → (w : Result E A) → OnResult P O w → Gives s (OnResult P O) (if_ok (f i) w)
      go i k (ok x) h = keeps i k x h
      go i k (error e) h = g-done h
