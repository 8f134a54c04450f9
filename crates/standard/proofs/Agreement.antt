-- What it means that the standard's run and ours agree, with a rule for each form of a program. Where the standard's run ends with `forbidden`, nothing is
-- said of ours. Assumes nothing.
use mathlib.Core.Path.{◌≡◌, refl, sym, ap, ◌∙◌, subst}
use mathlib.Core.Bool.{Bool, true, false, cond, true≢false, false≢true}
use mathlib.Core.List.{List}
use Prim.Native.Nat.{ℕ, zero, suc, ◌<◌}
use native.Mathlib.Omega.{arith}
use Rattle.laws.specs.Loops.{Step, continue, finish}
use Rattle.bits.specs.Bits.{has, read_at}
use Rattle.bits.specs.Programs.{Prog, RunResult, done, run, bind, loop, continue_with}
use Rattle.bits.specs.Programs as Programs
use Rattle.bits.proofs.Programs.{run_bind}
use Rattle.picture_state.specs.Result.{Result, ok, error, if_ok, bind_result, lift, from_result, pure, for_below}
use Rattle.picture_state.specs.Stop.{Stop}
use Rattle.picture_state.proofs.Runs.{run_lift}
use Rattle.standard.specs.Standard.Prelude.{Forbidden, forbidden, conforms, shall, table_code}

-- of what steps that read nothing give
abbrev pub ResultMeets : {A B : Type 0} → (A → B → Type 0) → Result Forbidden A → Result Stop B → Type 0
ResultMeets R (ok x) (ok y) = R x y
ResultMeets R (ok x) (error d) = ⊥
ResultMeets R (error d) y = Unit {0}

-- of what the standard's alone give
abbrev pub ResultIs : {A : Type 0} → (A → Type 0) → Result Forbidden A → Type 0
ResultIs P (ok x) = P x
ResultIs P (error d) = Unit {0}

-- of what two runs give, and the places where they end
abbrev pub Meets : {A B : Type 0} → (A → B → Type 0) → Result Forbidden A → ℕ → Result Stop B → ℕ → Type 0
Meets R (ok x) e (ok y) g = (e ≡ g) × R x y
Meets R (ok x) e (error d) g = ⊥
Meets R (error d) e y g = Unit {0}

-- p is the standard's, q ours
pub record Agree {A B : Type 0} (R : A → B → Type 0) (s : List ℕ) (a : ℕ) (p : Prog (Result Forbidden A)) (q : Prog (Result Stop B)) : Type 0 where
  pub is : Meets R (run p s a).value (run p s a).at (run q s a).value (run q s a).at

-- ---- runs that agree

module _ {A B : Type 0} {R : A → B → Type 0} {s : List ℕ} {a : ℕ} where
  pub a-pure : {x : A} {y : B} → R x y → Agree R s a (pure x) (pure y)
  unfolding run
  a-pure h = record { is = (refl, h) }

  pub a-step : (w : Result Forbidden A) (u : Result Stop B) → ResultMeets R w u → Agree R s a (from_result w) (from_result u)
  unfolding run
  a-step (ok x) (ok y) h = record { is = (refl, h) }
  a-step (ok x) (error d) h = absurd h
  a-step (error d) u h = record { is = tt }

  -- from what the two runs give
  pub a-by : {p : Prog (Result Forbidden A)} {q : Prog (Result Stop B)} (o : RunResult (Result Forbidden A)) (u : RunResult (Result Stop B)) → run p s a ≡ o
      → run q s a ≡ u
      → Meets R o.value o.at u.value u.at → Agree R s a p q
  a-by o u d e h = record { is = rw (d, e) h }

  -- runs that are the same
  pub a-same : {p : Prog (Result Forbidden A)} {q r : Prog (Result Stop B)} → run q s a ≡ run r s a → Agree R s a p q → Agree R s a p r
  a-same {p} e h = record { is = subst (λ (o : RunResult (Result Stop B)). Meets R (run p s a).value (run p s a).at o.value o.at) e h.is }

module _ {A B C D : Type 0} {R : A → B → Type 0} {Q : C → D → Type 0} {s : List ℕ} where
  pub a-bind : {a : ℕ} {p : Prog (Result Forbidden A)} {q : Prog (Result Stop B)} (f : A → Prog (Result Forbidden C)) (g : B → Prog (Result Stop D))
      → Agree R s a p q
      → ((x : A) (y : B) (e : ℕ) → R x y → Agree Q s e (f x) (g y)) → Agree Q s a (bind_result p f) (bind_result q g)
  unfolding bind_result if_ok run
  a-bind {a} {p} {q} f g h k =
      a-by _ _ (run_bind p (if_ok f) s a) (run_bind q (if_ok g) s a) (go (run p s a).value (run p s a).at (run q s a).value (run q s a).at h.is)
    where
      go : (x : Result Forbidden A) (e : ℕ) (y : Result Stop B) (i : ℕ) → Meets R x e y i
          → Meets Q (run (if_ok f x) s e).value (run (if_ok f x) s e).at (run (if_ok g y) s i).value (run (if_ok g y) s i).at
      go (ok x) e (ok y) i m = subst (λ (j : ℕ). Meets Q (run (f x) s e).value (run (f x) s e).at (run (g y) s j).value (run (g y) s j).at) m.0
          (k x y e m.1).is
      go (ok x) e (error d) i m = absurd m
      go (error d) e y i m = tt

-- the same program read by both
module _ {A C D : Type 0} {Q : C → D → Type 0} {s : List ℕ} {a : ℕ} where
  pub a-lift : (p q : Prog A) (f : A → Prog (Result Forbidden C)) (g : A → Prog (Result Stop D)) → run p s a ≡ run q s a
      → Agree Q s (run p s a).at (f (run p s a).value) (g (run p s a).value) → Agree Q s a (bind_result (lift p) f) (bind_result (lift q) g)
  a-lift p q f g e h =
      a-by _ _ (run_lift p f s a) (run_lift q g s a ∙ ap (λ (o : RunResult A). run (g o.value) s o.at) (sym e)) h.is

-- a rule of the standard
module _ {C D : Type 0} {Q : C → D → Type 0} {s : List ℕ} {a : ℕ} where
  pub a-shall : (b : Bool) (f : Unit {0} → Prog (Result Forbidden C)) {q : Prog (Result Stop D)} → (b ≡ true → Agree Q s a (f tt) q)
      → Agree Q s a (bind_result (shall b) f) q
  unfolding bind_result if_ok bind run
  a-shall true f h = h refl
  a-shall false f h = record { is = tt }

-- a code of a table, which ours reads unseen
module _ {A C D : Type 0} {Q : C → D → Type 0} {s : List ℕ} {a : ℕ} where
  pub a-code : (n : ℕ) (t : ℕ → Bool) (p q : Prog A) (f : A → Prog (Result Forbidden C)) (g : A → Prog (Result Stop D)) → run p s a ≡ run q s a
      → Agree Q s (run p s a).at (f (run p s a).value) (g (run p s a).value) → Agree Q s a (bind_result (table_code n t p) f) (bind_result (lift q) g)
  unfolding bind_result if_ok bind run
  a-code n t p q f g e h = record { is = go (has s a n) }
    where
      x : ℕ
      x = read_at s a n

      shalls : Bool → Prog (Result Forbidden A)
      shalls b = bind (shall b) (if_ok (λ u. lift p))

      theirs : Prog (Result Forbidden A) → Prog (Result Forbidden C)
      theirs r = bind r (if_ok f)

      Same : Prog (Result Forbidden C) → Type 0
      Same r = Meets Q (run r s a).value (run r s a).at (run (bind_result (lift q) g) s a).value (run (bind_result (lift q) g) s a).at

      yes-no : (b : Bool) → Same (theirs (shalls b))
      yes-no true = (a-lift p q f g e h).is
      yes-no false = tt

      go : (b : Bool) → Same (theirs (bind (cond b (pure x) (done forbidden)) (if_ok (λ x. shalls (t x)))))
      go true = yes-no (t x)
      go false = tt

-- ---- loops in step

-- R i holds before the step with the number i
pub a-for : {A B : Type 0} {s : List ℕ} (R : ℕ → A → B → Type 0) (n : ℕ) (f : ℕ → A → Prog (Result Forbidden A)) (g : ℕ → B → Prog (Result Stop B))
    → ((i : ℕ) → i < n → (x : A) (y : B) (a : ℕ) → R i x y → Agree (R (suc i)) s a (f i x) (g i y))
    → {x : A} {y : B} {a : ℕ} → R 0 x y → Agree (R n) s a (for_below n f x) (for_below n g y)
unfolding Programs.for_below bind_result
a-for R zero f g steps r = a-pure r
a-for R (suc n) f g steps r = a-bind (f n) (g n) (a-for R n f g (λ i h. steps i (omega arith)) r) (λ x y e r. steps n (omega arith) x y e r)

abbrev pub StepMeets : {S T A B : Type 0} → (S → T → Type 0) → (A → B → Type 0) → Step S (Result Forbidden A) → ℕ → Step T (Result Stop B) → ℕ → Type 0
StepMeets I R (continue x) e (continue y) i = (e ≡ i) × I x y
StepMeets I R (continue x) e (finish v) i = ⊥
StepMeets I R (finish (ok v)) e (continue y) i = ⊥
StepMeets I R (finish (ok v)) e (finish w) i = Meets R (ok v) e w i
StepMeets I R (finish (error d)) e y i = Unit {0}

module _ {S T A B : Type 0} (I : S → T → Type 0) (R : A → B → Type 0) (s : List ℕ) (f : S → Prog (Step S (Result Forbidden A)))
    (g : T → Prog (Step T (Result Stop B))) (d : Result Stop B)
    (turns : (x : S) (y : T) (a : ℕ) → I x y → StepMeets I R (run (f x) s a).value (run (f x) s a).at (run (g y) s a).value (run (g y) s a).at) where
  pub a-loop : (n : ℕ) (x : S) (y : T) (a : ℕ) → I x y → Agree R s a (loop n f forbidden x) (loop n g d y)
  unfolding loop run
  a-loop zero x y a i = record { is = tt }
  a-loop (suc n) x y a i =
      a-by _ _ (run_bind (f x) (continue_with (loop n f forbidden)) s a) (run_bind (g y) (continue_with (loop n g d)) s a)
      (go (run (f x) s a).value (run (f x) s a).at (run (g y) s a).value (run (g y) s a).at (turns x y a i) (λ x y a i. a-loop n x y a i))
    where
      go : (t : Step S (Result Forbidden A)) (e : ℕ) (u : Step T (Result Stop B)) (j : ℕ) → StepMeets I R t e u j
          → ((x : S) (y : T) (a : ℕ) → I x y → Agree R s a (loop n f forbidden x) (loop n g d y))
          → Meets R (run (continue_with (loop n f forbidden) t) s e).value (run (continue_with (loop n f forbidden) t) s e).at
          (run (continue_with (loop n g d) u) s j).value
          (run (continue_with (loop n g d) u) s j).at
      go (continue x) e (continue y) j m k =
          subst (λ (z : ℕ). Meets R (run (loop n f forbidden x) s e).value (run (loop n f forbidden x) s e).at (run (loop n g d y) s z).value
          (run (loop n g d y) s z).at) m.0 (k x y e m.1).is
      go (continue x) e (finish v) j m k = absurd m
      go (finish (ok v)) e (continue y) j m k = absurd m
      go (finish (ok v)) e (finish w) j m k = m
      go (finish (error d)) e u j m k = tt

-- ---- ours, step by step

module _ {A B : Type 0} (p : Prog A) (k : A → Prog B) (s : List ℕ) (a : ℕ) where
  pub lift-bind : ◌≡◌ {A = RunResult (Result Stop B)} (run (lift (bind p k)) s a) (run (bind_result (lift p) (λ x. lift (k x))) s a)
  unfolding lift
  lift-bind =
      run_bind (bind p k) _ s a ∙ ap (λ (o : RunResult B). run (done (ok o.value)) s o.at) (run_bind p k s a)
      ∙ sym (run_bind (k (run p s a).value) _ s (run p s a).at)
      ∙ sym (run_lift p (λ x. lift (k x)) s a)

module _ {A B C : Type 0} (p : Prog A) (k : A → Prog B) (f : B → Prog (Result Stop C)) (s : List ℕ) (a : ℕ) where
  pub lift-bind-on : run (bind_result (lift (bind p k)) f) s a ≡ run (bind_result (lift p) (λ x. bind_result (lift (k x)) f)) s a
  lift-bind-on =
      run_lift (bind p k) f s a ∙ ap (λ (o : RunResult B). run (f o.value) s o.at) (run_bind p k s a)
      ∙ sym (run_lift (k (run p s a).value) f s (run p s a).at)
      ∙ sym (run_lift p (λ x. bind_result (lift (k x)) f) s a)

-- ---- a weaker relation

pub a_as : {A B : Type 0} {R Q : A → B → Type 0} {s : List ℕ} {a : ℕ} {p : Prog (Result Forbidden A)} {q : Prog (Result Stop B)}
    → ((x : A) (y : B) → R x y → Q x y)
    → Agree R s a p q → Agree Q s a p q
a_as {A} {B} {R} {Q} {s} {a} {p} {q} k h = record { is = go (run p s a).value (run p s a).at (run q s a).value (run q s a).at h.is }
  where
    go : (x : Result Forbidden A) (e : ℕ) (y : Result Stop B) (i : ℕ) → Meets R x e y i → Meets Q x e y i
    go (ok x) e (ok y) i m = (m.0, k x y m.1)
    go (ok x) e (error d) i m = m
    go (error d) e y i m = tt

-- ---- what the standard makes of a value at the end

pub a-after : {A B C : Type 0} {R : A → B → Type 0} {Q : C → B → Type 0} {s : List ℕ} {a : ℕ} {p : Prog (Result Forbidden A)} {q : Prog (Result Stop B)}
    (f : A → C)
    → Agree R s a p q → ((x : A) (y : B) → R x y → Q (f x) y) → Agree Q s a (bind_result p (λ x. pure (f x))) q
unfolding bind_result if_ok run
a-after {A} {B} {C} {R} {Q} {s} {a} {p} {q} f h k = a-by _ _ (run_bind p (if_ok (λ x. pure (f x))) s a) refl
    (go (run p s a).value (run p s a).at (run q s a).value (run q s a).at h.is)
  where
    go : (x : Result Forbidden A) (e : ℕ) (y : Result Stop B) (i : ℕ) → Meets R x e y i
        → Meets Q (run (if_ok (λ x. pure (f x)) x) s e).value (run (if_ok (λ x. pure (f x)) x) s e).at y i
    go (ok x) e (ok y) i m = (m.0, k x y m.1)
    go (ok x) e (error d) i m = absurd m
    go (error d) e y i m = tt

-- ---- what an agreement says

abbrev from_on : {A : Type 0} → A → Result Forbidden A → A
from_on d (ok x) = x
from_on d (error e) = d

module _ {A B : Type 0} {R : A → B → Type 0} {s : List ℕ} {a : ℕ} {p : Prog (Result Forbidden A)} {q : Prog (Result Stop B)} (h : Agree R s a p q) where
  -- where the standard's run gives x, ours goes on with a y that fits, and ends at the same place
  pub agreed : {x : A} → (run p s a).value ≡ ok x → (y : B) × (run q s a ≡ record { value = ok y; at = (run p s a).at }) × R x y
  agreed {x} e = go (run p s a).value (run q s a).value (run q s a).at refl h.is e
    where
      go : (w : Result Forbidden A) (u : Result Stop B) (i : ℕ) → run q s a ≡ record { value = u; at = i } → Meets R w (run p s a).at u i → w ≡ ok x
          → (y : B) × (run q s a ≡ record { value = ok y; at = (run p s a).at }) × R x y
      go (ok z) (ok y) i o m e =
          (y, o ∙ ap (λ (j : ℕ). record { value = ok y; at = j }) (sym m.0), subst (λ (z : A). R z y) (ap (from_on x) e) m.1)
      go (ok z) (error d) i o m e = absurd m
      go (error d) u i o m e = absurd (false≢true (ap conforms e))

  -- where ours leaves early, the stream does not conform
  pub left-forbidden : (d : Stop) → (run q s a).value ≡ error d → conforms (run p s a).value ≡ false
  left-forbidden d e = go (run p s a).value (run q s a).value h.is e
    where
      go : (w : Result Forbidden A) (u : Result Stop B) → Meets R w (run p s a).at u (run q s a).at → u ≡ error d → conforms w ≡ false
      go (ok x) (ok y) m e = absurd (true≢false (ap conforms e))
      go (ok x) (error d) m e = absurd m
      go (error d) u m e = refl
