-- The rules by which a function's proof follows a program that may leave early. Assumes nothing.
use mathlib.Core.Path.{◌≡◌, refl, ap, sym}
use mathlib.Core.Bool.{Bool, true, false, cond, false≢true}
use mathlib.Core.List.{List}
use Prim.Native.Nat.{ℕ, zero, suc, ◌+◌}
use native.Mathlib.Omega.{arith}
use Rattle.laws.specs.Loops.{Step, continue, finish}
use Rattle.bits.specs.Programs.{Prog, done, bind, loop}
use Rattle.bits.specs.Runs.{Runs, reader_at}
use Rattle.bits.specs.declared.reader.Reader.{Reader}
use Rattle.bits.proofs.Rules.{Loops, loop-end, r-call, r-done, r-yes, r-no, r-for-on}
use Rattle.picture_state.specs.Result.{Result, ok, error, and_then, if_ok, bind_result, lift, for_below}
use Rattle.std.specs.Prelude.{Option, Some, None, is_some}
use Rattle.picture_state.specs.declared.types.StopMark.{StopMark}
use Rattle.picture_state.specs.declared.types.StopMark.TheVariants.{DcOutside, PredictionOutside}
use Rattle.picture_state.specs.Stop.{Cause, Stop, stop, error_code, stop_number}
use Rattle.picture_state.specs.Promises.{Exit, exit, result_of, numbered, numbered_step, RunsAs, RunsNumbered}

-- ---- a value that is told

module _ {A B : Type 0} {told : A → B} {s : List ℕ} {from : Reader} where
  pub t-done : {v : A} {w : B} → told v ≡ w → RunsAs told (done v) s from w from
  t-done {v} e = record { value = v; runs = r-done; is = e }

  pub t-yes : {t : Bool} {p : Prog A} (q : Prog A) {w : B} {to : Reader} → t ≡ true → RunsAs told p s from w to → RunsAs told (cond t p q) s from w to
  t-yes q h r = record { value = r.value; runs = r-yes q h r.runs; is = r.is }

  pub t-no : {t : Bool} (p : Prog A) {q : Prog A} {w : B} {to : Reader} → t ≡ false → RunsAs told q s from w to → RunsAs told (cond t p q) s from w to
  t-no p h r = record { value = r.value; runs = r-no p h r.runs; is = r.is }

  pub t_call : {C : Type 0} {p : Prog C} (f : C → Prog A) {v : C} {mid : Reader} {w : B} {to : Reader} → Runs p s from v mid → RunsAs told (f v) s mid w to
      → RunsAs told (bind p f) s from w to
  t_call f q r = record { value = r.value; runs = r-call f q r.runs; is = r.is }

-- from a reader that is at the place a
pub t-from_reader : {A B : Type 0} {told : A → B} {p : Prog A} {s : List ℕ} {from to : Reader} {a : ℕ} {w : B} → from ≡ reader_at a
    → RunsAs told p s from w to → RunsAs told p s (reader_at a) w to
t-from_reader e r = rw e at r

-- ---- what a number tells of a result

module _ {E A : Type 0} where
  abbrev is_ok : Result E A → Bool
  is_ok (ok x) = true
  is_ok (error e) = false

  abbrev value_or : A → Result E A → A
  value_or d (ok x) = x
  value_or d (error e) = d

  abbrev error_or : E → Result E A → E
  error_or d (ok x) = d
  error_or d (error e) = e

  pub error-is_not-ok : {e : E} {x : A} → ◌≡◌ {A = Result E A} (error e) (ok x) → ⊥
  error-is_not-ok h = false≢true (ap is_ok h)

  pub ok_injective : {x y : A} → ◌≡◌ {A = Result E A} (ok x) (ok y) → x ≡ y
  ok_injective {x} h = ap (value_or x) h

  pub error_injective : {d e : E} → ◌≡◌ {A = Result E A} (error d) (error e) → d ≡ e
  error_injective {d} h = ap (error_or d) h

-- a value is told as itself
pub numbered-ok : {A : Type 0} (v : Result Stop A) {x : A} → numbered v ≡ ok x → v ≡ ok x
numbered-ok (ok y) h = ap ok (ok_injective h)
numbered-ok (error e) h = absurd (error-is_not-ok h)

-- an error has a cause with this number, and this store
pub numbered-error : {A : Type 0} (v : Result Stop A) {n : ℕ} {l : List ℕ} → numbered v ≡ error (exit n l)
    → (c : Cause) × (v ≡ error (stop c l)) × (error_code c ≡ n)
numbered-error (ok y) h = absurd (error-is_not-ok (sym h))
numbered-error (error e) h =
    let q = error_injective h in
    (e.cause, ap (λ (l : List ℕ). error (stop e.cause l)) (ap (λ (x : Exit). x.store) q), ap (λ (x : Exit). x.number) q)

-- an error ends what follows
pub numbered_then : {A B : Type 0} (v : Result Stop A) (f : A → Result Stop B) {e : Exit} → numbered v ≡ error e → numbered (and_then v f) ≡ error e
unfolding and_then
numbered_then (ok y) f h = absurd (error-is_not-ok (sym h))
numbered_then (error d) f h = ap error (error_injective h)

-- ---- programs that may leave

module _ {A B : Type 0} {s : List ℕ} {from mid : Reader} where
  pub r-bind : {p : Prog (Result Stop A)} (f : A → Prog (Result Stop B)) {v : A} {w : Result Exit B} {to : Reader} → RunsNumbered p s from (ok v) mid
      → RunsNumbered (f v) s mid w to → RunsNumbered (bind_result p f) s from w to
  unfolding bind_result if_ok
  r-bind {p} f q r =
      let o : Runs p s from (ok _) mid = rw (numbered-ok q.value q.is) at q.runs in
      t_call (if_ok f) o r

  pub r_if-ok : {p : Prog (Result Stop A)} (f : A → Prog (Result Stop B)) {e : Exit} → RunsNumbered p s from (error e) mid
      → RunsNumbered (bind_result p f) s from (error e) mid
  unfolding bind_result if_ok
  r_if-ok {p} f {e} q = go q.value q.runs q.is
    where
      go : (v : Result Stop A) → Runs p s from v mid → numbered v ≡ error e → RunsNumbered (bind_result p f) s from (error e) mid
      go (ok x) r h = absurd (error-is_not-ok (sym h))
      go (error d) r h = t_call (if_ok f) r (t-done (ap error (error_injective h)))

  pub r-lift : {p : Prog A} (f : A → Prog (Result Stop B)) {v : A} {w : Result Exit B} {to : Reader} → Runs p s from v mid → RunsNumbered (f v) s mid w to
      → RunsNumbered (bind_result (lift p) f) s from w to
  unfolding lift
  r-lift f {v} q r = r-bind f (t_call _ q (t-done refl)) r

-- a loop that counts up: behind one step more, and where one has left
module _ {A : Type 0} {s : List ℕ} {from mid : Reader} (n : ℕ) (f : ℕ → A → Prog (Result Stop A)) (x : A) where
  pub r-for-bind : {y : A} {w : Result Exit A} {to : Reader} → RunsNumbered (for_below n f x) s from (ok y) mid → RunsNumbered (f n y) s mid w to
      → RunsNumbered (for_below (n + 1) f x) s from w to
  unfolding if_ok
  r-for-bind {y} q r =
      let o : Runs (for_below n f x) s from (ok y) mid = rw (numbered-ok q.value q.is) at q.runs in
      record { value = r.value; runs = r-for-on n (λ i. if_ok (f i)) (ok x) o r.runs; is = r.is }

  for-error : (d m : ℕ) → m ≡ n + d → {e : Stop} → Runs (for_below n f x) s from (error e) mid → Runs (for_below m f x) s from (error e) mid
  unfolding if_ok
  for-error zero m e q = let h : m ≡ n = omega arith in rw h q
  for-error (suc d) m e q =
      let h : m ≡ n + d + 1 = omega arith in
      rw h (r-for-on (n + d) (λ i. if_ok (f i)) (ok x) (for-error d (n + d) refl q) r-done)

  pub r-for_if-ok : (d m : ℕ) → m ≡ n + d → {e : Exit} → RunsNumbered (for_below n f x) s from (error e) mid
      → RunsNumbered (for_below m f x) s from (error e) mid
  r-for_if-ok d m k {e} q = go q.value q.runs q.is
    where
      go : (v : Result Stop A) → Runs (for_below n f x) s from v mid → numbered v ≡ error e → RunsNumbered (for_below m f x) s from (error e) mid
      go (ok x) r h = absurd (error-is_not-ok (sym h))
      go (error c) r h = record { value = error c; runs = for-error d m k r; is = h }

-- ---- loops

module _ {S A : Type 0} where
  abbrev goes_on : Step S A → Bool
  goes_on (continue x) = true
  goes_on (finish v) = false

  abbrev state_or : S → Step S A → S
  state_or d (continue x) = x
  state_or d (finish v) = d

  abbrev value_of : A → Step S A → A
  value_of d (continue x) = d
  value_of d (finish v) = v

  finish_continues : {x : S} {v : A} → ◌≡◌ {A = Step S A} (finish v) (continue x) → ⊥
  finish_continues h = false≢true (ap goes_on h)

-- a step that goes on is told as itself
pub step_continues : {S A : Type 0} {p : Prog (Step S (Result Stop A))} {s : List ℕ} {from to : Reader} {y : S}
    → RunsAs numbered_step p s from (continue y) to → Runs p s from (continue y) to
step_continues {S} {A} {p} {s} {from} {to} {y} r = go r.value r.runs r.is
  where
    go : (t : Step S (Result Stop A)) → Runs p s from t to → numbered_step t ≡ continue y → Runs p s from (continue y) to
    go (continue x) q e = let h : x ≡ y = ap (state_or x) e in rw h at q
    go (finish v) q e = absurd (finish_continues e)

-- one that does not ends the loop
pub loop-left : {S A : Type 0} {n : ℕ} {f : S → Prog (Step S (Result Stop A))} {d : Result Stop A} {x₀ : S} {s : List ℕ} {from₀ : Reader} {x : S}
    {from : Reader} {left : ℕ} {w : Result Exit A} {to : Reader}
    → Loops n f d x₀ s from₀ x from left → RunsAs numbered_step (f x) s from (finish w) to → RunsNumbered (loop n f d x₀) s from₀ w to
loop-left {S} {A} {n} {f} {d} {x₀} {s} {from₀} {x} {from} {left} {w} {to} l r = go r.value r.runs r.is
  where
    go : (t : Step S (Result Stop A)) → Runs (f x) s from t to → numbered_step t ≡ finish w → RunsNumbered (loop n f d x₀) s from₀ w to
    go (continue y) q e = absurd (finish_continues (sym e))
    go (finish v) q e = record { value = v; runs = loop-end l q; is = ap (value_of (numbered v)) e }

-- a mark's number is not 0, and 0 says that there is none
pub some-is-stop : (o : Option StopMark) → is_some o ≡ true → stop_number o ≡ 0 → ⊥
some-is-stop None h z = absurd (false≢true h)
some-is-stop (Some DcOutside) h z = absurd (omega arith)
some-is-stop (Some PredictionOutside) h z = absurd (omega arith)

pub none-goes-on : (o : Option StopMark) → is_some o ≡ false → stop_number o ≡ 0
none-goes-on None h = refl
none-goes-on (Some m) h = absurd (false≢true (sym h))

-- the way that a number tells
pub nonzero-is-error : {A : Type 0} {n : ℕ} (x : A) (l : List ℕ) → (n ≡ 0 → ⊥) → result_of n x l ≡ error (exit n l)
nonzero-is-error {n = zero} x l h = absurd (h refl)
nonzero-is-error {n = suc n} x l h = refl
