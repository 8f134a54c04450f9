-- What holds of a program's value wherever in a stream it runs: one rule for each form of a program. Assumes nothing.
use mathlib.Core.Path.{◌≡◌, refl, subst}
use mathlib.Core.Bool.{Bool, true, false, cond}
use mathlib.Core.List.{List}
use Prim.Native.Nat.{ℕ, zero, suc, ◌+◌, ◌^◌, ◌<◌}
use native.Mathlib.Omega.{arith}
use lib.Dec.{leb}
use lib.ListN.{get_or}
use lib.IntN.{pos, negsuc}
use lib.Pow.{pow_pos}
use lib.Signed.{le_z}
use borrow.Author.Tests.{le-leb}
use Rattle.laws.specs.Loops.{Step, continue, finish}
use Rattle.laws.proofs.Tests.{by-case}
use Rattle.bits.specs.Bits.{Found, has, read_at, found, boundary}
use Rattle.bits.specs.Programs.{Prog, RunResult, done, run, bind, bits, read_at_most32, next_start_code, for_below, continue_with, loop}
use Rattle.bits.specs.Runs.{Runs, position_of}
use Rattle.bits.specs.declared.reader.Reader.{Reader}
use Rattle.bits.proofs.Bits.{bits_lt}
use Rattle.bits.proofs.Programs.{run_bind}
use Rattle.bits.proofs.Start.{Searched, first, none, found-is-first}

-- run from any place of s on, p gives a value of which P holds
pub record Gives {A : Type 0} (s : List ℕ) (P : A → Type 0) (p : Prog A) : Type 0 where
  pub value : (a : ℕ) → P (run p s a).value

-- so it holds of the value of each run
pub given_by : {A : Type 0} {s : List ℕ} {P : A → Type 0} {p : Prog A} {from to : Reader} {v : A} → Gives s P p → Runs p s from v to → P v
given_by {A} {P = P} {from = from} g r = subst (λ (o : RunResult A). P o.value) r.is (g.value (position_of from))

-- what a turn that ended at the place e leaves: I of its state, or P of its answer
abbrev pub Leaves : {S A : Type 0} → (S → ℕ → Type 0) → (A → Type 0) → Step S A → ℕ → Type 0
Leaves I P (continue x) e = I x e
Leaves I P (finish v) e = P v

-- the same with no regard to the place
abbrev pub OnStep : {S A : Type 0} → (S → Type 0) → (A → Type 0) → Step S A → Type 0
OnStep I P (continue x) = I x
OnStep I P (finish v) = P v

-- a loop keeps an invariant of state and place
module _ {S A : Type 0} (s : List ℕ) (I : S → ℕ → Type 0) (P : A → Type 0) (f : S → Prog (Step S A)) (d : A)
    (keeps : (x : S) (a : ℕ) → I x a → Leaves I P (run (f x) s a).value (run (f x) s a).at) (last : P d) where
  pub loop-value : (n : ℕ) (x : S) (a : ℕ) → I x a → P (run (loop n f d x) s a).value
  unfolding run loop
  loop-value zero x a i = last
  loop-value (suc n) x a i =
      rw (run_bind (f x) (continue_with (loop n f d)) s a) (go (run (f x) s a).value (run (f x) s a).at (keeps x a i) (λ y e. loop-value n y e))
    where
      go : (t : Step S A) (e : ℕ) → Leaves I P t e → ((y : S) (e : ℕ) → I y e → P (run (loop n f d y) s e).value)
          → P (run (continue_with (loop n f d) t) s e).value
      go (continue y) e h k = k y e h
      go (finish v) e h k = h

-- n bits, and the 0 of a read that is refused
pub got_lt : (s : List ℕ) (a n : ℕ) → read_at s a n < 2 ^ n
unfolding read_at
got_lt s a n = by-case (λ v. v < 2 ^ n) (has s a n) (λ e. bits_lt s a n) (λ e. pow_pos n)

module _ {s : List ℕ} where
  pub g-done : {A : Type 0} {P : A → Type 0} {x : A} → P x → Gives s P (done x)
  unfolding run
  g-done h = record { value = λ a. h }

  pub g_any : {A : Type 0} (p : Prog A) → Gives s (λ x. Unit {0}) p
  g_any p = record { value = λ a. tt }

  pub g_as : {A : Type 0} {P Q : A → Type 0} {p : Prog A} → ((x : A) → P x → Q x) → Gives s P p → Gives s Q p
  g_as k g = record { value = λ a. k _ (g.value a) }

  -- what is given only if H is so
  pub g_when : {A : Type 0} (H : Type 0) {P : A → Type 0} {p : Prog A} → (H → Gives s P p) → Gives s (λ x. H → P x) p
  g_when H g = record { value = λ a h. (g h).value a }

  pub g-bind : {A B : Type 0} {P : A → Type 0} {Q : B → Type 0} {p : Prog A} (f : A → Prog B) → Gives s P p
      → ((x : A) → P x → Gives s Q (f x)) → Gives s Q (bind p f)
  g-bind {p = p} f g k = record { value = λ a. rw (run_bind p f s a) ((k (run p s a).value (g.value a)).value (run p s a).at) }

  pub g_if : {A : Type 0} {P : A → Type 0} (b : Bool) {p q : Prog A} → (b ≡ true → Gives s P p) → (b ≡ false → Gives s P q)
      → Gives s P (cond b p q)
  g_if {P = P} b g h = by-case (Gives s P) b g h

  pub g-for : {A : Type 0} {P : A → Type 0} (n : ℕ) (f : ℕ → A → Prog A) → ((i : ℕ) → i < n → (x : A) → P x → Gives s P (f i x)) → {x : A} → P x
      → Gives s P (for_below n f x)
  unfolding for_below
  g-for zero f keeps h = g-done h
  g-for (suc n) f keeps h = g-bind (f n) (g-for n f (λ i k. keeps i (omega arith)) h) (keeps n (omega arith))

  pub g-loop : {S A : Type 0} {P : A → Type 0} (I : S → Type 0) (n : ℕ) (f : S → Prog (Step S A)) (d : A)
      → ((x : S) → I x → Gives s (OnStep I P) (f x)) → P d → (x : S) → I x → Gives s P (loop n f d x)
  g-loop {S} {A} {P} I n f d keeps last x i =
      record { value = λ a. loop-value s (λ y e. I y) P f d (λ y e j. go (run (f y) s e).value (run (f y) s e).at ((keeps y j).value e)) last n x a i }
    where
      go : (t : Step S A) (e : ℕ) → OnStep I P t → Leaves (λ y e. I y) P t e
      go (continue y) e h = h
      go (finish v) e h = h

  pub g-bits : (n : ℕ) → Gives s (λ v. v < 2 ^ n) (bits n)
  unfolding run
  g-bits n = record { value = λ a. got_lt s a n }

  -- the same of a read, which refuses more than 32 bits
  pub g-reads : (n : ℕ) → Gives s (λ v. v < 2 ^ n) (read_at_most32 n)
  g-reads n = g_if (leb n 32) (λ e. g-bits n) (λ e. g-done (pow_pos n))

  -- a start code of a stream of bytes, or -1
  pub g-start : ((k : ℕ) → get_or s k 0 < 256) → Gives s (λ c. (le_z (negsuc 0) c ≡ true) × (le_z c (pos 255) ≡ true)) next_start_code
  unfolding run
  g-start bytes = record { value = λ a. go a (found s a) (found-is-first s a) }
    where
      go : (a : ℕ) (f : Found) → Searched s (boundary a) f → (le_z (negsuc 0) f.code ≡ true) × (le_z f.code (pos 255) ≡ true)
      go a f (first p w q) = rw q (refl, le-leb (get_or s (p + 3) 0) 255 (omega (arith, bytes (p + 3))))
      go a f (none w q) = rw q (refl, refl)
