-- The rules by which a function's proof follows its program: one for each form, applied in the order of the code.
-- Assumes nothing.
use mathlib.Core.Path.{◌≡◌, refl, ap, sym, ◌∙◌}
use mathlib.Core.Bool.{Bool, true, false, cond, not, ◌&&◌, ◌||◌}
use mathlib.Core.Logic.{◌⊎◌, ⊎_elim}
use mathlib.Core.List.{List}
use Prim.Native.Nat.{ℕ, suc, ◌+◌, ◌-◌, ◌*◌, ◌≤◌, ◌<◌}
use native.Mathlib.Omega.{arith}
use borrow.Author.Tests.{eq-eqb, ne_eqb, lt-ltb, le-ltb, le-leb, lt-leb}
use lib.ListN.{length}
use lib.IntN.{ℤ, negsuc}
use lib.Dec.{leb, eqb}
use Rattle.laws.specs.Loops.{Step, continue, finish}
use Rattle.bits.specs.Bounds.{longest_stream}
use Rattle.bits.specs.Bits.{Found, bits_at, has, read_at, after_read, found, boundary}
use Rattle.bits.specs.Programs.{Prog, done, peek_bits, RunResult, run, bind, bits, skips, read_at_most32, non_zero, next_start_code, for_below, continue_with}
use Rattle.bits.specs.Programs.{loop}
use Rattle.bits.specs.Programs.{eq_z, find_step, find_start_code}
use Rattle.bits.specs.Runs.{RunsAt, Runs, ReaderInBounds, RunsInBounds, position_of, reader_at, advanced_by, bits_left}
use Rattle.bits.specs.declared.reader.Reader.{Reader}
use Rattle.bits.proofs.Start.{Searched, first, none, found-is-first}
use Rattle.bits.proofs.Programs.{run_bind, run-most, served-got, served-next, refused-got, refused-next}

-- ---- over readers, and over places

module _ {A : Type 0} {p : Prog A} {s : List ℕ} where
  pub r-made : {from to : Reader} {v : A} → RunsAt p s (position_of from) v (position_of to) → Runs p s from v to
  r-made r = record { is = r.is }

  pub r-at : {from to : Reader} {v : A} → Runs p s from v to → RunsAt p s (position_of from) v (position_of to)
  r-at r = record { is = r.is }

pub at_done : {A : Type 0} {s : List ℕ} {a : ℕ} {v : A} → RunsAt (done v) s a v a
unfolding run
at_done = record { is = refl }

-- what a program gives from a place on
pub at-run : {A : Type 0} {p : Prog A} {s : List ℕ} {a : ℕ} → RunsAt p s a (run p s a).value (run p s a).at
at-run = record { is = refl }

pub at_call : {A B : Type 0} {s : List ℕ} {a : ℕ} {p : Prog A} (f : A → Prog B) {v : A} {e : ℕ} {w : B} {g : ℕ}
    → RunsAt p s a v e → RunsAt (f v) s e w g → RunsAt (bind p f) s a w g
at_call {s = s} {a} {p} f q r =
    record { is = run_bind p f s a ∙ ap (λ (o : RunResult _). run (f o.value) s o.at) q.is ∙ r.is }

pub at-yes : {A : Type 0} {s : List ℕ} {a : ℕ} {t : Bool} {p : Prog A} (q : Prog A) {v : A} {e : ℕ} → t ≡ true → RunsAt p s a v e
    → RunsAt (cond t p q) s a v e
at-yes q h r = rw h r

pub at-no : {A : Type 0} {s : List ℕ} {a : ℕ} {t : Bool} (p : Prog A) {q : Prog A} {v : A} {e : ℕ} → t ≡ false → RunsAt q s a v e
    → RunsAt (cond t p q) s a v e
at-no p h r = rw h r

pub at_bits : {s : List ℕ} {a n v e : ℕ} → v ≡ read_at s a n → e ≡ after_read s a n → RunsAt (bits n) s a v e
unfolding run
at_bits p q = record { is = rw (p, q) refl }

-- two runs of one program end alike
pub at_same : {A : Type 0} {p : Prog A} {s : List ℕ} {a : ℕ} {v w : A} {e g : ℕ} → RunsAt p s a v e → RunsAt p s a w g → (v ≡ w) × (e ≡ g)
at_same {A} r q = let o = sym r.is ∙ q.is in (ap (λ (x : RunResult A). x.value) o, ap (λ (x : RunResult A). x.at) o)

pub at_as : {A : Type 0} {p : Prog A} {s : List ℕ} {a : ℕ} {v w : A} {e g : ℕ} → RunsAt p s a v e → v ≡ w → e ≡ g → RunsAt p s a w g
at_as r h k = record { is = r.is ∙ λ i. record { value = h i; at = k i } }

-- ---- one rule for each form of a program

pub r-done : {A : Type 0} {s : List ℕ} {from : Reader} {v : A} → Runs (done v) s from v from
r-done = r-made at_done

pub r-call : {A B : Type 0} {s : List ℕ} {from : Reader} {p : Prog A} (f : A → Prog B) {v : A} {mid : Reader} {w : B} {to : Reader}
    → Runs p s from v mid → Runs (f v) s mid w to → Runs (bind p f) s from w to
r-call f q r = r-made (at_call f (r-at q) (r-at r))

pub r-yes : {A : Type 0} {s : List ℕ} {from : Reader} {t : Bool} {p : Prog A} (q : Prog A) {v : A} {to : Reader} → t ≡ true → Runs p s from v to
    → Runs (cond t p q) s from v to
r-yes q h r = rw h r

pub r-no : {A : Type 0} {s : List ℕ} {from : Reader} {t : Bool} (p : Prog A) {q : Prog A} {v : A} {to : Reader} → t ≡ false → Runs q s from v to
    → Runs (cond t p q) s from v to
r-no p h r = rw h r

-- a loop that counts up: before its first step, and behind one more
pub r-for : {A : Type 0} {s : List ℕ} {from : Reader} (f : ℕ → A → Prog A) {x : A} → Runs (for_below 0 f x) s from x from
unfolding for_below
r-for f = r-done

pub r-for-on : {A : Type 0} {s : List ℕ} {from : Reader} (n : ℕ) (f : ℕ → A → Prog A) (x : A) {y z : A} {mid to : Reader}
    → Runs (for_below n f x) s from y mid → Runs (f n y) s mid z to → Runs (for_below (n + 1) f x) s from z to
unfolding for_below
r-for-on n f x q r = let e : n + 1 ≡ suc n = omega arith in rw e (r-call (f n) q r)

-- the value of a run
pub r-value : {A : Type 0} {p : Prog A} {s : List ℕ} {from to : Reader} {v : A} → Runs p s from v to → (run p s (position_of from)).value ≡ v
r-value {A} r = ap (λ (o : RunResult A). o.value) r.is

-- a run whose value is made of that of p: what p gives, where it ends, and that the value is made of it
pub r_inner : {A B : Type 0} {p : Prog A} (f : A → B) {s : List ℕ} {from to : Reader} {w : B} → Runs (bind p (λ x. done (f x))) s from w to
    → (v : A) × Runs p s from v to × (f v ≡ w)
unfolding run
r_inner {A} {B} {p} f {s} {from} {to} {w} r =
    let o : ◌≡◌ {A = RunResult B} (record { value = f v; at = (run p s (position_of from)).at }) (record { value = w; at = position_of to })
    = sym (run_bind p (λ x. done (f x)) s (position_of from)) ∙ r.is in (
      v,
      record { is = ap (λ (k : ℕ). record { value = v; at = k }) (ap (λ (u : RunResult B). u.at) o) },
      ap (λ (u : RunResult B). u.value) o,
    )
  where
    v : A
    v = (run p s (position_of from)).value

-- what the reader's own proofs show
pub is-bits : {s : List ℕ} {from to : Reader} {n v : ℕ} → v ≡ read_at s (position_of from) n → position_of to ≡ after_read s (position_of from) n
    → Runs (bits n) s from v to
is-bits p q = r-made (at_bits p q)

pub is-skips : {s : List ℕ} {from to : Reader} {n : ℕ} → position_of to ≡ after_read s (position_of from) n → Runs (skips n) s from tt to
unfolding run
is-skips q = record { is = rw q refl }

pub at-start : {s : List ℕ} {a e : ℕ} {c : ℤ} → found s a ≡ record { code = c; at = e } → RunsAt next_start_code s a c e
unfolding run
at-start q = record { is = rw q refl }

pub is-start : {s : List ℕ} {from to : Reader} {c : ℤ} → found s (position_of from) ≡ record { code = c; at = position_of to }
    → Runs next_start_code s from c to
is-start q = r-made (at-start q)

-- a read of up to 32 bits is not refused for its count
pub r-reads : {s : List ℕ} {from to : Reader} {v : ℕ} (n : ℕ) → n ≤ 32 → Runs (read_at_most32 n) s from v to → Runs (bits n) s from v to
r-reads n h r = rw (le-leb n 32 h) at r

-- whether bits are there and not all 0, from what a read of them gives
looked : {s : List ℕ} {from to : Reader} (n v : ℕ) → Runs (bits n) s from v to
    → Runs (peek_bits n (λ h x. done (h && not (eqb x 0)))) s from (not (eqb v 0)) from
unfolding run read_at
looked {s} {from} n v r = record { is = rw (seen (has s (position_of from) n) (sym (r-value r))) }
  where
    seen : (h : Bool) → v ≡ cond h (bits_at s (position_of from) n) 0 → (h && not (eqb (cond h (bits_at s (position_of from) n) 0) 0)) ≡ not (eqb v 0)
    seen true q = rw q
    seen false q = rw q

refused : {s : List ℕ} {from to : Reader} {v : ℕ} → Runs (done 0) s from v to → Runs (done false) s from (not (eqb v 0)) from
unfolding run
refused {v = v} r =
    let q : 0 ≡ v = r-value r in
    record { is = rw (← q) }

pub is-non_zero : {s : List ℕ} {from to : Reader} {v : ℕ} (n : ℕ) → Runs (read_at_most32 n) s from v to → Runs (non_zero n) s from (not (eqb v 0)) from
is-non_zero {s} {from} {to} {v} n = go (leb n 32)
  where
    go : (t : Bool) → Runs (cond t (bits n) (done 0)) s from v to → Runs (cond t (peek_bits n (λ h x. done (h && not (eqb x 0)))) (done false)) s from
        (not (eqb v 0)) from
    go true r = looked n v r
    go false r = refused r

-- a search that gives a code has passed its four bytes
pub r-start-past : {s : List ℕ} {from to : Reader} {k : ℤ} → Runs next_start_code s from k to → (k ≡ negsuc 0 → ⊥)
    → position_of from + 32 ≤ position_of to
unfolding run
r-start-past {s} {from} {to} {k} r g = go (found s a) (found-is-first s a) (r-value r) (ap (λ (o : RunResult ℤ). o.at) r.is)
  where
    a : ℕ
    a = position_of from

    go : (f : Found) → Searched s (boundary a) f → f.code ≡ k → f.at ≡ position_of to → a + 32 ≤ position_of to
    go f (first p w q) x y = omega (arith, w.from, ap (λ (h : Found). h.at) q)
    go f (none w q) x y = absurd (g (sym x ∙ ap (λ (h : Found). h.code) q))

-- ---- bounds

-- a run stays within the bounds of the position
pub r-most : {A : Type 0} {p : Prog A} {s : List ℕ} {from to : Reader} {v : A} → Runs p s from v to → ReaderInBounds s from → ReaderInBounds s to
r-most {p = p} {s} {from} r i =
    record { position = rw r.is at (run-most p s (position_of from) longest_stream i.position i.stream); stream = i.stream }

-- so what began inside ends inside
pub reading : {A : Type 0} {p : Prog A} {s : List ℕ} {from to : Reader} {v : A} → ReaderInBounds s from → Runs p s from v to → RunsInBounds p s from v to
reading i r = record { runs = r; inside = r-most r i }

-- what the reader's own proofs show of bits that are there, and of bits that are not
pub bits-there : {s : List ℕ} {from to : Reader} {n v : ℕ} → ReaderInBounds s from → position_of from + n ≤ length s * 8
    → v ≡ bits_at s (position_of from) n → position_of to ≡ position_of from + n → RunsInBounds (bits n) s from v to
bits-there i h p q = reading i (is-bits (p ∙ sym (served-got _ _ _ h)) (q ∙ sym (served-next _ _ _ h)))

pub bits-refused : {s : List ℕ} {from : Reader} {n : ℕ} → ReaderInBounds s from → length s * 8 < position_of from + n
    → RunsInBounds (bits n) s from 0 from
bits-refused i h = reading i (is-bits (sym (refused-got _ _ _ h)) (sym (refused-next _ _ _ h)))

pub reads-bits : {s : List ℕ} {from to : Reader} {n v : ℕ} → n ≤ 32 → RunsInBounds (bits n) s from v to → RunsInBounds (read_at_most32 n) s from v to
reads-bits h r = record { runs = r-yes _ (le-leb _ _ h) r.runs; inside = r.inside }

-- a run from a reader that is at the place a
pub from_reader : {A : Type 0} {p : Prog A} {s : List ℕ} {from to : Reader} {a : ℕ} {v : A} → from ≡ reader_at a → Runs p s from v to
    → Runs p s (reader_at a) v to
from_reader e r = rw e at r

-- at the beginning of a stream
pub first-inside : {s : List ℕ} {from : Reader} → from ≡ reader_at 0 → length s ≤ longest_stream → ReaderInBounds s from
first-inside e h = rw e (record { position = omega arith; stream = h })

-- n bits on, where they are there
pub on-inside : {s : List ℕ} {from to : Reader} (n : ℕ) → ReaderInBounds s from → position_of from + n ≤ length s * 8 → to ≡ advanced_by n from
    → ReaderInBounds s to
on-inside n i h e = rw e (record { position = omega (arith, i.stream); stream = i.stream })

-- ---- a run behind another

-- p from the reader `from` on gives what q gives from `to` on
pub record Follows {A : Type 0} (p : Prog A) (s : List ℕ) (from : Reader) (q : Prog A) (to : Reader) : Type 0 where
  pub same : run p s (position_of from) ≡ run q s (position_of to)

module _ {A : Type 0} {p : Prog A} {s : List ℕ} {from : Reader} where
  pub f-start : Follows p s from p from
  f-start = record { same = refl }

  -- n bits on
  pub f-on : {q : Prog A} {to : Reader} (n : ℕ) → to ≡ advanced_by n from → run p s (position_of from) ≡ run q s (position_of from + n) → Follows p s from q to
  f-on n e h = rw e (record { same = h })

  pub f-end : {q : Prog A} {mid to : Reader} {v : A} → Follows p s from q mid → Runs q s mid v to → Runs p s from v to
  f-end l r = record { is = l.same ∙ r.is }

  -- behind the first of two
  pub f-call : {B : Type 0} {q : Prog B} (f : B → Prog A) {mid to : Reader} {v : B} → Follows p s from (bind q f) mid → Runs q s mid v to
      → Follows p s from (f v) to
  f-call {B} {q} f {mid} l r =
      record { same = l.same ∙ run_bind q f s (position_of mid) ∙ ap (λ (o : RunResult B). run (f o.value) s o.at) r.is }

-- a turn from the place a to e that goes on has taken a bit of a stream of m bits
abbrev pub Takes : {S A : Type 0} → ℕ → ℕ → Step S A → ℕ → Type 0
Takes m a (continue y) e = (a < e) × (a < m)
Takes m a (finish v) e = Unit {0}

-- so fewer bits are left behind it
pub takes-less : {S A : Type 0} (f : S → Prog (Step S A)) {s : List ℕ}
    → ((x : S) (a : ℕ) → Takes (length s * 8) a (run (f x) s a).value (run (f x) s a).at)
    → {x y : S} {from to : Reader} → Runs (f x) s from (continue y) to → bits_left s to < bits_left s from
takes-less f h {x} {from = from} r = let t = rw r.is at (h x (position_of from)) in omega arith

-- a loop in the middle: with the state x at the reader `from` it still gives what the whole loop gives, and has fuel for `left` turns more
pub record Loops {S A : Type 0} (n : ℕ) (f : S → Prog (Step S A)) (d : A) (x₀ : S) (s : List ℕ) (from₀ : Reader) (x : S) (from : Reader)
    (left : ℕ) : Type 0 where
  pub fuel : ℕ
  pub enough : left < fuel
  pub rest : Follows (loop n f d x₀) s from₀ (loop fuel f d x) from

pub loop-start : {S A : Type 0} {n : ℕ} {f : S → Prog (Step S A)} {d : A} {x : S} {s : List ℕ} {from : Reader} {left : ℕ} → left < n
    → Loops n f d x s from x from left
loop-start {n = n} h = record { fuel = n; enough = h; rest = f-start }

pub loop_suc : {S A : Type 0} (n m : ℕ) (f : S → Prog (Step S A)) (d : A) (x : S) (s : List ℕ) (a : ℕ) → n ≡ suc m
    → run (loop n f d x) s a ≡ run (continue_with (loop m f d) (run (f x) s a).value) s (run (f x) s a).at
unfolding loop
loop_suc n m f d x s a h = rw h (run_bind (f x) (continue_with (loop m f d)) s a)

-- behind a turn
f-step : {S A : Type 0} {p : Prog A} (n m : ℕ) (f : S → Prog (Step S A)) (d : A) {x : S} {s : List ℕ} {from mid to : Reader} {t : Step S A}
    → n ≡ suc m
    → Follows p s from (loop n f d x) mid → Runs (f x) s mid t to → Follows p s from (continue_with (loop m f d) t) to
unfolding loop
f-step n m f d h l r = f-call (continue_with (loop m f d)) (rw h at l) r

pub loop-on : {S A : Type 0} {n : ℕ} {f : S → Prog (Step S A)} {d : A} {x₀ : S} {s : List ℕ} {from₀ : Reader} {x : S} {from : Reader}
    {left : ℕ} {y : S} {to : Reader} {less : ℕ}
    → Loops n f d x₀ s from₀ x from left → Runs (f x) s from (continue y) to → less < left → Loops n f d x₀ s from₀ y to less
loop-on {f = f} {d} l r h =
    record { fuel = l.fuel - 1; enough = omega arith; rest = f-step l.fuel (l.fuel - 1) f d (omega arith) l.rest r }

pub loop-end : {S A : Type 0} {n : ℕ} {f : S → Prog (Step S A)} {d : A} {x₀ : S} {s : List ℕ} {from₀ : Reader} {x : S} {from : Reader} {left : ℕ}
    {v : A} {to : Reader} → Loops n f d x₀ s from₀ x from left → Runs (f x) s from (finish v) to → Runs (loop n f d x₀) s from₀ v to
loop-end {f = f} {d} l r = f-end (f-step l.fuel (l.fuel - 1) f d (omega arith) l.rest r) r-done

-- a search whose first start code ends it
pub at_find : (c : ℤ) {k : ℤ} {s : List ℕ} {a e : ℕ} → found s a ≡ record { code = k; at = e } → (eq_z k c || eq_z k (negsuc 0)) ≡ true
    → RunsAt (find_start_code c) s a k e
unfolding find_start_code find_step
at_find c {s = s} {a} {e} q h =
    r-at {from = reader_at a} {to = reader_at e} (loop-end {left = 0} (loop-start (omega arith)) (r-call _ (is-start q) (r-yes _ h r-done)))

-- tests joined by and
pub and_yes : (t u : Bool) → t ≡ true → u ≡ true → (t && u) ≡ true
and_yes t u p q = rw (p, q)

pub and_no : (t u : Bool) → (t ≡ false) ⊎ (u ≡ false) → (t && u) ≡ false
and_no true true h = ⊎_elim (λ p. p) (λ p. p) h
and_no true false h = refl
and_no false u h = refl

-- for `search`: follows a program by the calls and tests on the way
pub ruleset follow = (r-call, r-yes, r-no, r-done, and_yes, eq-eqb, ne_eqb, lt-ltb, le-ltb, le-leb, lt-leb)
