-- Laws of programs, proved once for every program. Assumes nothing.
use mathlib.Core.Path.{◌≡◌, refl, sym, ◌∙◌}
use mathlib.Core.Bool.{Bool, true, false, cond, not, ◌||◌}
use mathlib.Core.List.{List}
use Prim.Native.Nat.{ℕ, zero, suc, ◌+◌, ◌-◌, ◌*◌, ◌≤◌, ◌<◌}
use native.Mathlib.Omega.{arith}
use native.Mathlib.Nat.{add-zero}
use lib.ListN.{length}
use lib.Dec.{eqb, leb-zero, eqb-suc-zero}
use borrow.Author.Tests.{leb-true, le-leb, lt-leb}
use Rattle.bits.specs.Bits.{bits_at, has, read_at, after_read, found}
use Rattle.bits.specs.Programs.{Prog, done, read, skip, peek_bits, seek_start_code, run, any_read_refused, bind}
use Rattle.bits.proofs.Start.{found-on, found-most}

-- a sequence runs one after the other
pub run_bind : {A B : Type 0} (p : Prog A) (f : A → Prog B) (s : List ℕ) (a : ℕ)
    → run (bind p f) s a ≡ run (f (run p s a).value) s (run p s a).at
unfolding run bind
run_bind (done x) f s a = refl
run_bind (read n k) f s a = run_bind (k (read_at s a n)) f s (after_read s a n)
run_bind (skip n p) f s a = run_bind p f s (after_read s a n)
run_bind (peek_bits n k) f s a = run_bind (k (has s a n) (read_at s a n)) f s a
run_bind (seek_start_code k) f s a = run_bind (k (found s a).code) f s (found s a).at

-- and is short where one of the two is
or_assoc : (x y z w : Bool) → y ≡ (z || w) → (x || y) ≡ ((x || z) || w)
or_assoc true y z w e = refl
or_assoc false y z w e = e

pub short-bind : {A B : Type 0} (p : Prog A) (f : A → Prog B) (s : List ℕ) (a : ℕ)
    → any_read_refused (bind p f) s a ≡ (any_read_refused p s a || any_read_refused (f (run p s a).value) s (run p s a).at)
unfolding run bind any_read_refused
short-bind (done x) f s a = refl
short-bind (read n k) f s a = or_assoc (not (has s a n)) _ _ _ (short-bind (k (read_at s a n)) f s (after_read s a n))
short-bind (skip n p) f s a = or_assoc (not (has s a n)) _ _ _ (short-bind p f s (after_read s a n))
short-bind (peek_bits n k) f s a = short-bind (k (has s a n) (read_at s a n)) f s a
short-bind (seek_start_code k) f s a = short-bind (k (found s a).code) f s (found s a).at

-- places never go back, and stay within the stream
pub next_le : (s : List ℕ) (a n : ℕ) → a ≤ after_read s a n
unfolding after_read
next_le s a n = go (has s a n)
  where
    go : (b : Bool) → a ≤ cond b (a + n) a
    go true = omega arith
    go false = omega arith

pub next-most : (s : List ℕ) (a n m : ℕ) → a ≤ m → length s * 8 ≤ m → after_read s a n ≤ m
unfolding after_read
next-most s a n m h l = go (has s a n) refl
  where
    go : (b : Bool) → has s a n ≡ b → cond b (a + n) a ≤ m
    go true e = omega (arith, leb-true n (length s * 8 - a) e)
    go false e = h

pub run_on : {A : Type 0} (p : Prog A) (s : List ℕ) (a : ℕ) → a ≤ (run p s a).at
unfolding run
run_on (done x) s a = omega arith
run_on (read n k) s a = omega (arith, next_le s a n, run_on (k (read_at s a n)) s (after_read s a n))
run_on (skip n p) s a = omega (arith, next_le s a n, run_on p s (after_read s a n))
run_on (peek_bits n k) s a = run_on (k (has s a n) (read_at s a n)) s a
run_on (seek_start_code k) s a = omega (arith, found-on s a, run_on (k (found s a).code) s (found s a).at)

-- so a program that is followed by another ends where the two do, or before
pub bind-on : {A B : Type 0} (p : Prog A) (f : A → Prog B) (s : List ℕ) (a : ℕ) → (run p s a).at ≤ (run (bind p f) s a).at
bind-on p f s a = rw (run_bind p f s a) (run_on (f (run p s a).value) s (run p s a).at)

pub run-most : {A : Type 0} (p : Prog A) (s : List ℕ) (a m : ℕ) → a ≤ m * 8 → length s ≤ m → (run p s a).at ≤ m * 8
unfolding run
run-most (done x) s a m h l = h
run-most (read n k) s a m h l = run-most (k (read_at s a n)) s (after_read s a n) m (next-most s a n (m * 8) h (omega arith)) l
run-most (skip n p) s a m h l = run-most p s (after_read s a n) m (next-most s a n (m * 8) h (omega arith)) l
run-most (peek_bits n k) s a m h l = run-most (k (has s a n) (read_at s a n)) s a m h l
run-most (seek_start_code k) s a m h l = run-most (k (found s a).code) s (found s a).at m (found-most s a m h l) l

-- a read that is not 0 was served
pub got-served : (s : List ℕ) (a n : ℕ) → (read_at s a n ≡ 0 → ⊥) → (after_read s a n ≡ a + n) × (a + n ≤ length s * 8)
unfolding read_at after_read bits_at
got-served s a zero g = absurd (g (same (has s a 0)))
  where
    same : (b : Bool) → ◌≡◌ {A = ℕ} (cond b 0 0) 0
    same true = refl
    same false = refl
got-served s a (suc n) g = go (has s a (suc n)) refl g
  where
    go : (b : Bool) → has s a (suc n) ≡ b → (cond b (bits_at s a (suc n)) 0 ≡ 0 → ⊥) → (cond b (a + suc n) a ≡ a + suc n)
        × (a + suc n ≤ length s * 8)
    go true e g = (refl, omega (arith, leb-true (suc n) (length s * 8 - a) e))
    go false e g = absurd (g refl)

-- a skip, by what `has` says
pub next-has : (s : List ℕ) (a n : ℕ) → has s a n ≡ true → after_read s a n ≡ a + n
unfolding after_read
next-has s a n h = simp h

pub next_not : (s : List ℕ) (a n : ℕ) → has s a n ≡ false → after_read s a n ≡ a
unfolding after_read
next_not s a n h = simp h

-- n bits that are there
pub served-has : (s : List ℕ) (a n : ℕ) → a + n ≤ length s * 8 → has s a n ≡ true
served-has s a n h = le-leb n (length s * 8 - a) (omega arith)

pub served-next : (s : List ℕ) (a n : ℕ) → a + n ≤ length s * 8 → after_read s a n ≡ a + n
unfolding after_read
served-next s a n h = simp (served-has s a n h)

pub served-got : (s : List ℕ) (a n : ℕ) → a + n ≤ length s * 8 → read_at s a n ≡ bits_at s a n
unfolding read_at
served-got s a n h = simp (served-has s a n h)

-- n bits, more than are left
pub refused-has : (s : List ℕ) (a n : ℕ) → length s * 8 < a + n → 0 < n → has s a n ≡ false
refused-has s a n h g = lt-leb n (length s * 8 - a) (omega arith)

-- at the end and past it no more than 0 bits are left
pub ended-has : (s : List ℕ) (a n : ℕ) → length s * 8 ≤ a → has s a n ≡ eqb n 0
ended-has s a zero h = leb-zero (length s * 8 - a)
ended-has s a (suc n) h = lt-leb (suc n) (length s * 8 - a) (omega arith) ∙ sym (eqb-suc-zero n)

-- a read that is refused gives 0 and stays, and so does one of no bits
pub refused-got : (s : List ℕ) (a n : ℕ) → length s * 8 < a + n → read_at s a n ≡ 0
unfolding read_at bits_at
refused-got s a zero h = simp (ended-has s a 0 (omega arith))
refused-got s a (suc n) h = simp (refused-has s a (suc n) h (omega arith))

pub refused-next : (s : List ℕ) (a n : ℕ) → length s * 8 < a + n → after_read s a n ≡ a
unfolding after_read
refused-next s a zero h = simp (ended-has s a 0 (omega arith), add-zero)
refused-next s a (suc n) h = simp (refused-has s a (suc n) h (omega arith))
