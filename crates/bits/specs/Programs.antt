-- The syntax of a bitstream as programs over reads: no stream and no place stands in a program, and `run` is the only one to look at a stream.
use Rattle.std.specs.Prelude.{ℕ, zero, suc, Bool, false, cond, not, ◌&&◌, ◌||◌, List, leb, eqb, ℤ, pos, negsuc}
use Rattle.laws.specs.Loops.{Step, continue, finish}
use Rattle.bits.specs.Bits.{has, read_at, after_read, found}

-- RULES part 1: a program that reads, and gives an A
pub data Prog (A : Type 0) : Type 0 where
  done : A → Prog A
  read : ℕ → (ℕ → Prog A) → Prog A  -- n bits: their value, or 0 and no advance where fewer are left
  skip : ℕ → Prog A → Prog A  -- n bits on, or none where fewer are left
  peek_bits : ℕ → (Bool → ℕ → Prog A) → Prog A  -- are n bits left, and their value, with no advance
  seek_start_code : (ℤ → Prog A) → Prog A  -- on to behind the first start code, whose last byte is given; -1 where there is none

-- what a run gives, and the place where it ends
pub record RunResult (A : Type 0) : Type 0 where
  pub value : A
  pub at : ℕ

-- a program's run on the stream s from the place a on
unfoldable pub run : {A : Type 0} → Prog A → List ℕ → ℕ → RunResult A
run (done x) s a = record { value = x; at = a }
run (read n k) s a = run (k (read_at s a n)) s (after_read s a n)
run (skip n p) s a = run p s (after_read s a n)
run (peek_bits n k) s a = run (k (has s a n) (read_at s a n)) s a
run (seek_start_code k) s a = run (k (found s a).code) s (found s a).at

-- whether some read or skip of the run was refused bits
unfoldable pub any_read_refused : {A : Type 0} → Prog A → List ℕ → ℕ → Bool
any_read_refused (done x) s a = false
any_read_refused (read n k) s a = not (has s a n) || any_read_refused (k (read_at s a n)) s (after_read s a n)
any_read_refused (skip n p) s a = not (has s a n) || any_read_refused p s (after_read s a n)
any_read_refused (peek_bits n k) s a = any_read_refused (k (has s a n) (read_at s a n)) s a
any_read_refused (seek_start_code k) s a = any_read_refused (k (found s a).code) s (found s a).at

-- first p, then f of what p gives
unfoldable pub bind : {A B : Type 0} → Prog A → (A → Prog B) → Prog B
bind (done x) f = f x
bind (read n k) f = read n (λ v. bind (k v) f)
bind (skip n p) f = skip n (bind p f)
bind (peek_bits n k) f = peek_bits n (λ h v. bind (k h v) f)
bind (seek_start_code k) f = seek_start_code (λ c. bind (k c) f)

-- do-notation
infixl 1 ◌>>=◌
abbrev pub ◌>>=◌ : {A B : Type 0} → Prog A → (A → Prog B) → Prog B
◌>>=◌ = bind

infixl 1 ◌>>◌
abbrev pub ◌>>◌ : {A B : Type 0} → Prog A → Prog B → Prog B
p >> q = bind p (λ x. q)

infixr 2 when◌then◌else◌
abbrev pub when◌then◌else◌ : {A : Type 0} → Bool → A → A → A
when t then x else y = cond t x y

-- RULES 1.5: n bits
abbrev pub bits : ℕ → Prog ℕ
bits n = read n done

-- RULES 1.6: n bits are passed over
abbrev pub skips : ℕ → Prog (Unit {0})
skips n = skip n (done tt)

-- RULES 1.5: a read takes 0 to 32 bits; more are refused, as bits that are not there
abbrev pub read_at_most32 : ℕ → Prog ℕ
read_at_most32 n = when leb n 32 then bits n else done 0

-- RULES 1.13: are n bits left, and not all 0? The answer is no for more than 32
abbrev pub non_zero : ℕ → Prog Bool
non_zero n = when leb n 32 then peek_bits n (λ h v. done (h && not (eqb v 0))) else done false

-- RULES 1.9: the next start code
abbrev pub next_start_code : Prog ℤ
next_start_code = seek_start_code done

-- for (i = 0; i < n; i++): f 0, f 1 .. f (n - 1) in turn, each with what the one before it gives
unfoldable pub for_below : {A : Type 0} → ℕ → (ℕ → A → Prog A) → A → Prog A
for_below zero f x = done x
for_below (suc n) f x = bind (for_below n f x) (f n)

-- a step continues by k, or gives what it finished with
abbrev pub continue_with : {S A : Type 0} → (S → Prog A) → Step S A → Prog A
continue_with k (continue x) = k x
continue_with k (finish v) = done v

-- steps of f until one finishes; with its fuel spent it gives d
unfoldable pub loop : {S A : Type 0} → ℕ → (S → Prog (Step S A)) → A → S → Prog A
loop zero f d x = done d
loop (suc n) f d x = bind (f x) (continue_with (loop n f d))

-- more steps than the longest stream has bits
abbrev pub stream_fuel : ℕ
stream_fuel = 134217729

-- are two whole numbers the same?
abbrev pub eq_z : ℤ → ℤ → Bool
eq_z (pos m) (pos n) = eqb m n
eq_z (pos m) (negsuc n) = false
eq_z (negsuc m) (pos n) = false
eq_z (negsuc m) (negsuc n) = eqb m n

-- RULES 1.11: one start code, which ends the search if it is c or -1
unfoldable pub find_step : ℤ → Unit {0} → Prog (Step (Unit {0}) ℤ)
find_step c x = do
  k ← next_start_code
  when eq_z k c || eq_z k (negsuc 0) then done (finish k) else done (continue tt)

-- RULES 1.11: start codes are passed over up to the first that is c; -1 where there is none
unfoldable pub find_start_code : ℤ → Prog ℤ
find_start_code c = loop stream_fuel (find_step c) (negsuc 0) tt
