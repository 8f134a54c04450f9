-- For RULES R.1, R.2: where a search for a start code ends. One that finds it has a byte behind it; one that has found nothing finds nothing again,
-- at the same place (RULES 1.10).
use mathlib.Core.Path.{◌≡◌, refl, sym, ap, ◌∙◌}
use mathlib.Core.Bool.{Bool, true, false, cond, ◌||◌, or-true, true≢false, false≢true}
use mathlib.Core.List.{List}
use Prim.Native.Nat.{ℕ, zero, suc, ◌+◌, ◌-◌, ◌*◌, ◌≤◌, ◌<◌}
use native.Mathlib.Omega.{arith}
use lib.IntN.{ℤ, pos, negsuc, nat_abs}
use lib.ListN.{length, get_or}
use borrow.Author.Tests.{eqb-true}
use Rattle.laws.specs.Loops.{continue, finish}
use Rattle.bits.specs.Bounds.{longest_stream}
use Rattle.bits.specs.Bits.{Found, boundary, code_prefix, code_from, found}
use Rattle.bits.specs.Programs.{RunResult, done, bind, run, eq_z, continue_with, loop, stream_fuel, find_step, find_start_code}
use Rattle.bits.specs.Runs.{RunsAt}
use Rattle.bits.proofs.Start.{is_code, Searched, first, none, found-end, found-is-first}
use Rattle.bits.proofs.Rules.{at_find}
use Rattle.picture.proofs.Places.{code-ahead}

-- a search that finds nothing ends behind the n bytes at which it has tried
none-at : (s : List ℕ) (b n : ℕ) → (code_from s b n).code ≡ negsuc 0 → (code_from s b n).at ≡ (b + n) * 8
unfolding code_from
none-at s b zero h = omega arith
none-at s b (suc n) h = go (code_prefix s b) (λ k. none-at s (b + 1) n k) h
  where
    go : (c : Bool) → ((code_from s (b + 1) n).code ≡ negsuc 0 → (code_from s (b + 1) n).at ≡ (b + 1 + n) * 8)
        → (cond c (record { code = pos (get_or s (b + 3) 0); at = (b + 4) * 8 }) (code_from s (b + 1) n)).code ≡ negsuc 0
        → (cond c (record { code = pos (get_or s (b + 3) 0); at = (b + 4) * 8 }) (code_from s (b + 1) n)).at ≡ (b + suc n) * 8
    go true r h = absurd (true≢false (ap is_code h))
    go false r h = omega (arith, r h)

at_byte : (b : ℕ) → boundary (b * 8) ≡ b
at_byte b = omega arith

-- nothing is found from the place e on, and a search stays there
abbrev pub Barren : List ℕ → ℕ → Type 0
Barren s e = found s e ≡ record { code = negsuc 0; at = e }

none-again : (s : List ℕ) (a : ℕ) → (found s a).code ≡ negsuc 0 → Barren s (found s a).at
unfolding found
none-again s a h =
    let b = boundary a in
    let n = length s - 4 - b in
    rw (none-at s b n h) (rw (at_byte (b + n)) (found-end s (b + n) (omega arith)))

-- RULES 1.11: a search for the code c from the place a on
pub data Sought (c : ℤ) (s : List ℕ) (a : ℕ) (o : RunResult ℤ) : Type 0 where
  hit : o.value ≡ c → a + 32 ≤ o.at → o.at + 8 ≤ length s * 8 → Sought c s a o
  miss : o.value ≡ negsuc 0 → Barren s o.at → Sought c s a o

pub eq_z-is : (k c : ℤ) → eq_z k c ≡ true → k ≡ c
eq_z-is (pos m) (pos n) h = ap pos (eqb-true m n h)
eq_z-is (pos m) (negsuc n) h = absurd (false≢true h)
eq_z-is (negsuc m) (pos n) h = absurd (false≢true h)
eq_z-is (negsuc m) (negsuc n) h = ap negsuc (eqb-true m n h)

or_false : (x : Bool) → (x || false) ≡ true → x ≡ true
or_false true h = refl
or_false false h = h

code-none : (s : List ℕ) (a : ℕ) → is_code (found s a).code ≡ false → (found s a).code ≡ negsuc 0
code-none s a = go (found s a) (found-is-first s a)
  where
    go : (f : Found) → Searched s (boundary a) f → is_code f.code ≡ false → f.code ≡ negsuc 0
    go f (first p w q) h = absurd (true≢false (sym (ap (λ (x : Found). is_code x.code) q) ∙ h))
    go f (none w q) h = ap (λ (x : Found). x.code) q

-- each turn that goes on brings the bits left down, so the fuel is not spent
sought-from : (c : ℤ) (s : List ℕ) (n a : ℕ) → length s * 8 - a < n → Sought c s a (run (loop n (find_step c) (negsuc 0) tt) s a)
unfolding loop find_step run bind
sought-from c s zero a h = let z : ⊥ = omega arith in absurd z
sought-from c s (suc n) a h = go (found s a).code (found s a).at (code-ahead s a) (none-again s a) (code-none s a) (λ e. sought-from c s n e)
  where
    -- what the turns that are left find from each place on
    Further : Type 0
    Further = (e : ℕ) → length s * 8 - e < n → Sought c s e (run (loop n (find_step c) (negsuc 0) tt) s e)

    test : (k : ℤ) (e : ℕ) → (a + 32 ≤ e) × (e + 8 ≤ length s * 8) → Further → (b : Bool) → (b ≡ true → k ≡ c)
        → Sought c s a (run (bind (cond b (done (finish k)) (done (continue tt))) (continue_with (loop n (find_step c) (negsuc 0)))) s e)
    test k e p r true f = hit (f refl) p.0 p.1
    test k e p r false f = further (r e (omega arith))
      where
        further : {o : RunResult ℤ} → Sought c s e o → Sought c s a o
        further (hit x y z) = hit x (omega arith) z
        further (miss x y) = miss x y

    go : (k : ℤ) (e : ℕ) → (is_code k ≡ true → (a + 32 ≤ e) × (e + 8 ≤ length s * 8)) → (k ≡ negsuc 0 → Barren s e)
        → (is_code k ≡ false → k ≡ negsuc 0)
        → Further
        → Sought c s a
        (run (bind (cond (eq_z k c || eq_z k (negsuc 0)) (done (finish k)) (done (continue tt))) (continue_with (loop n (find_step c) (negsuc 0)))) s e)
    go (pos v) e p q x r = test (pos v) e (p refl) r (eq_z (pos v) c || false) (λ t. eq_z-is (pos v) c (or_false (eq_z (pos v) c) t))
    go (negsuc zero) e p q x r = rw (or-true (eq_z (negsuc 0) c)) (miss refl (q refl))
    go (negsuc (suc v)) e p q x r = let z : suc (suc v) ≡ 1 = ap nat_abs (x refl) in let no : ⊥ = omega arith in absurd no

pub sought : (c : ℤ) (s : List ℕ) (a : ℕ) → length s ≤ longest_stream → Sought c s a (run (find_start_code c) s a)
unfolding find_start_code
sought c s a h = sought-from c s stream_fuel a (omega arith)

-- a search from where nothing is found
pub still_barren : (c : ℤ) (s : List ℕ) (e : ℕ) → Barren s e → RunsAt (find_start_code c) s e (negsuc 0) e
still_barren c s e h = at_find c h (or-true (eq_z (negsuc 0) c))
