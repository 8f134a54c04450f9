-- RULES 1.9 to 1.11: a search ends as the codes that it meets say, and they say where. Assumes RULES Q1.
use mathlib.Core.Path.{◌≡◌, refl, sym, ap, subst, ◌∙◌}
use mathlib.Core.Bool.{Bool, true, false, cond, ◌||◌, true≢false}
use mathlib.Core.List.{List}
use Prim.Native.Nat.{ℕ, zero, suc, max, ◌+◌, ◌-◌, ◌*◌, ◌≤◌, ◌<◌}
use native.Mathlib.Decide.{dec_lt}
use native.Mathlib.Omega.{arith}
use lib.Dec.{eqb}
use lib.IntN.{ℤ, pos, negsuc}
use lib.ListN.{length}
use borrow.Author.Tests.{eqb-true, eq-eqb}
use Rattle.laws.specs.Loops.{continue, finish}
use Rattle.bits.specs.Bounds.{longest_stream}
use Rattle.bits.specs.Bits.{Found, boundary, found}
use Rattle.bits.specs.Programs.{RunResult, done, bind, run, eq_z, continue_with, loop, stream_fuel, find_step, find_start_code}
use Rattle.bits.proofs.Start.{First, Searched, first, none, found-is-first}
use Rattle.demands.specs.StartCodes.{FirstCode, NoCode, code_at, Passes, none_yet, another, StartCodeFound, found_at, NoneFound, none_from}

-- ---- the end of a search

pub data SearchEnd (s : List ℕ) (c a : ℕ) (o : RunResult ℤ) : Type 0 where
  with_code : o.value ≡ pos c → StartCodeFound s c a o.at → SearchEnd s c a o
  with_none : o.value ≡ negsuc 0 → NoneFound s c a o.at → SearchEnd s c a o

first_code : {s : List ℕ} {f b : ℕ} → First s f b → FirstCode s f b
first_code w = record { from = w.from; followed = w.five; here = w.here; none_before = w.none_before }

at_byte : (b : ℕ) → boundary (b * 8) ≡ b
at_byte b = omega arith

-- another code is met before the search goes on
module _ {s : List ℕ} {c : ℕ} (a : ℕ) {p : ℕ} (w : FirstCode s (boundary a) p) (n : code_at s p ≡ c → ⊥) where
  passing : {g : ℕ} → Passes s c (boundary ((p + 4) * 8)) g → Passes s c (boundary a) g
  passing {g} k = another w n (subst (λ (j : ℕ). Passes s c j g) (at_byte (p + 4)) k)

  further : {o : RunResult ℤ} → SearchEnd s c ((p + 4) * 8) o → SearchEnd s c a o
  further (with_code v k) = with_code v (go k)
    where
      go : {e : ℕ} → StartCodeFound s c ((p + 4) * 8) e → StartCodeFound s c a e
      go (found_at k x y) = found_at (passing k) x y
  further (with_none v k) = with_none v (go k)
    where
      go : {e : ℕ} → NoneFound s c ((p + 4) * 8) e → NoneFound s c a e
      go (none_from k x) = none_from (passing k) x

-- each turn that goes on brings the bits left down, so the fuel is not spent
search-from : (s : List ℕ) (c n a : ℕ) → length s * 8 - a < n → SearchEnd s c a (run (loop n (find_step (pos c)) (negsuc 0) tt) s a)
unfolding loop find_step run bind
search-from s c zero a h = let z : ⊥ = omega arith in absurd z
search-from s c (suc n) a h = go (found s a) (found-is-first s a) (λ e. search-from s c n e)
  where
    -- what the turns that are left find from each place on
    Further : Type 0
    Further = (e : ℕ) → length s * 8 - e < n → SearchEnd s c e (run (loop n (find_step (pos c)) (negsuc 0) tt) s e)

    test : (p : ℕ) → FirstCode s (boundary a) p → Further → (b : Bool) → eqb (code_at s p) c ≡ b
        → SearchEnd s c a
        (run (bind (cond (b || false) (done (finish (pos (code_at s p)))) (done (continue tt))) (continue_with (loop n (find_step (pos c)) (negsuc 0)))) s
        ((p + 4) * 8))
    test p w r true t = let e = eqb-true (code_at s p) c t in with_code (ap pos e) (found_at none_yet w e)
    test p w r false t =
        further a w (λ q. true≢false (sym (eq-eqb (code_at s p) c q) ∙ t)) (r ((p + 4) * 8) (omega (arith, w.from, w.followed)))

    go : (f : Found) → Searched s (boundary a) f → Further
        → SearchEnd s c a
        (run (bind (cond (eq_z f.code (pos c) || eq_z f.code (negsuc 0)) (done (finish f.code)) (done (continue tt)))
        (continue_with (loop n (find_step (pos c)) (negsuc 0)))) s f.at)
    go f (first p w q) r = rw q (test p (first_code w) r (eqb (code_at s p) c) refl)
    go f (none w q) r = rw q (with_none refl (none_from none_yet w))

pub search-end : (s : List ℕ) (c a : ℕ) → length s ≤ longest_stream → SearchEnd s c a (run (find_start_code (pos c)) s a)
unfolding find_start_code
search-end s c a h = search-from s c stream_fuel a (omega arith)

-- ---- there is one end

pub first-same : {s : List ℕ} {f b c : ℕ} → FirstCode s f b → FirstCode s f c → b ≡ c
first-same {b = b} {c = c} x y = go (dec_lt b c) (dec_lt c b)
  where
    go : Dec (b < c) → Dec (c < b) → b ≡ c
    go (yes l) r = absurd (true≢false (sym x.here ∙ y.none_before b x.from l))
    go (no l) (yes r) = absurd (true≢false (sym y.here ∙ x.none_before c y.from r))
    go (no l) (no r) = omega arith

-- a search for c ends at the byte g: the first code from there on is c, or there is none
data Ends (s : List ℕ) (c g : ℕ) : Type 0 where
  at_code : {b : ℕ} → FirstCode s g b → code_at s b ≡ c → Ends s c g
  at_none : NoCode s g → Ends s c g

module _ {s : List ℕ} {c : ℕ} where
  no_other : {f b : ℕ} → Ends s c f → FirstCode s f b → (code_at s b ≡ c → ⊥) → ⊥
  no_other (at_code y e) x n = n (subst (λ (j : ℕ). code_at s j ≡ c) (first-same y x) e)
  no_other {f} {b} (at_none k) x n = true≢false (sym x.here ∙ k b x.from x.followed)

  passes_same : {f g h : ℕ} → Passes s c f g → Ends s c g → Passes s c f h → Ends s c h → g ≡ h
  passes_same none_yet u none_yet v = refl
  passes_same none_yet u (another x n q) v = absurd (no_other u x n)
  passes_same (another x n p) u none_yet v = absurd (no_other v x n)
  passes_same {h = h} (another x n p) u (another y m q) v =
      passes_same p u (subst (λ (j : ℕ). Passes s c (j + 4) h) (first-same y x) q) v

  pub found-same : {a e i : ℕ} → StartCodeFound s c a e → StartCodeFound s c a i → e ≡ i
  found-same (found_at {b = b} p x m) (found_at {b = d} q y n) =
      let k = passes_same q (at_code y n) p (at_code x m) in
      ap (λ (j : ℕ). (j + 4) * 8) (first-same x (subst (λ (g : ℕ). FirstCode s g d) k y))

  pub none-same : {a e i : ℕ} → NoneFound s c a e → NoneFound s c a i → e ≡ i
  none-same (none_from p x) (none_from q y) = ap (λ (g : ℕ). max g (length s - 4) * 8) (passes_same p (at_none x) q (at_none y))
