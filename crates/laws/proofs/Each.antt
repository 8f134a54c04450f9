-- Tests at all places below some number, one after the other.
use mathlib.Core.Path.{◌≡◌, refl, sym, ◌∙◌}
use mathlib.Core.Bool.{Bool, true, false, false≢true, ◌&&◌, and-false}
use Prim.Native.Nat.{ℕ, zero, suc, ◌≤◌, ◌<◌}
use native.Mathlib.Decide.{dec_lt}
use native.Mathlib.Omega.{arith}
use Rattle.laws.specs.Each.{all_below}

one-fails : (f : ℕ → Bool) (n i : ℕ) → i < n → f i ≡ false → all_below n f ≡ false
unfolding all_below
one-fails f zero i h e = absurd (omega arith)
one-fails f (suc n) i h e = go (dec_lt i n) (λ g. one-fails f n i g e)
  where
    go : Dec (i < n) → (i < n → all_below n f ≡ false) → (all_below n f && f n) ≡ false
    go (yes g) before = rw (before g)
    go (no g) before = let s : i ≡ n = omega arith in rw (← s, e) (and-false (all_below i f))

pub all-at : (f : ℕ → Bool) (n : ℕ) → all_below n f ≡ true → (k : ℕ) → k < n → f k ≡ true
all-at f n h k q = go (f k) refl
  where
    go : (b : Bool) → f k ≡ b → f k ≡ true
    go true e = e
    go false e = absurd (false≢true (sym (one-fails f n k q e) ∙ h))

pub all-by : (f : ℕ → Bool) (n : ℕ) → ((k : ℕ) → k < n → f k ≡ true) → all_below n f ≡ true
unfolding all_below
all-by f zero h = refl
all-by f (suc n) h = rw (all-by f n (λ k l. h k (omega arith)), h n (omega arith))

-- a loop over n places that has passed the first i of them
pub record Passed (f : ℕ → Bool) (n i : ℕ) : Type 0 where
  pub most : i ≤ n
  pub each : all_below i f ≡ true

pub passed_none : {f : ℕ → Bool} {n : ℕ} → Passed f n 0
unfolding all_below
passed_none = record { most = omega arith; each = refl }
