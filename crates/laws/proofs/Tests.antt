-- Tests: a choice, and those joined by and. Assumes nothing.
use mathlib.Core.Path.{◌≡◌, refl}
use mathlib.Core.Bool.{Bool, true, false, cond, ◌&&◌, and-eq-true_iff}
use mathlib.Core.List.{List, [], ◌∷◌}
use Prim.Native.Nat.{ℕ, zero, suc}
use lib.ListN.{get_or}

-- what holds of both branches of a test holds of the choice between them
pub by-case : {A : Type 0} (P : A → Type 0) (b : Bool) {x y : A} → (b ≡ true → P x) → (b ≡ false → P y) → P (cond b x y)
by-case P true p q = p refl
by-case P false p q = q refl

-- the choice itself, where the outcome of the test is known
pub if_yes : {A : Type 0} {t : Bool} {x v : A} (y : A) → t ≡ true → x ≡ v → cond t x y ≡ v
if_yes y h e = rw h e

pub if_no : {A : Type 0} {t : Bool} (x : A) {y v : A} → t ≡ false → y ≡ v → cond t x y ≡ v
if_no x h e = rw h e

pub both : (t u : Bool) → (t && u) ≡ true → (t ≡ true) × (u ≡ true)
both t u = (and-eq-true_iff t u).0

-- t && u && ..
abbrev pub joined : Bool → List Bool → Bool
joined t [] = t
joined t (u ∷ us) = joined (t && u) us

-- the test at the place k of those that are joined
pub each : (t : Bool) (us : List Bool) → joined t us ≡ true → (k : ℕ) → get_or (t ∷ us) k true ≡ true
each t [] e zero = e
each t [] e (suc k) = refl
each t (u ∷ us) e zero = (both t u (each (t && u) us e 0)).0
each t (u ∷ us) e (suc zero) = (both t u (each (t && u) us e 0)).1
each t (u ∷ us) e (suc (suc k)) = each (t && u) us e (suc k)
