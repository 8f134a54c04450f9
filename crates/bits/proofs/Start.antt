-- Laws of the search for a start code. Assumes nothing.
use mathlib.Core.Path.{◌≡◌, refl, ap, sym, ◌∙◌, subst}
use mathlib.Core.Bool.{Bool, true, false, true≢false}
use mathlib.Core.List.{List}
use Prim.Native.Nat.{ℕ, zero, suc, max, ◌+◌, ◌-◌, ◌*◌, ◌≤◌, ◌<◌}
use mathlib.Core.Logic.{⊎_elim}
use native.Mathlib.Nat.{eq-or-lt_of_le}
use native.Mathlib.Omega.{arith}
use lib.ListN.{length, get_or}
use lib.IntN.{ℤ, pos, negsuc}
use Rattle.laws.proofs.Tests.{by-case}
use Rattle.bits.specs.Bits.{Found, code_prefix, code_from, found, boundary}

-- the code is one, and not the -1 of a search that found none
abbrev pub is_code : ℤ → Bool
is_code (pos n) = true
is_code (negsuc n) = false

-- a search goes on from its byte
code_from-on : (s : List ℕ) (b n : ℕ) → b * 8 ≤ (code_from s b n).at
unfolding code_from
code_from-on s b zero = omega arith
code_from-on s b (suc n) =
    by-case (λ (f : Found). b * 8 ≤ f.at) (code_prefix s b) (λ p. omega arith) (λ p. omega (arith, code_from-on s (b + 1) n))

-- and ends four bytes behind the last that it looks at, at most
code_from-most : (s : List ℕ) (b n : ℕ) → (code_from s b n).at ≤ (b + n + 3) * 8
unfolding code_from
code_from-most s b zero = omega arith
code_from-most s b (suc n) =
    by-case (λ (f : Found). f.at ≤ (b + suc n + 3) * 8) (code_prefix s b) (λ p. omega arith) (λ p. omega (arith, code_from-most s (b + 1) n))

-- a search that finds none ends behind the last byte that it looks at
code_from-none : (s : List ℕ) (b n : ℕ) → is_code (code_from s b n).code ≡ false → (code_from s b n).at ≡ (b + n) * 8
unfolding code_from
code_from-none s b zero = λ e. omega arith
code_from-none s b (suc n) =
    by-case (λ (f : Found). is_code f.code ≡ false → f.at ≡ (b + suc n) * 8) (code_prefix s b)
    (λ p e. absurd (true≢false e))
    (λ p e. omega (arith, code_from-none s (b + 1) n e))

-- and one that finds a code ends four bytes behind where it began, at least
pub code_from-past : (s : List ℕ) (b n : ℕ) → is_code (code_from s b n).code ≡ true → (b + 4) * 8 ≤ (code_from s b n).at
unfolding code_from
code_from-past s b zero = λ e. absurd (true≢false (sym e))
code_from-past s b (suc n) =
    by-case (λ (f : Found). is_code f.code ≡ true → (b + 4) * 8 ≤ f.at) (code_prefix s b)
    (λ p e. omega arith)
    (λ p e. omega (arith, code_from-past s (b + 1) n e))

pub found-on : (s : List ℕ) (a : ℕ) → a ≤ (found s a).at
unfolding found
found-on s a = omega (arith, code_from-on s (boundary a) (length s - 4 - boundary a))

pub found-most : (s : List ℕ) (a m : ℕ) → a ≤ m * 8 → length s ≤ m → (found s a).at ≤ m * 8
unfolding found code_from
found-most s a m h l = go (length s - 4 - boundary a) refl
  where
    go : (n : ℕ) → length s - 4 - boundary a ≡ n → (code_from s (boundary a) n).at ≤ m * 8
    go zero e = omega arith
    go (suc n) e = omega (arith, code_from-most s (boundary a) (suc n))

-- one byte of the search
pub found-end : (s : List ℕ) (b : ℕ) → length s < b + 5 → code_from s b (length s - 4 - b) ≡ record { code = negsuc 0; at = b * 8 }
unfolding code_from
found-end s b h =
    let e : length s - 4 - b ≡ 0 = omega arith in
    rw e

left : (l b : ℕ) → b + 5 ≤ l → l - 4 - b ≡ suc (l - 4 - (b + 1))
left l b h = omega arith

pub found-on-by-one : (s : List ℕ) (b : ℕ) → b + 5 ≤ length s → code_prefix s b ≡ false
    → code_from s b (length s - 4 - b) ≡ code_from s (b + 1) (length s - 4 - (b + 1))
unfolding code_from
found-on-by-one s b h p = rw (left (length s) b h) (simp p)

pub found_here : (s : List ℕ) (b : ℕ) → b + 5 ≤ length s → code_prefix s b ≡ true
    → code_from s b (length s - 4 - b) ≡ record { code = pos (get_or s (b + 3) 0); at = (b + 4) * 8 }
unfolding code_from
found_here s b h p = rw (left (length s) b h) (simp p)

-- a search that has come from the byte of the next boundary to the byte b, and there ends with f
pub found-by : (s : List ℕ) (a c b : ℕ) {f : Found} → c ≡ boundary a → code_from s c (length s - 4 - c) ≡ code_from s b (length s - 4 - b)
    → code_from s b (length s - 4 - b) ≡ f → found s a ≡ f
unfolding found
found-by s a c b e p q = ap (λ (k : ℕ). code_from s k (length s - 4 - k)) (sym e) ∙ p ∙ q

-- the first start code from the byte b on begins at p
pub record First (s : List ℕ) (b p : ℕ) : Type 0 where
  pub from : b ≤ p
  pub five : p + 5 ≤ length s
  pub here : code_prefix s p ≡ true
  pub none_before : (j : ℕ) → b ≤ j → j < p → code_prefix s j ≡ false

-- RULES 1.9, 1.10: a search gives the first start code and ends behind it. Where there is none it gives -1, and ends four bytes before the end of the
-- stream, or at the boundary where that is further on
pub data Searched (s : List ℕ) (b : ℕ) (f : Found) : Type 0 where
  first : (p : ℕ) → First s b p → f ≡ record { code = pos (get_or s (p + 3) 0); at = (p + 4) * 8 } → Searched s b f
  none : ((j : ℕ) → b ≤ j → j + 5 ≤ length s → code_prefix s j ≡ false) → f ≡ record { code = negsuc 0; at = max b (length s - 4) * 8 }
      → Searched s b f

at_or-on : (P : ℕ → Type 0) (b j : ℕ) → b ≤ j → P b → (b + 1 ≤ j → P j) → P j
at_or-on P b j h x f = ⊎_elim (λ (e : b ≡ j). subst P e x) (λ (l : b < j). f (omega arith)) (eq-or-lt_of_le h)

-- one byte that begins no start code stands before the search
earlier : (s : List ℕ) (b : ℕ) (f : Found) → code_prefix s b ≡ false → b + 5 ≤ length s → Searched s (b + 1) f → Searched s b f
earlier s b f e h (first p w q) =
    first p
    (record {
      from = omega (arith, w.from);
      five = w.five;
      here = w.here;
      none_before = λ j g l. at_or-on (λ k. code_prefix s k ≡ false) b j g e (λ k. w.none_before j k l);
    })
    q
earlier s b f e h (none w q) =
    none (λ j g l. at_or-on (λ k. code_prefix s k ≡ false) b j g e (λ k. w j k l))
    (q ∙ ap (λ (k : ℕ). record { code = negsuc 0; at = k * 8 }) (omega arith))

searched : (s : List ℕ) (b n : ℕ) → n ≡ length s - 4 - b → Searched s b (code_from s b n)
unfolding code_from
searched s b zero h =
    none (λ j g l. let z : ⊥ = omega arith in absurd z) (ap (λ (k : ℕ). record { code = negsuc 0; at = k * 8 }) (omega arith))
searched s b (suc n) h =
    by-case (Searched s b) (code_prefix s b)
    (λ e. first b (record { from = omega arith; five = omega arith; here = e; none_before = λ j g l. let z : ⊥ = omega arith in absurd z }) refl)
    (λ e. earlier s b _ e (omega arith) (searched s (b + 1) n (omega arith)))

pub found-is-first : (s : List ℕ) (a : ℕ) → Searched s (boundary a) (found s a)
unfolding found
found-is-first s a = searched s (boundary a) (length s - 4 - boundary a) refl
