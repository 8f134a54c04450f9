-- A fraction N / u rounded to a whole number by `closest`: no whole number is nearer, and of two that are as near it is the even one. Assumes nothing.
use mathlib.Core.Path.{◌≡◌, refl, sym, ap, ap₂, ◌∙◌, subst}
use mathlib.Core.Bool.{Bool, true, false, not}
use mathlib.Core.Logic.{◌⊎◌, inl, inr}
use Prim.Native.Nat.{ℕ, zero, suc, ◌+◌, ◌-◌, ◌*◌, ◌/◌, ◌%◌, ◌≤◌, ◌<◌, compare, Ordering}
use native.Mathlib.Nat.{add-mul, mul_comm, mul-sub, mul-le-mul_right, div-add-mod', mod-lt, one-mul, eq_of_mul-eq-mul_right}
use native.Mathlib.Omega.{arith}
use lib.Dec.{T, leb, is_le, compare_is_eq, eqb, leb→le, nleb→lt, eqb→eq, eqb_refl}
use lib.Arith.{lt_of_le-ne}
use lib.Ieee.{nearest}
use lib.Ieee.Nearest.{closest}
use Rattle.clock.specs.Nearest.{distance}

sub-mul : (a b k : ℕ) → (a - b) * k ≡ a * k - b * k
sub-mul a b k = mul_comm (a - b) k ∙ mul-sub k a b ∙ ap₂ ◌-◌ (mul_comm k a) (mul_comm k b)

pub distance-mul : (a b k : ℕ) → distance (a * k) (b * k) ≡ distance a b * k
distance-mul a b k = sym (add-mul (a - b) (b - a) k ∙ ap₂ ◌+◌ (sub-mul a b k) (sub-mul b a k))

-- what `compare` says (lib.Ieee.Nearest has it too, but not `pub`)
abbrev Cmp : Ordering → ℕ → ℕ → Type 0
Cmp Ordering.lt a b = a < b
Cmp Ordering.eq a b = a ≡ b
Cmp Ordering.gt a b = b < a

cmp : (a b : ℕ) → Cmp (compare a b) a b
cmp a b = go (compare a b) (leb→le a b) (nleb→lt a b) (eqb→eq a b) (λ (e : a ≡ b). subst (λ (x : ℕ). T (eqb a x)) e (eqb_refl a))
  where
    go : (o : Ordering) → (T (is_le o) → a ≤ b) → (T (not (is_le o)) → b < a) → (T (compare_is_eq o) → a ≡ b) → (a ≡ b → T (compare_is_eq o)) → Cmp o a b
    go Ordering.lt h k e n = lt_of_le-ne (h tt) n
    go Ordering.eq h k e n = e tt
    go Ordering.gt h k e n = k tt

-- one of the two whole numbers around, and which
abbrev Around : ℕ → ℕ → ℕ → ℕ → Type 0
Around q w r u = ((q ≡ w) × (r * 2 ≤ u)) ⊎ ((q ≡ suc w) × (u ≤ r * 2))

tie : (w r u : ℕ) → r * 2 ≡ u → Around (w + w % 2) w r u
tie w r u e = go (w % 2) refl
  where
    go : (b : ℕ) → w % 2 ≡ b → Around (w + w % 2) w r u
    go zero h = inl (omega arith, omega arith)
    go (suc b) h = inr (omega arith, omega arith)

around : (N u : ℕ) → Around (closest N u) (N / u) (N % u) u
around N u = go (compare (N % u * 2) u) (cmp (N % u * 2) u)
  where
    go : (o : Ordering) → Cmp o (N % u * 2) u → Around (nearest (N / u) o) (N / u) (N % u) u
    go Ordering.lt h = inl (refl, omega arith)
    go Ordering.eq h = tie (N / u) (N % u) u h
    go Ordering.gt h = inr (refl, omega arith)

next : (w u : ℕ) → suc w * u ≡ w * u + u
next w u = omega (arith, add-mul w 1 u, one-mul u, ap (λ (x : ℕ). x * u) (succ w))
  where
    succ : (w : ℕ) → suc w ≡ w + 1
    succ w = omega arith

-- every other whole number z is as far at least
pub closest-near : (N u z : ℕ) → 0 < u → distance (closest N u * u) N ≤ distance (z * u) N
closest-near N u z U = go (leb z (N / u)) (leb→le z (N / u)) (nleb→lt z (N / u))
  where
    go : (b : Bool) → (T b → z ≤ N / u) → (T (not b) → N / u < z) → distance (closest N u * u) N ≤ distance (z * u) N
    go true below above =
        let e = div-add-mod' N u in
        let l = mod-lt N U in
        let k = mul-le-mul_right u (below tt) in
        elim (around N u) [
          | inl h ↦ omega (arith, ap (λ (x : ℕ). x * u) h.0, h.1)
          | inr h ↦ omega (arith, ap (λ (x : ℕ). x * u) h.0, next (N / u) u, h.1)
        ]
    go false below above =
        let e = div-add-mod' N u in
        let l = mod-lt N U in
        let k : suc (N / u) * u ≤ z * u = mul-le-mul_right u (above tt) in
        elim (around N u) [
          | inl h ↦ omega (arith, ap (λ (x : ℕ). x * u) h.0, next (N / u) u, h.1)
          | inr h ↦ omega (arith, ap (λ (x : ℕ). x * u) h.0, next (N / u) u, h.1)
        ]

-- and where another is as far, the chosen one is even
abbrev Chosen : ℕ → ℕ → ℕ → ℕ → Type 0
Chosen q w r u = ((q ≡ w) × (r * 2 < u)) ⊎ ((q ≡ suc w) × (u < r * 2)) ⊎ ((q % 2 ≡ 0) × (r * 2 ≡ u))

chosen : (N u : ℕ) → Chosen (closest N u) (N / u) (N % u) u
chosen N u = go (compare (N % u * 2) u) (cmp (N % u * 2) u)
  where
    tied : (w : ℕ) → (w + w % 2) % 2 ≡ 0
    tied w = omega arith

    go : (o : Ordering) → Cmp o (N % u * 2) u → Chosen (nearest (N / u) o) (N / u) (N % u) u
    go Ordering.lt h = inl (refl, h)
    go Ordering.eq h = inr (inr (tied (N / u), h))
    go Ordering.gt h = inr (inl (refl, h))

pub closest-tie : (N u z : ℕ) → 0 < u → distance (closest N u * u) N ≡ distance (z * u) N → (z ≡ closest N u) ⊎ (closest N u % 2 ≡ 0)
closest-tie N u z U same = go (leb z (N / u)) (leb→le z (N / u)) (nleb→lt z (N / u))
  where
    go : (b : Bool) → (T b → z ≤ N / u) → (T (not b) → N / u < z) → (z ≡ closest N u) ⊎ (closest N u % 2 ≡ 0)
    go true below above =
        let e = div-add-mod' N u in
        let l = mod-lt N U in
        let k = mul-le-mul_right u (below tt) in
        elim (chosen N u) [
          | inl h ↦ let w = ap (λ (x : ℕ). x * u) h.0 in inl (eq_of_mul-eq-mul_right u U z (closest N u) (omega (arith, h.1)))
          | inr (inl h) ↦ let w = ap (λ (x : ℕ). x * u) h.0 in absurd (omega (arith, next (N / u) u, h.1))
          | inr (inr h) ↦ inr h.0
        ]
    go false below above =
        let e = div-add-mod' N u in
        let l = mod-lt N U in
        let k : suc (N / u) * u ≤ z * u = mul-le-mul_right u (above tt) in
        elim (chosen N u) [
          | inl h ↦ let w = ap (λ (x : ℕ). x * u) h.0 in absurd (omega (arith, next (N / u) u, h.1))
          | inr (inl h) ↦ let w = ap (λ (x : ℕ). x * u) h.0 in inl (eq_of_mul-eq-mul_right u U z (closest N u) (omega (arith, next (N / u) u, h.1)))
          | inr (inr h) ↦ inr h.0
        ]
