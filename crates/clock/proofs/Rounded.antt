-- `round` is correct rounding: of all values that the format holds none is nearer to the fraction, and ties go to the even one. Assumes nothing.
use mathlib.Core.Path.{◌≡◌, refl, sym, ap, ap₂, ◌∙◌, subst}
use mathlib.Core.Bool.{Bool, true, false, not, ◌&&◌, true≢false}
use Prim.Native.Nat.{ℕ, zero, suc, ◌+◌, ◌-◌, ◌*◌, ◌/◌, ◌%◌, ◌^◌, ◌≤◌, ◌<◌, compare}
use mathlib.Core.Logic.{◌⊎◌, inl, inr}
use native.Mathlib.Nat.{zero-add, le_refl, le_antisymm, mul-div_cancel, mul-mod_left, eq_of_mul-eq-mul_right, div-div-eq-div-mul, add-suc, pow-suc}
use native.Mathlib.Nat.{lt_of_le_of_lt, lt_of_mul-lt-mul_right, mul-lt-mul_of_pos_right, le_trans, le_of_eq, le_of_lt, lt_of_lt_of_le, not-le_of_lt}
use native.Mathlib.Nat.{lt_of_not-le, le_of_suc-le-suc, add-mul, mul-one, zero-mul, mul_comm, mul_assoc, mul_left_comm, mul_right_comm, mul-le-mul_right}
use native.Mathlib.Nat.{mul-pos, le_of_mul-le-mul_right, le-div_iff_mul-le}
use native.Mathlib.Omega.{arith}
use lib.IntN.{ℤ, pos, negsuc}
use lib.Dec.{T, leb, ltb, eqb, leb→le, nleb→lt, ltb→lt}
use lib.Pow.{pow-add, pow_pos, pow_mono, pow-lt}
use lib.Ieee.{Float, nan, inf, fin, Format, prec, emax, low, up, down, size, round, fits, to_bits, of_bits, hid}
use lib.Ieee.Bits.{of_bits-to_bits}
use lib.Ieee.Digits.{size_reaches, size-le, back}
use lib.Ieee.Exact.{HasValue}
use lib.Ieee.Fits.{two, two-le_pos, and_l, and_r, down_pos, nearest-le, kept-lt, round-fits}
use lib.Ieee.Order.{drop, kept}
use lib.Ieee.Positive.{den, den_pos}
use lib.Ieee.Scale.{grid, overflow, finite, round_val}
use Rattle.clock.specs.Nearest.{distance, error, Nearest}
use Rattle.clock.proofs.Wholes.{distance-mul, closest-near, closest-tie}

-- ---- a value that fits is m * 2 ^ t of the format's smallest values, with m of at most `prec` digits

pow_le_inv : (i j : ℕ) → 2 ^ i ≤ 2 ^ j → i ≤ j
pow_le_inv i j h = le_of_suc-le-suc (lt_of_not-le (λ (g : suc j ≤ i). not-le_of_lt (pow-lt g) h))

in_units : (f : Format) (s : Bool) (m : ℕ) (e : ℤ) → T (fits f (fin s m e)) → (t : ℕ) × (m < 2 ^ prec f) × (m * up e * 2 ^ low f ≡ m * 2 ^ t * down e)
unfolding fits
in_units f s zero e h = (0, pow_pos (prec f), simp zero-mul)
in_units f s (suc m) e h =
    let abc = and_l (eqb (suc m % 2) 1 && ltb (suc m) (2 ^ prec f) && leb (down e) (2 ^ low f)) (ltb (suc m * up e) (2 ^ suc (emax f) * down e)) h in
    let ab = and_l (eqb (suc m % 2) 1 && ltb (suc m) (2 ^ prec f)) (leb (down e) (2 ^ low f)) abc in
    let small = ltb→lt (suc m) (2 ^ prec f) (and_r (eqb (suc m % 2) 1) (ltb (suc m) (2 ^ prec f)) ab) in
    let fine = leb→le (down e) (2 ^ low f) (and_r (eqb (suc m % 2) 1 && ltb (suc m) (2 ^ prec f)) (leb (down e) (2 ^ low f)) abc) in
    go e fine small
  where
    go : (e : ℤ) → down e ≤ 2 ^ low f → suc m < 2 ^ prec f → (t : ℕ) × (suc m < 2 ^ prec f) × (suc m * up e * 2 ^ low f ≡ suc m * 2 ^ t * down e)
    go (pos j) d p = (
      j + low f,
      p,
      mul_assoc (suc m) (2 ^ j) (2 ^ low f) ∙ ap (λ (x : ℕ). suc m * x) (sym (pow-add 2 j (low f)))
          ∙ sym (mul-one (suc m * 2 ^ (j + low f))),
    )
    go (negsuc j) d p = (
      low f - suc j,
      p,
      ap₂ ◌*◌ (mul-one (suc m)) (ap (λ (x : ℕ). 2 ^ x) (sym (back (low f) (suc j) (pow_le_inv (suc j) (low f) d))) ∙ pow-add 2 (low f - suc j) (suc j))
          ∙ sym (mul_assoc (suc m) (2 ^ (low f - suc j)) (2 ^ suc j)),
    )

-- ---- in units: `grid` is as near to the fraction as any such m * 2 ^ t

full : (z p : ℕ) → 0 < p → 0 < z - p → p - 1 + (z - p) < z
full z p P h = omega arith

shorter : (p t k : ℕ) → 0 < p → t < k → p + t ≤ p - 1 + k
shorter p t k P h = omega arith

under : (q z y N : ℕ) → distance q N ≤ distance z N → y < z → z ≤ N → distance q N < distance y N
under q z y N a b c = omega arith

grid-at : (f : Format) (a c : ℕ) → grid f a c * c ≡ kept (prec f) (a * 2 ^ low f) c * (c * 2 ^ drop (prec f) (a * 2 ^ low f) c)
grid-at f a c =
    let k = drop (prec f) (a * 2 ^ low f) c in
    let q = kept (prec f) (a * 2 ^ low f) c in
    mul_assoc q (2 ^ k) c ∙ ap (λ (x : ℕ). q * x) (mul_comm (2 ^ k) c)

module _ (f : Format) (a c m t : ℕ) (C : 0 < c) (M : m < 2 ^ prec f) where
  -- m * 2 ^ t on the grid of the kept digits
  on_grid : drop (prec f) (a * 2 ^ low f) c ≤ t → m * 2 ^ (t - drop (prec f) (a * 2 ^ low f) c) * (c * 2 ^ drop (prec f) (a * 2 ^ low f) c) ≡ m * 2 ^ t * c
  on_grid le =
      let k = drop (prec f) (a * 2 ^ low f) c in
      mul_assoc m (2 ^ (t - k)) (c * 2 ^ k)
      ∙ ap (λ (x : ℕ). m * x) (mul_left_comm (2 ^ (t - k)) c (2 ^ k) ∙ ap (λ (x : ℕ). c * x) (sym (pow-add 2 (t - k) k)
      ∙ ap (λ (x : ℕ). 2 ^ x) (back t k le)) ∙ mul_comm c (2 ^ t))
      ∙ sym (mul_assoc m (2 ^ t) c)

  -- finer than the grid: it lies below the least of the kept numbers with all digits, and is farther
  off_grid : t < drop (prec f) (a * 2 ^ low f) c → distance (grid f a c * c) (a * 2 ^ low f) < distance (m * 2 ^ t * c) (a * 2 ^ low f)
  off_grid lt =
      let N = a * 2 ^ low f in
      let p = prec f in
      let P = two-le_pos p (two f) in
      let k = drop p N c in
      let u = c * 2 ^ k in
      let K : 0 < k = omega arith in
      let e : 2 ^ (p - 1) * u ≡ 2 ^ (p - 1 + k) * c = ap (λ (x : ℕ). 2 ^ (p - 1) * x) (mul_comm c (2 ^ k)) ∙ sym (mul_assoc (2 ^ (p - 1)) (2 ^ k) c)
      ∙ ap (λ (x : ℕ). x * c) (sym (pow-add 2 (p - 1) k)) in
      let lo : 2 ^ (p - 1 + k) * c ≤ N = (le-div_iff_mul-le C).0 (size_reaches (N / c) (p - 1 + k) (full (size (N / c)) p P K)) in
      let hi : m * 2 ^ t * c < 2 ^ (p - 1 + k) * c =
      mul-lt-mul_of_pos_right (lt_of_lt_of_le (mul-lt-mul_of_pos_right M (pow_pos t))
      (le_trans (le_of_eq (sym (pow-add 2 p t))) (pow_mono (shorter p t k P lt)))) C in
      subst (λ (x : ℕ). distance x N < distance (m * 2 ^ t * c) N) (sym (grid-at f a c))
      (under (kept p N c * u) (2 ^ (p - 1) * u) (m * 2 ^ t * c) N (closest-near N u (2 ^ (p - 1)) (mul-pos C (pow_pos k)))
      (lt_of_lt_of_le hi (le_of_eq (sym e))) (le_trans (le_of_eq e) lo))

  pub grid-near : distance (grid f a c * c) (a * 2 ^ low f) ≤ distance (m * 2 ^ t * c) (a * 2 ^ low f)
  grid-near = let k = drop (prec f) (a * 2 ^ low f) c in go (leb k t) (leb→le k t) (nleb→lt k t)
    where
      go : (b : Bool) → (T b → drop (prec f) (a * 2 ^ low f) c ≤ t) → (T (not b) → t < drop (prec f) (a * 2 ^ low f) c)
          → distance (grid f a c * c) (a * 2 ^ low f) ≤ distance (m * 2 ^ t * c) (a * 2 ^ low f)
      go true le lt =
          let N = a * 2 ^ low f in
          let k = drop (prec f) N c in
          subst (λ (x : ℕ). distance x N ≤ distance (m * 2 ^ t * c) N) (sym (grid-at f a c))
          (subst (λ (x : ℕ). distance (kept (prec f) N c * (c * 2 ^ k)) N ≤ distance x N) (on_grid (le tt))
          (closest-near N (c * 2 ^ k) (m * 2 ^ (t - k)) (mul-pos C (pow_pos k))))
      go false le lt = le_of_lt (off_grid (lt tt))

  -- as near as `grid` is only itself, unless the kept number is even
  pub grid-tie : distance (grid f a c * c) (a * 2 ^ low f) ≡ distance (m * 2 ^ t * c) (a * 2 ^ low f)
      → (m * 2 ^ t ≡ grid f a c) ⊎ (kept (prec f) (a * 2 ^ low f) c % 2 ≡ 0)
  grid-tie same = let k = drop (prec f) (a * 2 ^ low f) c in go (leb k t) (leb→le k t) (nleb→lt k t)
    where
      go : (b : Bool) → (T b → drop (prec f) (a * 2 ^ low f) c ≤ t) → (T (not b) → t < drop (prec f) (a * 2 ^ low f) c)
          → (m * 2 ^ t ≡ grid f a c) ⊎ (kept (prec f) (a * 2 ^ low f) c % 2 ≡ 0)
      go true le lt =
          let N = a * 2 ^ low f in
          let k = drop (prec f) N c in
          elim (closest-tie N (c * 2 ^ k) (m * 2 ^ (t - k)) (mul-pos C (pow_pos k)) (ap (λ (x : ℕ). distance x N) (sym (grid-at f a c)) ∙ same
          ∙ ap (λ (x : ℕ). distance x N) (sym (on_grid (le tt))))) [
            | inl e ↦ inl (eq_of_mul-eq-mul_right c C (m * 2 ^ t) (grid f a c) (sym (on_grid (le tt)) ∙ ap (λ (x : ℕ). x * (c * 2 ^ k)) e
                ∙ sym (grid-at f a c)))
            | inr e ↦ inr e
          ]
      go false le lt = let h = off_grid (lt tt) in absurd (omega arith)

-- ---- the same of values

-- a value of Y units
error_units : (X D L Y a c : ℕ) → X * L ≡ Y * D → distance (X * c) (a * D) * L ≡ distance (Y * c) (a * L) * D
error_units X D L Y a c h =
    sym (distance-mul (X * c) (a * D) L)
    ∙ ap₂ distance (mul_right_comm X c L ∙ ap (λ (x : ℕ). x * c) h ∙ mul_right_comm Y D c) (mul_right_comm a D L)
    ∙ distance-mul (Y * c) (a * L) D

-- two distances of g and y units, over the denominators D and E
compared : (L A D B E g y : ℕ) → 0 < L → A * L ≡ g * D → B * L ≡ y * E → g ≤ y → A * E ≤ B * D
compared L A D B E g y l p q h =
    le_of_mul-le-mul_right
    (le_trans (le_of_eq (mul_right_comm A E L ∙ ap (λ (x : ℕ). x * E) p))
    (le_trans (mul-le-mul_right E (mul-le-mul_right D h))
    (le_of_eq (mul_right_comm y D E ∙ ap (λ (x : ℕ). x * D) (sym q) ∙ mul_right_comm B L D))))
    l

-- a value that is not negative, by its units
error-of : (x : Float) (a c Y L : ℕ) → HasValue x false Y L → error x a c * L ≡ distance (Y * c) (a * L) * den x
error-of nan a c Y L v = absurd v
error-of (inf s) a c Y L v = absurd v
error-of (fin true m e) a c Y L v = absurd (true≢false v.0)
error-of (fin false m e) a c Y L v = error_units (m * up e) (down e) L Y a c v.1

from_zero : (c N : ℕ) → distance (0 * 2 ^ 0 * c) N ≡ N
from_zero c N = omega (arith, zero-mul c)

-- from 0 units the fraction is as far as it is large
at-most-whole : (f : Format) (a c : ℕ) → 0 < c → distance (grid f a c * c) (a * 2 ^ low f) ≤ a * 2 ^ low f
at-most-whole f a c C = le_trans (grid-near f a c 0 0 C (pow_pos (prec f))) (le_of_eq (from_zero c (a * 2 ^ low f)))

near_of : (f : Format) (x : Float) (a c : ℕ) → 0 < c → HasValue x false (grid f a c) (2 ^ low f) → (y : Float) → T (fits f y) → T (finite y)
    → error x a c * den y ≤ error y a c * den x
near_of f x a c C v nan h t = absurd t
near_of f x a c C v (inf s) h t = absurd t
near_of f x a c C v (fin false m e) h t =
    let L = 2 ^ low f in
    let w = in_units f false m e h in
    compared L (error x a c) (den x) (error (fin false m e) a c) (down e) (distance (grid f a c * c) (a * L)) (distance (m * 2 ^ w.0 * c) (a * L))
    (pow_pos (low f))
    (error-of x a c (grid f a c) L v) (error_units (m * up e) (down e) L (m * 2 ^ w.0) a c w.2) (grid-near f a c m w.0 C w.1)
near_of f x a c C v (fin true m e) h t =
    let L = 2 ^ low f in
    le_trans
    (compared L (error x a c) (den x) (a * down e) (down e) (distance (grid f a c * c) (a * L)) (a * L) (pow_pos (low f))
    (error-of x a c (grid f a c) L v) (mul_right_comm a (down e) L) (at-most-whole f a c C))
    (mul-le-mul_right (den x) (grow (m * up e * c) (a * down e)))
  where
    grow : (i j : ℕ) → j ≤ i + j
    grow i j = omega arith

-- ---- what is below 2 ^ emax does not overflow

double : (g N : ℕ) → distance g N ≤ N → g ≤ N * 2
double g N h = omega arith

pub stays_finite : (f : Format) (a c : ℕ) → 0 < c → a < 2 ^ emax f * c → grid f a c < overflow f
stays_finite f a c C h =
    let L = 2 ^ low f in
    lt_of_mul-lt-mul_right c
    (lt_of_le_of_lt (double (grid f a c * c) (a * L) (at-most-whole f a c C))
    (lt_of_lt_of_le (mul-lt-mul_of_pos_right (mul-lt-mul_of_pos_right h (pow_pos (low f))) (pow_pos 1))
    (le_of_eq (ap (λ (x : ℕ). x * 2) (mul_right_comm (2 ^ emax f) c L) ∙ mul_right_comm (2 ^ emax f * L) c 2
    ∙ ap (λ (x : ℕ). x * c) (ap (λ (x : ℕ). x * 2) (mul_comm (2 ^ emax f) L ∙ sym (pow-add 2 (low f) (emax f))) ∙ sym (pow-suc 2 (low f + emax f))
    ∙ ap (λ (x : ℕ). 2 ^ x) (sym (add-suc (low f) (emax f))))))))

-- ---- ties: the bits of the result

bits_of : (f : Format) (x : Float) (G : ℕ) → HasValue x false G (2 ^ low f) → to_bits f x ≡ (size G - prec f) * hid f + G / 2 ^ (size G - prec f)
unfolding to_bits
bits_of f nan G v = absurd v
bits_of f (inf s) G v = absurd v
bits_of f (fin true m e) G v = absurd (true≢false v.0)
bits_of f (fin false m e) G v =
    let n : m * up e * 2 ^ low f / down e ≡ G = ap (λ (x : ℕ). x / down e) v.1 ∙ mul-div_cancel G (down_pos e) in
    ap (λ (x : ℕ). 0 + (size x - prec f) * hid f + x / 2 ^ (size x - prec f)) n
    ∙ ap (λ (x : ℕ). x + G / 2 ^ (size G - prec f)) (zero-add ((size G - prec f) * hid f))

same-value : (f : Format) (x y : Float) (G : ℕ) → T (fits f x) → T (fits f y) → HasValue x false G (2 ^ low f) → HasValue y false G (2 ^ low f) → y ≡ x
same-value f x y G p q v w = sym (of_bits-to_bits f y q) ∙ ap (λ (n : ℕ). of_bits f n) (bits_of f y G w ∙ sym (bits_of f x G v)) ∙ of_bits-to_bits f x p

even-times : (q x : ℕ) → q % 2 ≡ 0 → q * x % 2 ≡ 0
even-times q x h = ap (λ (z : ℕ). z * x % 2) (halves q h) ∙ ap (λ (z : ℕ). z % 2) (mul_right_comm (q / 2) 2 x) ∙ mul-mod_left (q / 2 * x) 2
  where
    halves : (q : ℕ) → q % 2 ≡ 0 → q ≡ q / 2 * 2
    halves q h = omega arith

pow_even : (p : ℕ) → 2 ≤ p → 2 ^ (p - 1) % 2 ≡ 0
pow_even p h = ap (λ (x : ℕ). 2 ^ x % 2) (pred p h) ∙ ap (λ (x : ℕ). x % 2) (pow-suc 2 (p - 2)) ∙ mul-mod_left (2 ^ (p - 2)) 2
  where
    pred : (p : ℕ) → 2 ≤ p → p - 1 ≡ suc (p - 2)
    pred p h = omega arith

even_sum : (i j : ℕ) → i % 2 ≡ 0 → j % 2 ≡ 0 → (i + j) % 2 ≡ 0
even_sum i j a b = omega arith

even-part : (p q k : ℕ) → 2 ≤ p → q ≤ 2 ^ p → q % 2 ≡ 0 → q * 2 ^ k / 2 ^ (size (q * 2 ^ k) - p) % 2 ≡ 0
even-part p q k P Q h = let K = size (q * 2 ^ k) - p in go (leb K k) (leb→le K k) (nleb→lt K k)
  where
    over : (z p k : ℕ) → k < z - p → p + k < z
    over z p k h = omega arith

    exactly : (z p k : ℕ) → k < z - p → z ≤ suc (p + k) → z - p ≡ suc k
    exactly z p k h g = omega arith

    split : (p k : ℕ) → 2 ≤ p → p + k ≡ p - 1 + suc k
    split p k h = omega arith

    go : (b : Bool) → (T b → size (q * 2 ^ k) - p ≤ k) → (T (not b) → k < size (q * 2 ^ k) - p) → q * 2 ^ k / 2 ^ (size (q * 2 ^ k) - p) % 2 ≡ 0
    go true le lt =
        let K = size (q * 2 ^ k) - p in
        let e : q * 2 ^ k ≡ q * 2 ^ (k - K) * 2 ^ K = ap (λ (x : ℕ). q * x) (ap (λ (x : ℕ). 2 ^ x) (sym (back k K (le tt))) ∙ pow-add 2 (k - K) K)
        ∙ sym (mul_assoc q (2 ^ (k - K)) (2 ^ K)) in
        ap (λ (x : ℕ). x / 2 ^ K % 2) e ∙ ap (λ (x : ℕ). x % 2) (mul-div_cancel (q * 2 ^ (k - K)) (pow_pos K)) ∙ even-times q (2 ^ (k - K)) h
    go false le lt =
        let G = q * 2 ^ k in
        let most : G ≤ 2 ^ (p + k) = le_trans (mul-le-mul_right (2 ^ k) Q) (le_of_eq (sym (pow-add 2 p k))) in
        let least : 2 ^ (p + k) ≤ G = size_reaches G (p + k) (over (size G) p k (lt tt)) in
        let e : G ≡ 2 ^ (p + k) = le_antisymm most least in
        let K : size G - p ≡ suc k = exactly (size G) p k (lt tt) (size-le G (suc (p + k)) (lt_of_le_of_lt most (pow-lt (le_refl (suc (p + k)))))) in
        ap (λ (x : ℕ). G / 2 ^ x % 2) K
        ∙ ap (λ (x : ℕ). x / 2 ^ suc k % 2) (e ∙ ap (λ (x : ℕ). 2 ^ x) (split p k P) ∙ pow-add 2 (p - 1) (suc k))
        ∙ ap (λ (x : ℕ). x % 2) (mul-div_cancel (2 ^ (p - 1)) (pow_pos (suc k)))
        ∙ pow_even p P

kept-most : (p n c : ℕ) → kept p n c ≤ 2 ^ p
kept-most p n c =
    let k = drop p n c in
    let u = c * 2 ^ k in
    le_trans (nearest-le (n / u) (compare (n % u * 2) u)) (subst (λ (x : ℕ). x < 2 ^ p) (div-div-eq-div-mul n c (2 ^ k)) (kept-lt p (n / c)))

even-bits : (f : Format) (x : Float) (a c : ℕ) → HasValue x false (grid f a c) (2 ^ low f) → kept (prec f) (a * 2 ^ low f) c % 2 ≡ 0 → to_bits f x % 2 ≡ 0
even-bits f x a c v h =
    let N = a * 2 ^ low f in
    let K = size (grid f a c) - prec f in
    ap (λ (n : ℕ). n % 2) (bits_of f x (grid f a c) v)
    ∙ even_sum (K * hid f) (grid f a c / 2 ^ K) (ap (λ (n : ℕ). n % 2) (mul_comm K (hid f)) ∙ even-times (hid f) K (pow_even (prec f) (two f)))
    (even-part (prec f) (kept (prec f) N c) (drop (prec f) N c) (two f) (kept-most (prec f) N c) h)

leveled : (L A D B E g y : ℕ) → 0 < D → 0 < E → A * L ≡ g * D → B * L ≡ y * E → A * E ≡ B * D → g ≡ y
leveled L A D B E g y d e p q h =
    eq_of_mul-eq-mul_right (D * E) (mul-pos d e) g y
    (sym (mul_assoc g D E) ∙ ap (λ (x : ℕ). x * E) (sym p) ∙ mul_right_comm A L E ∙ ap (λ (x : ℕ). x * L) h ∙ mul_right_comm B D L
    ∙ ap (λ (x : ℕ). x * D) q ∙ mul_right_comm y E D ∙ mul_assoc y D E)

even-of : (f : Format) (x : Float) (a c : ℕ) → 0 < c → T (fits f x) → HasValue x false (grid f a c) (2 ^ low f)
    → (y : Float) → T (fits f y) → T (finite y) → error x a c * den y ≡ error y a c * den x → (y ≡ x → ⊥) → to_bits f x % 2 ≡ 0
even-of f x a c C X v nan h t same other = absurd t
even-of f x a c C X v (inf s) h t same other = absurd t
even-of f x a c C X v (fin false m e) h t same other =
    let L = 2 ^ low f in
    let w = in_units f false m e h in
    let g = distance (grid f a c * c) (a * L) in
    let y = distance (m * 2 ^ w.0 * c) (a * L) in
    elim (grid-tie f a c m w.0 C w.1
    (leveled L (error x a c) (den x) (error (fin false m e) a c) (down e) g y (den_pos x) (down_pos e) (error-of x a c (grid f a c) L v)
    (error_units (m * up e) (down e) L (m * 2 ^ w.0) a c w.2) same)) [
      | inl i ↦ absurd (other (same-value f x (fin false m e) (grid f a c) X h v (refl, w.2 ∙ ap (λ (z : ℕ). z * down e) i)))
      | inr i ↦ even-bits f x a c v i
    ]
even-of f x a c C X v (fin true m e) h t same other =
    let L = 2 ^ low f in
    let g = distance (grid f a c * c) (a * L) in
    let most = compared L (error x a c) (den x) (a * down e) (down e) g (a * L) (pow_pos (low f)) (error-of x a c (grid f a c) L v)
    (mul_right_comm a (down e) L) (at-most-whole f a c C) in
    let even : error x a c * down e ≡ a * down e * den x = omega (arith, add-mul (m * up e * c) (a * down e) (den x)) in
    let far : g ≡ a * L = leveled L (error x a c) (den x) (a * down e) (down e) g (a * L) (den_pos x) (down_pos e) (error-of x a c (grid f a c) L v)
    (mul_right_comm a (down e) L) even in
    elim (grid-tie f a c 0 0 C (pow_pos (prec f)) (far ∙ sym (from_zero c (a * L)))) [
      | inl i ↦ even-bits f x a c v (none (kept (prec f) (a * L) c) (drop (prec f) (a * L) c) (sym i))
      | inr i ↦ even-bits f x a c v i
    ]
  where
    none : (q k : ℕ) → q * 2 ^ k ≡ 0 * 2 ^ 0 → q % 2 ≡ 0
    none q k i = ap (λ (z : ℕ). z % 2) (eq_of_mul-eq-mul_right (2 ^ k) (pow_pos k) q 0 (i ∙ sym (zero-mul (2 ^ k))))

-- ---- correct rounding

value_finite : (x : Float) (a c : ℕ) → HasValue x false a c → T (finite x)
value_finite nan a c v = absurd v
value_finite (inf s) a c v = absurd v
value_finite (fin s m e) a c v = tt

pub round-nearest : (f : Format) (a c : ℕ) → 0 < c → grid f a c < overflow f → Nearest f (round f false a c) a c
round-nearest f a c C o =
    let x = round f false a c in
    let v = round_val f a c o in
    record {
      holds = round-fits f false a c;
      is_finite = value_finite x (grid f a c) (2 ^ low f) v;
      near = near_of f x a c C v;
      even = even-of f x a c C (round-fits f false a c) v;
    }
