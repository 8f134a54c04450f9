-- Signed arithmetic through differences of naturals. `Dif z p n` says z = p - n; its combinators follow the expression, and the laws below turn a goal
-- on ℤ into one on ℕ, which `omega` proves, and a fact on ℤ into one on ℕ, which `omega` reads. `omega` multiplies products out, so an identity of
-- sums and products is `eq-by` of the differences of its two sides.
use mathlib.Core.Path.{◌≡◌, refl, sym, ap, ◌∙◌, subst}
use mathlib.Core.Bool.{Bool, true, false, cond}
use Prim.Native.Nat.{ℕ, zero, suc, ◌+◌, ◌*◌, ◌-◌, ◌%◌, ◌^◌, ◌≤◌, ◌<◌, pred, min}
use native.Mathlib.Nat as NatL
use native.Mathlib.Omega.{arith}
use borrow.Author.Tests.{ltb-true, ltb-false, leb-true, leb-false, lt-ltb, le-ltb, le-leb, lt-leb}
use lib.Bits.{bit_and, and_mask}
use lib.Dec.{T, ltb, leb, ltb→lt, leb→le}
use lib.IntN.{ℤ, pos, negsuc, neg_ℤ, nat_abs, sub_ℕ, ◌+ℤ◌, ◌-ℤ◌, ◌*ℤ◌}
use lib.Pow.{pow_pos}
use lib.Signed.{mag, lt_z, le_z, shr_z, non_neg, yes_non_neg, ◌≤ℤ◌, ◌<ℤ◌}
use mir.Facts.{to_z-of_z, to_z_pos}
use mir.Syntax.{Width, w8, w16, w32, w64, w128}
use mir.Val.{SFits, Fits, bits, hbits, to_z, of_z}

-- the parts of z above and below 0, of which one is 0
abbrev pub up : ℤ → ℕ
up (pos n) = n
up (negsuc n) = 0

abbrev pub dn : ℤ → ℕ
dn (pos n) = 0
dn (negsuc n) = suc n

-- z = p - n
pub record Dif (z : ℤ) (p n : ℕ) : Type 0 where
  pub dif : up z + n ≡ dn z + p

-- ---- the difference of an expression: a variable, a constant, and the operations

pub v : (z : ℤ) → Dif z (up z) (dn z)
v z = record { dif = NatL.add_comm (up z) (dn z) }

pub lit : (k : ℕ) → Dif (pos k) k 0
lit k = record { dif = omega arith }

-- the same difference, written otherwise
pub as-dif : {z : ℤ} {p n : ℕ} (p' n' : ℕ) → Dif z p n → p + n' ≡ p' + n → Dif z p' n'
as-dif p' n' x e = record { dif = omega (arith, x.dif) }

-- the difference of an equal number
pub at-dif : {y z : ℤ} {p n : ℕ} → y ≡ z → Dif z p n → Dif y p n
at-dif {p = p} {n = n} e x = subst (λ (y : ℤ). Dif y p n) (sym e) x

sub-dif : (a b : ℕ) → Dif (sub_ℕ a b) a b
sub-dif a b = go (ltb a b) refl
  where
    go : (t : Bool) → ltb a b ≡ t → Dif (cond t (negsuc (b - suc a)) (pos (a - b))) a b
    go true e = record { dif = omega (arith, ltb-true a b e) }
    go false e = record { dif = omega (arith, ltb-false a b e) }

plus : (a b : ℤ) → Dif (a +ℤ b) (up a + up b) (dn a + dn b)
plus (pos a) (pos b) = record { dif = omega arith }
plus (pos a) (negsuc b) = record { dif = omega (arith, (sub-dif a (suc b)).dif) }
plus (negsuc a) (pos b) = record { dif = omega (arith, (sub-dif b (suc a)).dif) }
plus (negsuc a) (negsuc b) = record { dif = omega arith }

infixl 6 ◌⊕◌ ◌⊖◌
infixl 7 ◌⊗◌ ◌⊛◌
pub ◌⊕◌ : {a b : ℤ} {p n q m : ℕ} → Dif a p n → Dif b q m → Dif (a +ℤ b) (p + q) (n + m)
◌⊕◌ {a} {b} x y = record { dif = omega (arith, (plus a b).dif) }

neg-up : (a : ℤ) → up (neg_ℤ a) ≡ dn a
neg-up (pos zero) = refl
neg-up (pos (suc n)) = refl
neg-up (negsuc n) = refl

neg-dn : (a : ℤ) → dn (neg_ℤ a) ≡ up a
neg-dn (pos zero) = refl
neg-dn (pos (suc n)) = refl
neg-dn (negsuc n) = refl

pub neg : {a : ℤ} {p n : ℕ} → Dif a p n → Dif (neg_ℤ a) n p
neg {a} x = record { dif = omega (arith, neg-up a, neg-dn a) }

pub ◌⊖◌ : {a b : ℤ} {p n q m : ℕ} → Dif a p n → Dif b q m → Dif (a -ℤ b) (p + m) (n + q)
x ⊖ y = x ⊕ neg y

times : (a b : ℤ) → Dif (a *ℤ b) (up a * up b + dn a * dn b) (up a * dn b + dn a * up b)
times (pos a) (pos b) = record { dif = omega arith }
times (pos a) (negsuc b) = record { dif = omega (arith, neg-up (pos (a * suc b)), neg-dn (pos (a * suc b))) }
times (negsuc a) (pos b) = record { dif = omega (arith, neg-up (pos (suc a * b)), neg-dn (pos (suc a * b))) }
times (negsuc a) (negsuc b) = record { dif = omega arith }

pub ◌⊗◌ : {a b : ℤ} {p n q m : ℕ} → Dif a p n → Dif b q m → Dif (a *ℤ b) (p * q + n * m) (p * m + n * q)
◌⊗◌ {a} {b} {p} {n} {q} {m} x y =
    record {
      dif = omega (
        arith,
        (times a b).dif,
        ap (λ (t : ℕ). t * up b) x.dif,
        ap (λ (t : ℕ). t * dn b) x.dif,
        ap (λ (t : ℕ). p * t) y.dif,
        ap (λ (t : ℕ). n * t) y.dif,
      );
    }

-- a natural number times an integer
pub ◌⊛◌ : (k : ℕ) {a : ℤ} {p n : ℕ} → Dif a p n → Dif (pos k *ℤ a) (k * p) (k * n)
◌⊛◌ k {a} {p} {n} x = as-dif (k * p) (k * n) (lit k ⊗ x) (omega arith)

-- a quotient that is rounded down, as z >> j rounds with m = 2 ^ j
pub shr : {z : ℤ} {p n : ℕ} (m : ℕ) → 0 < m → Dif z p n → (m * up (shr_z z m) + n ≤ p + m * dn (shr_z z m))
    × (p + m * dn (shr_z z m) < m * up (shr_z z m) + n + m)
shr {z} m h x = let w = parts z in (omega (arith, x.dif), omega (arith, x.dif))
  where
    parts : (z : ℤ) → (m * up (shr_z z m) + dn z ≤ up z + m * dn (shr_z z m)) × (up z + m * dn (shr_z z m) < m * up (shr_z z m) + dn z + m)
    parts (pos a) = (omega (arith, NatL.div-add-mod a m), omega (arith, NatL.div-add-mod a m, NatL.mod-lt a h))
    parts (negsuc a) = (omega (arith, NatL.div-add-mod a m, NatL.mod-lt a h), omega (arith, NatL.div-add-mod a m))

-- ---- equal, at most, below: a goal by the differences (`-by`), and what a fact says of them (`-of`)

pub eq-by : {a b : ℤ} {p n q m : ℕ} → Dif a p n → Dif b q m → p + m ≡ q + n → a ≡ b
eq-by {a} {b} x y e = go a b (omega (arith, x.dif, y.dif))
  where
    go : (a b : ℤ) → up a + dn b ≡ up b + dn a → a ≡ b
    go (pos a) (pos b) e = ap pos (omega arith)
    go (pos a) (negsuc b) e = let z : ⊥ = omega arith in absurd z
    go (negsuc a) (pos b) e = let z : ⊥ = omega arith in absurd z
    go (negsuc a) (negsuc b) e = ap negsuc (omega arith)

pub eq_of : {a b : ℤ} {p n q m : ℕ} → Dif a p n → Dif b q m → a ≡ b → p + m ≡ q + n
eq_of x y e = omega (arith, x.dif, y.dif, ap up e, ap dn e)

-- two tests of one difference
same_leb : (a b c d : ℕ) → a + d ≡ c + b → leb a b ≡ leb c d
same_leb a b c d e = go (leb a b) refl
  where
    go : (t : Bool) → leb a b ≡ t → t ≡ leb c d
    go true r = sym (le-leb c d (omega (arith, leb-true a b r)))
    go false r = sym (lt-leb c d (omega (arith, leb-false a b r)))

-- a test of integers is one of naturals
pub le_test : {a b : ℤ} {p n q m : ℕ} → Dif a p n → Dif b q m → le_z a b ≡ leb (p + m) (q + n)
le_test {a} {b} {p} {n} {q} {m} x y = go a b ∙ same_leb (up a + dn b) (up b + dn a) (p + m) (q + n) (omega (arith, x.dif, y.dif))
  where
    go : (a b : ℤ) → le_z a b ≡ leb (up a + dn b) (up b + dn a)
    go (pos a) (pos b) = same_leb a b (a + 0) (b + 0) (omega arith)
    go (pos a) (negsuc b) = sym (lt-leb (a + suc b) (0 + 0) (omega arith))
    go (negsuc a) (pos b) = sym (le-leb (0 + 0) (b + suc a) (omega arith))
    go (negsuc a) (negsuc b) = same_leb b a (0 + suc b) (0 + suc a) (omega arith)

pub lt_test : {a b : ℤ} {p n q m : ℕ} → Dif a p n → Dif b q m → lt_z a b ≡ ltb (p + m) (q + n)
lt_test {a} {b} {p} {n} {q} {m} x y = go a b ∙ same_leb (suc (up a + dn b)) (up b + dn a) (suc (p + m)) (q + n) (omega (arith, x.dif, y.dif))
  where
    go : (a b : ℤ) → lt_z a b ≡ ltb (up a + dn b) (up b + dn a)
    go (pos a) (pos b) = same_leb (suc a) b (suc (a + 0)) (b + 0) (omega arith)
    go (pos a) (negsuc b) = sym (le-ltb (a + suc b) (0 + 0) (omega arith))
    go (negsuc a) (pos b) = sym (lt-ltb (0 + 0) (b + suc a) (omega arith))
    go (negsuc a) (negsuc b) = same_leb (suc b) a (suc (0 + suc b)) (0 + suc a) (omega arith)

-- a flag of the code that is set or not set says, and follows from, an order of the naturals
pub lt_yes : {a b : ℤ} {p n q m : ℕ} → Dif a p n → Dif b q m → lt_z a b ≡ true → p + m < q + n
lt_yes {p = p} {n = n} {q = q} {m = m} x y e = ltb-true (p + m) (q + n) (sym (lt_test x y) ∙ e)

pub lt_no : {a b : ℤ} {p n q m : ℕ} → Dif a p n → Dif b q m → lt_z a b ≡ false → q + n ≤ p + m
lt_no {p = p} {n = n} {q = q} {m = m} x y e = ltb-false (p + m) (q + n) (sym (lt_test x y) ∙ e)

pub yes_lt : {a b : ℤ} {p n q m : ℕ} → Dif a p n → Dif b q m → p + m < q + n → lt_z a b ≡ true
yes_lt {p = p} {n = n} {q = q} {m = m} x y h = lt_test x y ∙ lt-ltb (p + m) (q + n) h

pub no_lt : {a b : ℤ} {p n q m : ℕ} → Dif a p n → Dif b q m → q + n ≤ p + m → lt_z a b ≡ false
no_lt {p = p} {n = n} {q = q} {m = m} x y h = lt_test x y ∙ le-ltb (p + m) (q + n) h

pub le_yes : {a b : ℤ} {p n q m : ℕ} → Dif a p n → Dif b q m → le_z a b ≡ true → p + m ≤ q + n
le_yes {p = p} {n = n} {q = q} {m = m} x y e = leb-true (p + m) (q + n) (sym (le_test x y) ∙ e)

pub le-no : {a b : ℤ} {p n q m : ℕ} → Dif a p n → Dif b q m → le_z a b ≡ false → q + n < p + m
le-no {p = p} {n = n} {q = q} {m = m} x y e = leb-false (p + m) (q + n) (sym (le_test x y) ∙ e)

pub yes_le : {a b : ℤ} {p n q m : ℕ} → Dif a p n → Dif b q m → p + m ≤ q + n → le_z a b ≡ true
yes_le {p = p} {n = n} {q = q} {m = m} x y h = le_test x y ∙ le-leb (p + m) (q + n) h

pub no_le : {a b : ℤ} {p n q m : ℕ} → Dif a p n → Dif b q m → q + n < p + m → le_z a b ≡ false
no_le {p = p} {n = n} {q = q} {m = m} x y h = le_test x y ∙ lt-leb (p + m) (q + n) h

pub le-by : {a b : ℤ} {p n q m : ℕ} → Dif a p n → Dif b q m → p + m ≤ q + n → a ≤ℤ b
le-by x y h = record { le = subst T (sym (yes_le x y h)) tt }

pub lt_by : {a b : ℤ} {p n q m : ℕ} → Dif a p n → Dif b q m → p + m < q + n → a <ℤ b
lt_by x y h = record { lt = subst T (sym (yes_lt x y h)) tt }

pub le_of : {a b : ℤ} {p n q m : ℕ} → Dif a p n → Dif b q m → a ≤ℤ b → p + m ≤ q + n
le_of {p = p} {n = n} {q = q} {m = m} x y h = leb→le (p + m) (q + n) (subst T (le_test x y) h.le)

pub lt_of : {a b : ℤ} {p n q m : ℕ} → Dif a p n → Dif b q m → a <ℤ b → p + m < q + n
lt_of {p = p} {n = n} {q = q} {m = m} x y h = ltb→lt (p + m) (q + n) (subst T (lt_test x y) h.lt)

-- ---- the size

pub nat_abs-is : (z : ℤ) → nat_abs z ≡ up z + dn z
nat_abs-is (pos n) = omega arith
nat_abs-is (negsuc n) = omega arith

pub one_side : (z : ℤ) → min (up z) (dn z) ≡ 0
one_side (pos n) = omega arith
one_side (negsuc n) = omega arith

pub abs-by : {z : ℤ} {p n : ℕ} (b : ℕ) → Dif z p n → p ≤ n + b → n ≤ p + b → nat_abs z ≤ b
abs-by {z} b x h k = omega (arith, x.dif, nat_abs-is z, one_side z)

pub abs-of : {z : ℤ} {p n : ℕ} {b : ℕ} → Dif z p n → nat_abs z ≤ b → (p ≤ n + b) × (n ≤ p + b)
abs-of {z} x h = (omega (arith, x.dif, nat_abs-is z), omega (arith, x.dif, nat_abs-is z))

-- ---- the width: z fits w bits, is cast to an unsigned number of w bits, is read back from its bits

mag_is : (z : ℤ) → mag z ≡ up z + pred (dn z)
mag_is (pos n) = omega arith
mag_is (negsuc n) = omega arith

pub fits_by : {w : Width} {z : ℤ} {p n : ℕ} → Dif z p n → p < n + 2 ^ hbits w → n ≤ p + 2 ^ hbits w → SFits w z
fits_by {w} {z} x h k = record { sfits = omega (arith, x.dif, mag_is z, one_side z) }

pub fits-of : {w : Width} {z : ℤ} {p n : ℕ} → Dif z p n → SFits w z → (p < n + 2 ^ hbits w) × (n ≤ p + 2 ^ hbits w)
fits-of {w} {z} x h = (omega (arith, x.dif, mag_is z, h.sfits), omega (arith, x.dif, mag_is z, h.sfits))

pub cast-by : {w : Width} {z : ℤ} {p n : ℕ} → Dif z p n → n ≤ p → p < n + 2 ^ bits w → T (non_neg z) × Fits w (nat_abs z)
cast-by {w} {z} x h k = (yes_non_neg (le-by (lit 0) x (omega arith)), record { fits = omega (arith, x.dif, nat_abs-is z, one_side z) })

pub cast_is : {z : ℤ} {p n : ℕ} → Dif z p n → n ≤ p → nat_abs z ≡ p - n
cast_is {z} x h = omega (arith, x.dif, nat_abs-is z, one_side z)

-- what the machine reads of a local that was set to z
abbrev pub reread : Width → ℤ → ℤ
reread w z = to_z w (of_z w z)

pub back : {w : Width} {z : ℤ} {p n : ℕ} → SFits w z → Dif z p n → Dif (reread w z) p n
back h x = at-dif (to_z-of_z h) x

-- a number below half the width's power, as its bits
pub low : (w : Width) (e k : ℕ) → e ≡ k → k < 2 ^ hbits w → Dif (to_z w e) k 0
low w e k p h = at-dif (ap (to_z w) p ∙ to_z_pos w h) (lit k)

-- ---- shifts to the left: the bits of z times k, cut to the width, are those of z * k where that fits

twice_half : (w : Width) → 2 ^ bits w ≡ 2 ^ hbits w + 2 ^ hbits w
twice_half w8 = refl
twice_half w16 = refl
twice_half w32 = refl
twice_half w64 = refl
twice_half w128 = refl

-- (B - s) (k + 1) = B k + (B - s (k + 1))
cut : (B s k : ℕ) → 0 < s → s * suc k ≤ B → (B - s) * suc k % B ≡ B - s * suc k
cut B s k p l =
    let t : B - s + s ≡ B = omega arith in
    let e : (B - s) * suc k ≡ B * k + (B - s * suc k) = omega (arith, ap (λ (x : ℕ). x * suc k) t) in
    ap (λ (x : ℕ). x % B) e ∙ NatL.mul-add-mod_self_left B k (B - s * suc k) ∙ NatL.mod-eq_of_lt (omega arith)

times-bits : (w : Width) (z : ℤ) (k : ℕ) → 0 < k → up z * k < 2 ^ hbits w → dn z * k ≤ 2 ^ hbits w
    → of_z w z * k % 2 ^ bits w ≡ of_z w (z *ℤ pos k)
times-bits w (pos a) k p h l = NatL.mod-eq_of_lt (omega (arith, twice_half w))
times-bits w (negsuc a) zero p h l = let z : ⊥ = omega arith in absurd z
times-bits w (negsuc a) (suc k) p h l =
    let e : suc a * suc k ≡ suc (a * suc k + k) = omega arith in
    cut (2 ^ bits w) (suc a) k (omega arith) (omega (arith, twice_half w)) ∙ ap (λ (x : ℕ). 2 ^ bits w - x) e
    ∙ sym (ap (λ (x : ℕ). of_z w (neg_ℤ (pos x))) e)

-- z << j has the bits of z * 2 ^ j
pub shl-bits : (w : Width) {z : ℤ} {p n : ℕ} (j : ℕ) → Dif z p n → p * 2 ^ j < n * 2 ^ j + 2 ^ hbits w → n * 2 ^ j ≤ p * 2 ^ j + 2 ^ hbits w
    → (of_z w z * 2 ^ j % 2 ^ bits w ≡ of_z w (z *ℤ pos (2 ^ j))) × SFits w (z *ℤ pos (2 ^ j))
shl-bits w {z} {p} {n} j x h l =
    let e = ap (λ (t : ℕ). t * 2 ^ j) x.dif in
    let b = side z (2 ^ j) in
    (times-bits w z (2 ^ j) (pow_pos j) (omega arith) (omega arith), fits_by (x ⊗ lit (2 ^ j)) (omega arith) (omega arith))
  where
    side : (z : ℤ) (k : ℕ) → min (up z * k) (dn z * k) ≡ 0
    side (pos n) k = omega arith
    side (negsuc n) k = omega arith

-- ---- `==` and `!=` of signed numbers speak of their bits

pub same_bits : (w : Width) {a b : ℤ} → SFits w a → SFits w b → of_z w a ≡ of_z w b → a ≡ b
same_bits w f g e = sym (to_z-of_z f) ∙ ap (to_z w) e ∙ to_z-of_z g

pub zero_bits : (w : Width) {z : ℤ} → SFits w z → of_z w z ≡ 0 → z ≡ pos 0
zero_bits w f e = same_bits w f (fits_by (lit 0) (omega (arith, pow_pos (hbits w))) (omega arith)) e

pub not-zero : (w : Width) (z : ℤ) → (of_z w z ≡ 0 → ⊥) → 0 < up z + dn z
not-zero w (pos zero) g = absurd (g refl)
not-zero w (pos (suc n)) g = omega arith
not-zero w (negsuc n) g = omega arith

-- the last bit
pub parity : (w : Width) (z : ℤ) → SFits w z → bit_and (of_z w z) 1 ≡ nat_abs z % 2
parity w (pos n) f = and_mask n 1
parity w (negsuc n) f = and_mask (2 ^ bits w - suc n) 1 ∙ even w f.sfits
  where
    -- 2 ^ bits w is even: an explicit half for omega
    half-even : (H s : ℕ) → s ≤ 2 * H → (2 * H - s) % 2 ≡ s % 2
    half-even H s h = omega arith

    even : (w : Width) {n : ℕ} → n < 2 ^ hbits w → (2 ^ bits w - suc n) % 2 ≡ suc n % 2
    even w {n} h =
        let e : 2 ^ bits w ≡ 2 * 2 ^ hbits w = omega (arith, twice_half w) in
        ap (λ (t : ℕ). (t - suc n) % 2) e ∙ half-even (2 ^ hbits w) (suc n) (omega arith)
