-- Bytes and signed numbers: casts, the clamp to a byte, quotients rounded toward zero, single bits.
use mathlib.Core.Path.{◌≡◌, refl, sym, ap, ◌∙◌}
use mathlib.Core.Bool.{true, false, not}
use Prim.Native.Nat.{ℕ, zero, suc, ◌*◌, ◌/◌, ◌%◌, ◌^◌, ◌≤◌, ◌<◌, min}
use native.Mathlib.Nat.{zero-div, div-le_self}
use native.Mathlib.Omega.{arith}
use borrow.Author.Tests.{eq-eqb, ne_eqb}
use lib.Bits.{bit_and, and_high}
use lib.Dec.{T, ltb, eqb}
use lib.IntN.{ℤ, pos, negsuc, nat_abs}
use lib.Pow.{pow_pos, pow-add, shl_exact}
use lib.Signed.{non_neg, quot_z}
use mir.Syntax.{Width, w8}
use mir.Val.{SFits, Fits, bits, hbits, to_z, of_z}
use Rattle.laws.specs.Signed.{clamp255, half_toward_zero, odd}
use Rattle.laws.proofs.Ints.{Dif, up, dn, v, lit, neg, as-dif, at-dif, one_side, fits_by, fits-of, cast-by, parity}
use Rattle.laws.proofs.Nums.{Num, num, read, write}

-- ---- casts. That a cast fits is `fits` of Nums at the new width, and `search needs` for an unsigned number that is cast to a wider signed one.

-- unsigned to signed, as u8 to i32: the bits stay, and are read as n
pub natural-num : (w : Width) (n B : ℕ) → n ≤ B → T (ltb B (2 ^ hbits w)) → Num (to_z w n) (pos n) B
natural-num w n B h t = read {w = w} (write (num h)) t

-- signed to unsigned, as i32 to u8: the value is nat_abs z, which is n
pub cast_unsigned : {w : Width} {z : ℤ} {n : ℕ} → z ≡ pos n → n < 2 ^ bits w → T (non_neg z) × Fits w (nat_abs z)
cast_unsigned {n = n} e h = cast-by (at-dif e (lit n)) (omega arith) (omega arith)

-- ---- the clamp to a byte

pub clamp-is : (z : ℤ) → clamp255 z ≡ min (up z) 255
unfolding clamp255
clamp-is (pos n) = refl
clamp-is (negsuc n) = omega arith

pub clamp_cast : (z : ℤ) {y : ℤ} → y ≡ pos (clamp255 z) → T (non_neg y) × Fits w8 (nat_abs y)
clamp_cast z e = cast_unsigned e (omega (arith, clamp-is z))

-- ---- quotient and remainder of a signed number by m, rounded toward zero

pub quot-dif : (z : ℤ) (m : ℕ) → Dif (quot_z z (pos m)) (up z / m) (dn z / m)
quot-dif (pos a) m = as-dif (a / m) (0 / m) (lit (a / m)) (omega (arith, zero-div m))
quot-dif (negsuc a) m = as-dif (0 / m) (suc a / m) (neg (lit (suc a / m))) (omega (arith, zero-div m))

pub quot_fits : {w : Width} {z : ℤ} (m : ℕ) → SFits w z → SFits w (quot_z z (pos m))
quot_fits {w} {z} m f =
    let b = fits-of (v z) f in
    fits_by (quot-dif z m) (omega (arith, one_side z, div-le_self (up z) m)) (omega (arith, one_side z, div-le_self (dn z) m))

pub half_is : (z : ℤ) → quot_z z (pos 2) ≡ half_toward_zero z
unfolding half_toward_zero
half_is (pos n) = refl
half_is (negsuc n) = refl

-- ---- is it odd: `z & 1`, as a flag and as a branch's fact

bit-flag : (k : ℕ) → k < 2 → not (eqb k 0) ≡ eqb k 1
bit-flag zero h = refl
bit-flag (suc zero) h = refl
bit-flag (suc (suc k)) h = let z : ⊥ = omega arith in absurd z

module _ (w : Width) {z : ℤ} (f : SFits w z) where
  pub odd-one : eqb (bit_and (of_z w z) 1) 1 ≡ odd z
  unfolding odd
  odd-one = ap (λ (k : ℕ). eqb k 1) (parity w z f)

  pub odd-some : not (eqb (bit_and (of_z w z) 1) 0) ≡ odd z
  unfolding odd
  odd-some = ap (λ (k : ℕ). not (eqb k 0)) (parity w z f) ∙ bit-flag (nat_abs z % 2) (omega arith)

  pub odd-yes : (bit_and (of_z w z) 1 ≡ 0 → ⊥) → odd z ≡ true
  odd-yes g = sym odd-some ∙ ap not (ne_eqb (bit_and (of_z w z) 1) 0 g)

  pub odd-no : bit_and (of_z w z) 1 ≡ 0 → odd z ≡ false
  odd-no e = sym odd-some ∙ ap not (eq-eqb (bit_and (of_z w z) 1) 0 e)

-- ---- bit k of an unsigned number: `n & (1 << k)`

pub shl_one : (w : Width) (k : ℕ) → k < bits w → 1 * 2 ^ k % 2 ^ bits w ≡ 2 ^ k
shl_one w k h = shl_exact 1 k (bits w) (omega arith) (omega arith) ∙ omega arith

pub and-bit : (n k : ℕ) → bit_and n (2 ^ k) ≡ n / 2 ^ k % 2 * 2 ^ k
and-bit n k = ap (bit_and n) (omega (arith, pow-add 2 1 k)) ∙ and_high n 1 k

pub bit-no : (n k : ℕ) → bit_and n (2 ^ k) ≡ 0 → n / 2 ^ k % 2 ≡ 0
bit-no n k e = go (n / 2 ^ k % 2) refl
  where
    go : (b : ℕ) → n / 2 ^ k % 2 ≡ b → b ≡ 0
    go zero r = refl
    go (suc b) r = let z : ⊥ = omega (arith, and-bit n k, ap (λ (t : ℕ). t * 2 ^ k) r, pow_pos k) in absurd z

pub bit-yes : (n k : ℕ) → (bit_and n (2 ^ k) ≡ 0 → ⊥) → n / 2 ^ k % 2 ≡ 1
bit-yes n k g = go (n / 2 ^ k % 2) refl
  where
    go : (b : ℕ) → n / 2 ^ k % 2 ≡ b → b ≡ 1
    go zero r = absurd (g (and-bit n k ∙ ap (λ (t : ℕ). t * 2 ^ k) r ∙ omega arith))
    go (suc b) r = omega arith
