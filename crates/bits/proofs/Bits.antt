-- Laws of the bits of a list of bytes: a run of bits splits, a byte is its eight bits, and bits in the middle of a run.
-- Assumes nothing.
use mathlib.Core.Path.{◌≡◌, refl, ap, sym, ◌∙◌}
use mathlib.Core.List.{List}
use Prim.Native.Nat.{ℕ, zero, suc, ◌+◌, ◌-◌, ◌*◌, ◌/◌, ◌%◌, ◌^◌, ◌<◌, ◌≤◌}
use native.Mathlib.Omega.{arith}
use native.Mathlib.Nat.{add-zero, add-suc, add_assoc, mod-eq_of_lt, mod-eq-sub-div-mul, div-mul-le_self, div-one, div-div-eq-div-mul, pow-suc}
use native.Mathlib.Nat.{div-le_self}
use lib.Arith.{digits_div, digits_mod}
use lib.Pow.{high, low}
use lib.ListN.{get_or}
use Rattle.bits.specs.Bits.{bit_at, bits_at}

pub bits-append : (s : List ℕ) (a m n : ℕ) → bits_at s a (m + n) ≡ bits_at s a m * 2 ^ n + bits_at s (a + m) n
unfolding bits_at
bits-append s a m zero = rw add-zero (omega arith)
bits-append s a m (suc n) = rw (add-suc, add_assoc) (omega (arith, bits-append s a m n, ap (λ (k : ℕ). bits_at s a m * k) (pow-suc 2 n)))

pub bit_lt : (s : List ℕ) (k : ℕ) → bit_at s k < 2
unfolding bit_at
bit_lt s k = omega arith

pub bits_lt : (s : List ℕ) (a n : ℕ) → bits_at s a n < 2 ^ n
unfolding bits_at
bits_lt s a zero = omega arith
bits_lt s a (suc n) = omega (arith, bits_lt s a n, bit_lt s (a + n))

bit_in : (s : List ℕ) (b j : ℕ) → j < 8 → bit_at s (b * 8 + j) ≡ get_or s b 0 / 2 ^ (7 - j) % 2
unfolding bit_at
bit_in s b j h = rw (digits_div b h, digits_mod b h)

-- the first j bits of a byte
byte-front : (s : List ℕ) (b j d : ℕ) → j + d ≡ 8 → get_or s b 0 < 256 → bits_at s (b * 8) j ≡ get_or s b 0 / 2 ^ d
unfolding bits_at
byte-front s b zero d e h =
    let e8 : d ≡ 8 = omega arith in
    rw e8 (omega arith)
byte-front s b (suc j) d e h =
    let eq : 7 - j ≡ d = omega arith in
    rw (byte-front s b j (suc d) (omega arith) h, bit_in s b j (omega arith), eq, pow-suc 2 d, ← div-div-eq-div-mul (get_or s b 0) (2 ^ d) 2) (omega arith)

pub byte-bits : (s : List ℕ) (b : ℕ) → get_or s b 0 < 256 → bits_at s (b * 8) 8 ≡ get_or s b 0
byte-bits s b h = byte-front s b 8 0 refl h ∙ div-one (get_or s b 0)

-- one byte more
byte_more : (s : List ℕ) (b n m : ℕ) → m ≡ n * 8 → get_or s (b + n) 0 < 256 → bits_at s (b * 8) (m + 8) ≡ bits_at s (b * 8) m * 256 + get_or s (b + n) 0
byte_more s b n m e h =
    bits-append s (b * 8) m 8
    ∙ ap (λ (k : ℕ). bits_at s (b * 8) m * 256 + bits_at s k 8) (omega arith)
    ∙ ap (λ (k : ℕ). bits_at s (b * 8) m * 256 + k) (byte-bits s (b + n) h)

-- five bytes joined, the first the highest
pub five-bytes : (s : List ℕ) (b : ℕ) → ((i : ℕ) → get_or s i 0 < 256)
    → get_or s b 0 * 4294967296 + get_or s (b + 1) 0 * 16777216 + get_or s (b + 2) 0 * 65536 + get_or s (b + 3) 0 * 256 + get_or s (b + 4) 0
    ≡ bits_at s (b * 8) 40
five-bytes s b h =
    omega (
      arith,
      byte-bits s b (h b),
      byte_more s b 1 8 refl (h (b + 1)),
      byte_more s b 2 16 refl (h (b + 2)),
      byte_more s b 3 24 refl (h (b + 3)),
      byte_more s b 4 32 refl (h (b + 4)),
    )

-- c bits after the first o, and r more after them
pub bits_mid : (s : List ℕ) (a o c r : ℕ) → bits_at s a (o + c + r) / 2 ^ r % 2 ^ c ≡ bits_at s (a + o) c
bits_mid s a o c r =
    rw (bits-append s a (o + c) r, high (bits_at s a (o + c)) r (bits_lt s (a + (o + c)) r), bits-append s a o c)
    (low (bits_at s a o) c (bits_lt s (a + o) c))

-- what the code computes for w % 2 ^ n
pub cut : (w n : ℕ) → w < 2 ^ 64 → w - (w / 2 ^ n * 2 ^ n) % 2 ^ 64 ≡ w % 2 ^ n
cut w n h =
    let le : w / 2 ^ n * 2 ^ n ≤ w = div-mul-le_self w (2 ^ n) in
    let lt : w / 2 ^ n * 2 ^ n < 2 ^ 64 = omega arith in
    rw (mod-eq_of_lt lt) (sym (mod-eq-sub-div-mul w (2 ^ n)))

-- the code's number, from the window at the byte of `at`
module _ (w at n : ℕ) (s : List ℕ) (e : w ≡ bits_at s (at / 8 * 8) 40) (le : n ≤ 32) where
  pub window-bits : w / 2 ^ (40 - at % 8 - n) - (w / 2 ^ (40 - at % 8 - n) / 2 ^ n * 2 ^ n) % 2 ^ 64 ≡ bits_at s at n
  window-bits =
      let r = 40 - at % 8 - n in
      let small : w < 2 ^ 40 = rw e (bits_lt s (at / 8 * 8) 40) in
      let h : w / 2 ^ r < 2 ^ 64 = omega (arith, div-le_self w (2 ^ r)) in
      let e40 : 40 ≡ at % 8 + n + r = omega arith in
      let e-at : at / 8 * 8 + at % 8 ≡ at = omega arith in
      cut (w / 2 ^ r) n h
      ∙ ap (λ (k : ℕ). k / 2 ^ r % 2 ^ n) (e ∙ ap (bits_at s (at / 8 * 8)) e40)
      ∙ bits_mid s (at / 8 * 8) (at % 8) n r
      ∙ ap (λ (k : ℕ). bits_at s k n) e-at

-- two bytes, as the code reads and joins them
pub two_bytes : (s : List ℕ) (b : ℕ) {v w : ℕ} → (v ≡ get_or s b 0) × (v < 256) → (w ≡ get_or s (b + 1) 0) × (w < 256) → v * 256 + w ≡ bits_at s (b * 8) 16
two_bytes s b p q = omega (arith, byte-bits s b (omega arith), byte_more s b 1 8 refl (omega arith))

-- the eight bits at `at` of the two bytes from its byte on
pub eight-bits : (s : List ℕ) (at w : ℕ) → w ≡ bits_at s (at / 8 * 8) 16 → w / 2 ^ (8 - at % 8) % 256 ≡ bits_at s at 8
eight-bits s at w e =
    let r = 8 - at % 8 in
    let e16 : 16 ≡ at % 8 + 8 + r = omega arith in
    let e-at : at / 8 * 8 + at % 8 ≡ at = omega arith in
    ap (λ (k : ℕ). k / 2 ^ r % 256) (e ∙ ap (bits_at s (at / 8 * 8)) e16)
    ∙ bits_mid s (at / 8 * 8) (at % 8) 8 r
    ∙ ap (λ (k : ℕ). bits_at s k 8) e-at

pub one_bit : (s : List ℕ) (at : ℕ) → get_or s (at / 8) 0 / 2 ^ (7 - at % 8) % 2 ≡ bits_at s at 1
unfolding bits_at bit_at
one_bit s at = rw add-zero (omega arith)
