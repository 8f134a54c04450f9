-- Ours against ISO/IEC 11172-2 as specs/Standard.antt has it: where they agree, and the smallest numbers at which they do not. Assumes nothing.
use mathlib.Core.Path.{◌≡◌, refl, sym, ap, ◌∙◌}
use mathlib.Core.Bool.{Bool, true, false, cond, ◌||◌, false≢true}
use mathlib.Core.List.{List}
use Prim.Native.Nat.{ℕ, zero, suc, min, ◌+◌, ◌-◌, ◌*◌, ◌/◌, ◌%◌, ◌^◌, ◌≤◌, ◌<◌}
use native.Mathlib.Decide.{dec_lt}
use native.Mathlib.Nat.{div-add-mod, mod-lt, mul-pos}
use native.Mathlib.Omega.{arith}
use borrow.Author.Tests.{eqb-true, eq-eqb, ne_eqb, lt-ltb, le-ltb, ltb-true, ltb-false, le-leb, lt-leb}
use lib.Bits.{bit_and, bit_or, or_shifted}
use lib.Dec.{eqb, leb, ltb}
use lib.IntN.{ℤ, pos, negsuc, neg_ℤ, nat_abs, ◌+ℤ◌, ◌-ℤ◌, ◌*ℤ◌}
use lib.ListN.{length, get_or, get_or-replicate}
use lib.Signed.{quot_z, shr_z}
use lib.Pow.{pow-add, pow_mono, pow_pos}
use mir.Facts.{to_z-neg}
use mir.Syntax.{w32}
use mir.Val.{to_z}
use Rattle.laws.specs.Signed.{odd}
use Rattle.laws.proofs.Bytes.{and-bit}
use Rattle.laws.proofs.Ints.{Dif, v, lit, as-dif, neg, ◌⊕◌, ◌⊖◌, ◌⊗◌, ◌⊛◌, eq-by, yes_lt}
use Rattle.laws.proofs.Tests.{by-case, if_yes, if_no}
use Rattle.bits.specs.Bits.{bits_at, read_at}
use Rattle.bits.specs.Programs.{bits, eq_z}
use Rattle.bits.specs.Runs.{RunsAt}
use Rattle.bits.proofs.Bits.{bits-append, bits_lt}
use Rattle.bits.proofs.Programs.{served-has, served-next}
use Rattle.bits.proofs.Rules.{at_bits, at_call, at-yes, at-no, at_done}
use Rattle.codes.specs.{Matrices.non_intra_quant_matrix, Standard.code, Standard.CodeWordAt}
use Rattle.coefficients.specs.Coefficients.{escape_level}
use Rattle.coefficients.specs.Dcs.{added, by_top_bit}
use Rattle.coefficients.proofs.DcTable.{added_is}
use Rattle.coefficients.specs.Dequantise as ours
use Rattle.coefficients.specs.Dequantise.{doubled, made_odd, quantiser, dequantised}
use Rattle.coefficients.specs.Standard.{or32, dct_zz0, level_code, oddified, clipped, dct_recon, product_of, same_below, same_recon}

-- ---- the DC differential

-- -(2 ^ s) | b is a sum where b is below 2 ^ s: m is 2 ^ s - 1, and r is 2 ^ (32 - s) - 1
or_is : (s b m r : ℕ) → s ≤ 31 → 0 < b → b < 2 ^ s → 2 ^ s ≡ suc m → 2 ^ (32 - s) ≡ suc r
    → or32 (negsuc m) (pos b) ≡ pos b -ℤ pos (2 ^ s)
unfolding or32
or_is s b m r h q l e f =
    let k : 32 ≡ 32 - s + s = omega arith in
    let p : 4294967296 ≡ suc r * 2 ^ s = ap (λ (n : ℕ). 2 ^ n) k ∙ pow-add 2 (32 - s) s ∙ ap (λ (n : ℕ). n * 2 ^ s) f in
    let high : 4294967296 - suc m ≡ r * 2 ^ s = omega arith in
    let small : 2 ^ s ≤ 2147483648 = pow_mono h in
    let word : bit_or (4294967296 - suc m) b ≡ 4294967296 - suc (m - b) = ap (λ (n : ℕ). bit_or n b) high ∙ or_shifted r s b l ∙ omega arith in
    ap (to_z w32) word ∙ to_z-neg w32 (m - b) (omega arith) ∙ eq-by (v (negsuc (m - b))) (lit b ⊖ lit (2 ^ s)) (omega arith)

-- a quotient that is even and below 2 is 0
low_half : (p d q r : ℕ) → d < 2 * p → r < p → p * q + r ≡ d → q % 2 ≡ 0 → d < p
low_half p d zero r l h e z = omega arith
low_half p d (suc zero) r l h e z = let n : ⊥ = omega arith in absurd n
low_half p d (suc (suc q)) r l h e z = let n : ⊥ = omega arith in absurd n

-- the standard's C and the formula
formula_as-printed : (s d : ℕ) → 0 < s → s ≤ 31 → d < 2 ^ s → dct_zz0 s d ≡ by_top_bit s d
unfolding dct_zz0 by_top_bit
formula_as-printed s d h k l = go (d / 2 ^ (s - 1) % 2) refl
  where
    go : (b : ℕ) → d / 2 ^ (s - 1) % 2 ≡ b → dct_zz0 s d ≡ by_top_bit s d
    go zero e =
        let p = 2 ^ (s - 1) in
        let one : s ≡ 1 + (s - 1) = omega arith in
        let two : 2 ^ s ≡ 2 * p = ap (λ (n : ℕ). 2 ^ n) one ∙ pow-add 2 1 (s - 1) in
        let low : d < p = low_half p d (d / p) (d % p) (omega arith) (mod-lt d (pow_pos (s - 1))) (div-add-mod d p) e in
        let m : 2 ^ s ≡ suc (2 ^ s - 1) = omega (arith, pow_pos s) in
        let r : 2 ^ (32 - s) ≡ suc (2 ^ (32 - s) - 1) = omega (arith, pow_pos (32 - s)) in
        let off : bit_and d p ≡ 0 = and-bit d (s - 1) ∙ ap (λ (n : ℕ). n * p) e ∙ omega arith in
        rw (eq-eqb _ _ off, ne_eqb (d / p % 2) 1 (λ x. omega arith))
        (ap (λ (n : ℕ). or32 (neg_ℤ (pos n)) (pos (d + 1))) m ∙ or_is s (d + 1) (2 ^ s - 1) (2 ^ (32 - s) - 1) k (omega arith) (omega arith) m r)
    go (suc b) e =
        let p = 2 ^ (s - 1) in
        let top : d / p % 2 ≡ 1 = omega arith in
        let on : bit_and d p ≡ p = and-bit d (s - 1) ∙ ap (λ (n : ℕ). n * p) top ∙ omega arith in
        rw (ne_eqb (bit_and d p) 0 (λ x. omega (arith, pow_pos (s - 1))), eq-eqb _ _ top)

-- the standard's C and its table
pub dc_as-printed : (s d : ℕ) → 0 < s → s ≤ 8 → d < 2 ^ s → dct_zz0 s d ≡ added s d
dc_as-printed s d h k l = formula_as-printed s d h (omega arith) l ∙ sym (added_is s d h k l)

-- ---- the level behind an escape

-- bits that are there
there : (s : List ℕ) (a n w : ℕ) → a + n ≤ length s * 8 → bits_at s a n ≡ w → RunsAt (bits n) s a w (a + n)
unfolding read_at
there s a n w h e = at_bits (sym (rw (served-has s a n h) e)) (sym (served-next s a n h))

-- sixteen of them as two bytes
module _ (s : List ℕ) (a x y : ℕ) (h : a + 16 ≤ length s * 8) (small : y < 256) (e : bits_at s a 16 ≡ x * 256 + y) where
  both : (bits_at s a 8 ≡ x) × (bits_at s (a + 8) 8 ≡ y)
  both = let p = bits-append s a 8 8 in let q = bits_lt s (a + 8) 8 in (omega arith, omega arith)

  first : RunsAt (bits 8) s a x (a + 8)
  first = there s a 8 x (omega arith) both.0

  second : RunsAt (bits 8) s (a + 8) y (a + 16)
  second = let k : a + 8 + 8 ≡ a + 16 = omega arith in rw k at (there s (a + 8) 8 y (omega arith) both.1)

-- the ends of the table's rows
rows : (level_code (negsuc 254) ≡ code 16 0b1000_0000_0000_0001 (negsuc 254)) × (level_code (negsuc 127) ≡ code 16 0b1000_0000_1000_0000 (negsuc 127))
    × (level_code (negsuc 126) ≡ code 8 0b1000_0001 (negsuc 126)) × (level_code (negsuc 0) ≡ code 8 0b1111_1111 (negsuc 0))
    × (level_code (pos 1) ≡ code 8 0b0000_0001 (pos 1)) × (level_code (pos 127) ≡ code 8 0b0111_1111 (pos 127))
    × (level_code (pos 128) ≡ code 16 0b0000_0000_1000_0000 (pos 128)) × (level_code (pos 255) ≡ code 16 0b0000_0000_1111_1111 (pos 255))
unfolding level_code
rows = (refl, refl, refl, refl, refl, refl, refl, refl)

-- each code of the table is read as its level, wherever it stands
pub escape_as-printed : (level : ℤ) → 0 < nat_abs level → nat_abs level ≤ 255 → (s : List ℕ) (a : ℕ) → CodeWordAt (level_code level) s a
    → a + (level_code level).bits ≤ length s * 8
    → RunsAt escape_level s a level (a + (level_code level).bits)
unfolding level_code escape_level
escape_as-printed (pos n) l m s a = go (ltb n 128) refl
  where
    go : (t : Bool) → ltb n 128 ≡ t → CodeWordAt (cond t (code 8 n (pos n)) (code 16 n (pos n))) s a
        → a + (cond t (code 8 n (pos n)) (code 16 n (pos n))).bits ≤ length s * 8
        → RunsAt escape_level s a (pos n) (a + (cond t (code 8 n (pos n)) (code 16 n (pos n))).bits)
    go true e w h =
        let b = ltb-true n 128 e in
        at_call _ (there s a 8 n h w)
        (at-no _ (ne_eqb n 0 (λ z. omega arith)) (at-no _ (ne_eqb n 128 (λ z. omega arith)) (at-no _ (le-ltb 128 n (omega arith)) at_done)))
    go false e w h =
        at_call _ (first s a 0 n h (omega arith) (w ∙ omega arith)) (at_call _ (second s a 0 n h (omega arith) (w ∙ omega arith)) at_done)
escape_as-printed (negsuc n) l m s a = go (ltb n 127) refl
  where
    -- the level, from its low eight bits
    less : pos (255 - n) -ℤ pos 256 ≡ negsuc n
    less = eq-by (lit (255 - n) ⊖ lit 256) (v (negsuc n)) (omega arith)

    go : (t : Bool) → ltb n 127 ≡ t → CodeWordAt (cond t (code 8 (255 - n) (negsuc n)) (code 16 (32768 + (255 - n)) (negsuc n))) s a
        → a + (cond t (code 8 (255 - n) (negsuc n)) (code 16 (32768 + (255 - n)) (negsuc n))).bits ≤ length s * 8
        → RunsAt escape_level s a (negsuc n) (a + (cond t (code 8 (255 - n) (negsuc n)) (code 16 (32768 + (255 - n)) (negsuc n))).bits)
    go true e w h =
        let b = ltb-true n 127 e in
        rw (← less)
        (at_call _ (there s a 8 (255 - n) h w)
        (at-no _ (ne_eqb (255 - n) 0 (λ z. omega arith))
        (at-no _ (ne_eqb (255 - n) 128 (λ z. omega arith)) (at-yes _ (lt-ltb 128 (255 - n) (omega arith)) at_done))))
    go false e w h =
        let b = ltb-false n 127 e in
        rw (← less)
        (at_call _ (first s a 128 (255 - n) h (omega arith) w) (at_call _ (second s a 128 (255 - n) h (omega arith) w) at_done))

-- ---- dequantisation

same_clip : (x : ℤ) → ours.clipped x ≡ clipped x
same_clip (pos n) = refl
same_clip (negsuc n) = refl

-- a quotient above 0
same-odd : (q : ℕ) → 0 < q → made_odd (pos q) ≡ oddified (pos q)
same-odd zero h = let z : ⊥ = omega arith in absurd z
same-odd (suc q) h = rw (lt-ltb 0 (suc q) h)

-- and one below
same-odd-below : (q : ℕ) → made_odd (negsuc q) ≡ oddified (negsuc q)
same-odd-below q = refl

same_test : (x : ℤ) → eq_z x x ≡ true
same_test (pos n) = eq-eqb n n refl
same_test (negsuc n) = eq-eqb n n refl

test-same : (x y : ℤ) → eq_z x y ≡ true → x ≡ y
test-same (pos m) (pos n) e = ap pos (eqb-true m n e)
test-same (pos m) (negsuc n) e = absurd (false≢true e)
test-same (negsuc m) (pos n) e = absurd (false≢true e)
test-same (negsuc m) (negsuc n) e = ap negsuc (eqb-true m n e)

-- the two quotients become the same number
abbrev Same : ℤ → ℤ → Bool
Same x y = eq_z (clipped (oddified x)) (ours.clipped (made_odd y))

-- ---- a level above 0

above : (p : ℕ) → leb 16 p ≡ Same (pos (p / 16)) (pos (p / 16))
unfolding odd
above p = go (dec_lt p 16)
  where
    go : Dec (p < 16) → leb 16 p ≡ Same (pos (p / 16)) (pos (p / 16))
    go (yes l) = let e : p / 16 ≡ 0 = omega arith in lt-leb 16 p l ∙ sym (ap (λ (q : ℕ). Same (pos q) (pos q)) e)
    go (no l) =
        le-leb 16 p (omega arith) ∙ sym (same_test (clipped (oddified (pos (p / 16)))))
        ∙ ap (eq_z (clipped (oddified (pos (p / 16))))) (sym (same_clip (made_odd (pos (p / 16))) ∙ ap clipped (same-odd (p / 16) (omega arith))))

-- ---- the level 0, of which the Rust makes 1 or more

clip-some : (i : ℕ) → 0 < i → eq_z (pos 0) (ours.clipped (pos i)) ≡ false
clip-some i h = by-case (λ (x : ℤ). eq_z (pos 0) x ≡ false) (ltb 2047 i) (λ e. refl) (λ e. ne_eqb 0 i (λ z. omega arith))

some : (k : ℕ) → eq_z (pos 0) (ours.clipped (made_odd (pos k))) ≡ false
unfolding odd
some zero = refl
some (suc k) = go (suc k % 2) refl
  where
    go : (m : ℕ) → suc k % 2 ≡ m → eq_z (pos 0) (ours.clipped (made_odd (pos (suc k)))) ≡ false
    go zero e =
        let less : pos (suc k) -ℤ pos 1 ≡ pos k = eq-by (lit (suc k) ⊖ lit 1) (lit k) (omega arith) in
        let down : made_odd (pos (suc k)) ≡ pos k = if_no _ (ne_eqb (suc k % 2) 1 (λ f. omega arith)) (if_yes _ (lt-ltb 0 (suc k) (omega arith)) less) in
        ap (λ (x : ℤ). eq_z (pos 0) (ours.clipped x)) down ∙ clip-some k (omega arith)
    go (suc m) e =
        let same : made_odd (pos (suc k)) ≡ pos (suc k) = if_yes _ (eq-eqb (suc k % 2) 1 (omega arith)) refl in
        ap (λ (x : ℤ). eq_z (pos 0) (ours.clipped x)) same ∙ clip-some (suc k) (omega arith)

-- ---- a level below 0

clip-below : (i : ℕ) → clipped (negsuc i) ≡ negsuc (min i 2047)
clip-below i =
    by-case (λ (x : ℤ). x ≡ negsuc (min i 2047)) (ltb 2047 i) (λ e. let l = ltb-true 2047 i e in ap negsuc (omega arith))
    (λ e. let l = ltb-false 2047 i e in ap negsuc (omega arith))

-- -(i + 1) by the printed rule and -(i + 3) by the Rust's, where i is even
both-clipped : (i : ℕ) → i % 2 ≡ 0 → leb 2050 (suc (suc i)) ≡ eq_z (clipped (negsuc i)) (ours.clipped (negsuc (suc (suc i))))
both-clipped i h = go (dec_lt i 2047) ∙ sym (λ j. eq_z (clip-below i j) ((same_clip (negsuc (suc (suc i))) ∙ clip-below (suc (suc i))) j))
  where
    go : Dec (i < 2047) → leb 2050 (suc (suc i)) ≡ eqb (min i 2047) (min (suc (suc i)) 2047)
    go (yes l) = lt-leb 2050 (suc (suc i)) (omega arith) ∙ sym (ne_eqb (min i 2047) (min (suc (suc i)) 2047) (λ e. omega arith))
    go (no l) = le-leb 2050 (suc (suc i)) (omega arith) ∙ sym (eq-eqb (min i 2047) (min (suc (suc i)) 2047) (omega arith))

-- r above 0: the quotients are -k and -(k + 1)
rounded : (k r : ℕ) → 0 < r → same_below k r ≡ Same (neg_ℤ (pos k)) (negsuc k)
unfolding odd
rounded zero r h = ap (λ (t : Bool). cond t false false) (ne_eqb r 0 (λ e. omega arith))
rounded (suc j) r h =
    ap (λ (t : Bool). cond t (leb 1 (suc j)) (eqb (suc j % 2) 1 || leb 2050 (suc j))) (ne_eqb r 0 (λ e. omega arith)) ∙ go (suc j % 2) refl
  where
    even : (j : ℕ) → suc j % 2 ≡ 0 → (eqb (suc j % 2) 1 || leb 2050 (suc j)) ≡ Same (negsuc j) (negsuc (suc j))
    even zero e = let z : ⊥ = omega arith in absurd z
    even (suc i) e =
        let up : negsuc (suc i) -ℤ negsuc 0 ≡ negsuc i = eq-by (v (negsuc (suc i)) ⊖ v (negsuc 0)) (v (negsuc i)) (omega arith) in
        let theirs : oddified (negsuc (suc i)) ≡ negsuc i = if_no _ (ne_eqb (suc (suc i) % 2) 1 (λ f. omega arith)) up in
        let ours-is : made_odd (negsuc (suc (suc i))) ≡ negsuc (suc (suc i)) = if_yes _ (eq-eqb (suc (suc (suc i)) % 2) 1 (omega arith)) refl in
        ap (λ (t : Bool). t || leb 2050 (suc (suc i))) (ne_eqb (suc (suc i) % 2) 1 (λ f. omega arith)) ∙ both-clipped i (omega arith)
        ∙ sym (λ j. eq_z (clipped (theirs j)) (ours.clipped (ours-is j)))

    go : (m : ℕ) → suc j % 2 ≡ m → (eqb (suc j % 2) 1 || leb 2050 (suc j)) ≡ Same (negsuc j) (negsuc (suc j))
    go zero e = even j e
    go (suc m) e =
        let one : suc j % 2 ≡ 1 = omega arith in
        let down : negsuc (suc j) +ℤ pos 1 ≡ negsuc j = eq-by (v (negsuc (suc j)) ⊕ lit 1) (v (negsuc j)) (omega arith) in
        let theirs : oddified (negsuc j) ≡ negsuc j = if_yes _ (eq-eqb (suc j % 2) 1 one) refl in
        let ours-is : made_odd (negsuc (suc j)) ≡ negsuc j = if_no _ (ne_eqb (suc (suc j) % 2) 1 (λ f. omega arith)) down in
        ap (λ (t : Bool). t || leb 2050 (suc j)) (eq-eqb (suc j % 2) 1 one)
        ∙ sym ((λ i. eq_z (clipped (theirs i)) (ours.clipped (ours-is i))) ∙ ap (eq_z (clipped (negsuc j))) (same_clip (negsuc j))
        ∙ same_test (clipped (negsuc j)))

below : (p : ℕ) → same_below (p / 16) (p % 16) ≡ Same (quot_z (neg_ℤ (pos p)) (pos 16)) (shr_z (neg_ℤ (pos p)) 16)
unfolding odd
below zero = refl
below (suc p) = go (suc p / 16) (suc p % 16) refl refl
  where
    go : (k r : ℕ) → suc p / 16 ≡ k → suc p % 16 ≡ r → same_below k r ≡ Same (neg_ℤ (pos k)) (negsuc (p / 16))
    go zero zero e f = let z : ⊥ = omega arith in absurd z
    go (suc j) zero e f =
        let q : p / 16 ≡ j = omega arith in
        le-leb 1 (suc j) (omega arith) ∙ sym (ap (λ (n : ℕ). Same (negsuc j) (negsuc n)) q
        ∙ ap (eq_z (clipped (oddified (negsuc j)))) (same_clip (made_odd (negsuc j)))
        ∙ same_test (clipped (oddified (negsuc j))))
    go k (suc r) e f =
        let q : p / 16 ≡ k = omega arith in
        rounded k (suc r) (omega arith) ∙ ap (λ (n : ℕ). Same (neg_ℤ (pos k)) (negsuc n)) (sym q)

-- products of -m, by numbers that are not below 0
times_below : {z : ℤ} {m : ℕ} (k : ℕ) → Dif z 0 m → Dif (z *ℤ pos k) 0 (m * k)
times_below {z} {m} k d = as-dif 0 (m * k) (d ⊗ lit k) (omega arith)

product-below : {z : ℤ} {m : ℕ} (scale quant : ℕ) → Dif z 0 m → z *ℤ pos scale *ℤ pos quant ≡ neg_ℤ (pos (m * scale * quant))
product-below {z} {m} scale quant d = eq-by (times_below quant (times_below scale d)) (neg (lit (m * scale * quant))) refl

doubled-below : (intra : Bool) (n : ℕ) → Dif (doubled intra (negsuc n)) 0 (2 * suc n + cond intra 0 1)
doubled-below true n = as-dif 0 (2 * suc n + 0) (v (negsuc n) ⊗ lit 2) (omega arith)
doubled-below false n =
    let d = v (negsuc n) ⊗ lit 2 in
    rw (yes_lt d (lit 0) (omega arith)) (as-dif 0 (2 * suc n + 1) (d ⊖ lit 1) (omega arith))

printed-below : (intra : Bool) (n : ℕ) → Dif (cond intra (pos 2 *ℤ negsuc n) (pos 2 *ℤ negsuc n +ℤ negsuc 0)) 0 (2 * suc n + cond intra 0 1)
printed-below true n = as-dif 0 (2 * suc n + 0) (2 ⊛ v (negsuc n)) (omega arith)
printed-below false n = as-dif 0 (2 * suc n + 1) ((2 ⊛ v (negsuc n)) ⊕ v (negsuc 0)) (omega arith)

-- ---- both ways

-- the rule says where the two rules of reconstruction give the same number, for every level, scale and entry
pub same-is : (intra : Bool) (level : ℤ) (scale quant : ℕ)
    → same_recon intra level scale quant ≡ eq_z (dct_recon intra level scale quant) (dequantised (quantiser intra scale) level quant)
unfolding same_recon dct_recon dequantised odd
same-is true (pos zero) scale quant = sym (λ j. Same (pos (nothing j)) (pos (nothing j)))
  where
    nothing : 0 * scale * quant / 16 ≡ 0
    nothing = omega arith
same-is false (pos zero) scale quant = sym (ap (λ (q : ℕ). Same (pos q) (pos (1 * scale * quant / 16))) nothing ∙ some (1 * scale * quant / 16))
  where
    nothing : 0 * scale * quant / 16 ≡ 0
    nothing = omega arith
same-is true (pos (suc n)) scale quant =
    above (product_of true (suc n) scale quant)
    ∙ (λ j. Same (pos ((two j) * scale * quant / 16)) (pos (ours-two j * scale * quant / 16)))
  where
    two : 2 * suc n + 0 ≡ 2 * suc n
    two = omega arith

    ours-two : 2 * suc n + 0 ≡ suc n * 2
    ours-two = omega arith
same-is false (pos (suc n)) scale quant =
    rw (le-ltb (suc n * 2) 0 (omega arith))
    (above (product_of false (suc n) scale quant) ∙ ap (λ (m : ℕ). Same (pos (product_of false (suc n) scale quant / 16)) (pos (m * scale * quant / 16))) more)
  where
    more : 2 * suc n + 1 ≡ suc n * 2 + 1
    more = omega arith
same-is intra (negsuc n) scale quant =
    below (product_of intra (suc n) scale quant)
    ∙ (λ j. Same (quot_z (sym (product-below scale quant (printed-below intra n)) j) (pos 16))
    (shr_z (sym (product-below scale quant (doubled-below intra n)) j) 16))

pub same-recon : (intra : Bool) (level : ℤ) (scale quant : ℕ) → same_recon intra level scale quant ≡ true
    → dct_recon intra level scale quant ≡ dequantised (quantiser intra scale) level quant
same-recon intra level scale quant h = test-same _ _ (sym (same-is intra level scale quant) ∙ h)

pub recon-same : (intra : Bool) (level : ℤ) (scale quant : ℕ) → dct_recon intra level scale quant ≡ dequantised (quantiser intra scale) level quant
    → same_recon intra level scale quant ≡ true
recon-same intra level scale quant h =
    same-is intra level scale quant ∙ ap (eq_z (dct_recon intra level scale quant)) (sym h) ∙ same_test (dct_recon intra level scale quant)

-- equal for every level above 0 whose product before the division is at least 16
pub recon_as-printed : (intra : Bool) (n scale quant : ℕ) → 0 < n → 16 ≤ product_of intra n scale quant
    → dct_recon intra (pos n) scale quant ≡ dequantised (quantiser intra scale) (pos n) quant
unfolding same_recon
recon_as-printed intra zero scale quant h l = let z : ⊥ = omega arith in absurd z
recon_as-printed intra (suc n) scale quant h l = same-recon intra (pos (suc n)) scale quant (le-leb 16 (product_of intra (suc n) scale quant) l)

-- with the default non-intra matrix, whose entries are all 16, equal for every level but 0 at every scale but 0: the division is exact
pub default_as-printed : (level : ℤ) (scale k : ℕ) → 0 < nat_abs level → 0 < scale → k < 64
    → dct_recon false level scale (get_or non_intra_quant_matrix k 0) ≡ dequantised (quantiser false scale) level (get_or non_intra_quant_matrix k 0)
unfolding non_intra_quant_matrix same_recon
default_as-printed level scale k h l b =
    same-recon false level scale _ (ap (same_recon false level scale) (get_or-replicate 64 k 16 0 b) ∙ sixteen level h)
  where
    some-product : (n : ℕ) → 0 < n → 0 < (2 * n + 1) * scale
    some-product n i = mul-pos (omega arith) l

    sixteen : (level : ℤ) → 0 < nat_abs level → same_recon false level scale 16 ≡ true
    sixteen (pos zero) i = let z : ⊥ = omega arith in absurd z
    sixteen (pos (suc n)) i = let p = (2 * suc n + 1) * scale in let q = some-product (suc n) i in le-leb 16 (p * 16) (omega arith)
    sixteen (negsuc n) i =
        let p = (2 * suc n + 1) * scale in
        let q : 0 < p = some-product (suc n) i in
        let k : p * 16 / 16 ≡ p = omega arith in
        let r : p * 16 % 16 ≡ 0 = omega arith in
        rw (k, r) (le-leb 1 p q)

-- ---- the smallest numbers at which they differ: a level below 0, since the quotient rounds down; a level of 0; a product below 16

pub level-below-0 : (dequantised (quantiser true 1) (negsuc 0) 19 ≡ negsuc 2) × (dct_recon true (negsuc 0) 1 19 ≡ negsuc 0)
unfolding dequantised dct_recon odd
level-below-0 = (refl, refl)

pub level-0 : (dequantised (quantiser true 1) (pos 0) 1 ≡ pos 1) × (dct_recon true (pos 0) 1 1 ≡ pos 0)
unfolding dequantised dct_recon odd
level-0 = (refl, refl)

pub product-below-16 : (dequantised (quantiser true 1) (pos 1) 1 ≡ pos 1) × (dct_recon true (pos 1) 1 1 ≡ pos 0)
unfolding dequantised dct_recon odd
product-below-16 = (refl, refl)
