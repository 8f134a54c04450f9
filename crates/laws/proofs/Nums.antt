-- Signed code step by step: `Num z s B` says that the machine's term z is the definition's number s, and |s| ≤ B. The combinators follow the code.
-- `fits` answers the need of an operation at width w, `rd` reads a local that holds the result, and `.is` is the result. The bounds are numerals, so
-- they compute, and so does the test that a bound is inside the width.
use mathlib.Core.Path.{◌≡◌, refl, sym, ap, ap₂, ◌∙◌, subst}
use Prim.Native.Nat.{ℕ, zero, suc, ◌+◌, ◌*◌, ◌-◌, ◌/◌, ◌%◌, ◌^◌, ◌≤◌}
use native.Mathlib.Nat.{mul-le-mul, mul-le-mul_right, add-div_right}
use native.Mathlib.Omega.{arith}
use lib.Dec.{T, ltb, ltb→lt}
use lib.IntN.{ℤ, pos, negsuc, neg_ℤ, nat_abs, ◌+ℤ◌, ◌-ℤ◌, ◌*ℤ◌, +ℤ_idl}
use lib.Pow.{pow_pos, shr_mono}
use lib.Signed.{shr_z}
use mir.Facts.{to_z-of_z}
use mir.Syntax.{Width}
use mir.Val.{SFits, bits, hbits, to_z, of_z}
use Rattle.laws.proofs.Ints.{v, ◌⊕◌, nat_abs-is, abs-by, abs-of, fits_by, reread, shl-bits}

pub record Num (z s : ℤ) (B : ℕ) : Type 0 where
  pub is : z ≡ s
  pub bound : nat_abs s ≤ B

pub num : {s : ℤ} {B : ℕ} → nat_abs s ≤ B → Num s s B
num h = record { is = refl; bound = h }

pub con : (k : ℕ) → Num (pos k) (pos k) k
con k = num (omega arith)

-- ---- the size of a result

add_abs : (a b : ℤ) {A B : ℕ} → nat_abs a ≤ A → nat_abs b ≤ B → nat_abs (a +ℤ b) ≤ A + B
add_abs a b {A} {B} h k = let x = abs-of (v a) h in let y = abs-of (v b) k in abs-by (A + B) (v a ⊕ v b) (omega arith) (omega arith)

pub neg_abs : (a : ℤ) → nat_abs (neg_ℤ a) ≡ nat_abs a
neg_abs (pos zero) = refl
neg_abs (pos (suc n)) = refl
neg_abs (negsuc n) = refl

pub mul_abs : (a b : ℤ) → nat_abs (a *ℤ b) ≡ nat_abs a * nat_abs b
mul_abs (pos a) (pos b) = refl
mul_abs (pos a) (negsuc b) = neg_abs (pos (a * suc b))
mul_abs (negsuc a) (pos b) = neg_abs (pos (suc a * b))
mul_abs (negsuc a) (negsuc b) = refl

-- the bound is rounded up, since a shift of a number below 0 rounds down
shr_abs : (s : ℤ) (k : ℕ) {B : ℕ} → nat_abs s ≤ B → nat_abs (shr_z s (2 ^ k)) ≤ (B + (2 ^ k - 1)) / 2 ^ k
shr_abs (pos a) k h = shr_mono k (omega arith)
shr_abs (negsuc a) k {B} h =
    let p = pow_pos k in
    let q : (a + 2 ^ k) / 2 ^ k ≤ (B + (2 ^ k - 1)) / 2 ^ k = shr_mono k (omega arith) in
    omega (arith, add-div_right a p)

-- ---- the operations

infixl 6 ◌⊞◌ ◌⊟◌
infixl 7 ◌⊠◌
pub ◌⊞◌ : {z z' s s' : ℤ} {A B : ℕ} → Num z s A → Num z' s' B → Num (z +ℤ z') (s +ℤ s') (A + B)
◌⊞◌ {s = s} {s' = s'} x y = record { is = ap₂ ◌+ℤ◌ x.is y.is; bound = add_abs s s' x.bound y.bound }

pub negate : {z s : ℤ} {B : ℕ} → Num z s B → Num (neg_ℤ z) (neg_ℤ s) B
negate {s = s} {B = B} x = record { is = ap neg_ℤ x.is; bound = subst (λ (n : ℕ). n ≤ B) (sym (neg_abs s)) x.bound }

pub ◌⊟◌ : {z z' s s' : ℤ} {A B : ℕ} → Num z s A → Num z' s' B → Num (z -ℤ z') (s -ℤ s') (A + B)
x ⊟ y = x ⊞ negate y

-- `-x` is 0 - x in the machine
pub minus : {z s : ℤ} {B : ℕ} → Num z s B → Num (pos 0 -ℤ z) (neg_ℤ s) B
minus {z} x = record { is = +ℤ_idl (neg_ℤ z) ∙ (negate x).is; bound = (negate x).bound }

pub ◌⊠◌ : {z z' s s' : ℤ} {A B : ℕ} → Num z s A → Num z' s' B → Num (z *ℤ z') (s *ℤ s') (A * B)
◌⊠◌ {s = s} {s' = s'} {A = A} {B = B} x y =
    record { is = ap₂ ◌*ℤ◌ x.is y.is; bound = subst (λ (n : ℕ). n ≤ A * B) (sym (mul_abs s s')) (mul-le-mul x.bound y.bound) }

-- `x >> k`
pub shift-right : {z s : ℤ} {B : ℕ} (k : ℕ) → Num z s B → Num (shr_z z (2 ^ k)) (shr_z s (2 ^ k)) ((B + (2 ^ k - 1)) / 2 ^ k)
shift-right {s = s} k x = record { is = ap (λ (t : ℤ). shr_z t (2 ^ k)) x.is; bound = shr_abs s k x.bound }

-- ---- the width

pub fits : (w : Width) {z s : ℤ} {B : ℕ} → Num z s B → T (ltb B (2 ^ hbits w)) → SFits w z
fits w {z} {s} {B} x t =
    let b = abs-of (v s) x.bound in
    let h = ltb→lt B (2 ^ hbits w) t in
    subst (SFits w) (sym x.is) (fits_by (v s) (omega arith) (omega arith))

pub rd : (w : Width) {z s : ℤ} {B : ℕ} → Num z s B → T (ltb B (2 ^ hbits w)) → Num (reread w z) s B
rd w x t = record { is = to_z-of_z (fits w x t) ∙ x.is; bound = x.bound }

-- a parameter
pub arg : (w : Width) {s : ℤ} {B : ℕ} → SFits w s → nat_abs s ≤ B → Num (reread w s) s B
arg w f h = record { is = to_z-of_z f; bound = h }

-- ---- a local of w bits: its bits b are those of the number s, and |s| ≤ B

pub record Held (w : Width) (b : ℕ) (s : ℤ) (B : ℕ) : Type 0 where
  pub is : b ≡ of_z w s
  pub bound : nat_abs s ≤ B

pub read : {w : Width} {b : ℕ} {s : ℤ} {B : ℕ} → Held w b s B → T (ltb B (2 ^ hbits w)) → Num (to_z w b) s B
read {w} {s = s} {B = B} x t = subst (λ (n : ℕ). Num (to_z w n) s B) (sym x.is) (rd w (num x.bound) t)

pub write : {w : Width} {z s : ℤ} {B : ℕ} → Num z s B → Held w (of_z w z) s B
write {w} x = record { is = ap (of_z w) x.is; bound = x.bound }

-- `x << k`
pub shift-left : {w : Width} {b : ℕ} {s : ℤ} {B : ℕ} (k : ℕ) → Held w b s B → T (ltb (B * 2 ^ k) (2 ^ hbits w))
    → Held w (b * 2 ^ k % 2 ^ bits w) (s *ℤ pos (2 ^ k)) (B * 2 ^ k)
shift-left {w} {b} {s} {B} k x t =
    let l = ltb→lt (B * 2 ^ k) (2 ^ hbits w) t in
    let m = mul-le-mul_right (2 ^ k) x.bound in
    let a = ap (λ (n : ℕ). n * 2 ^ k) (nat_abs-is s) in
    record {
      is = ap (λ (n : ℕ). n * 2 ^ k % 2 ^ bits w) x.is ∙ (shl-bits w k (v s) (omega arith) (omega arith)).0;
      bound = omega (arith, mul_abs s (pos (2 ^ k)));
    }
