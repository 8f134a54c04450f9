-- Texts that are written one behind the other, and the digits of a number.
use mathlib.Core.Path.{◌≡◌, refl, sym, ap, subst, ◌∙◌}
use mathlib.Core.Bool.{Bool, cond}
use mathlib.Core.List.{List, [], ◌∷◌, ◌++◌, append_assoc}
use Prim.Native.Nat.{ℕ, zero, suc, ◌+◌, ◌-◌, ◌*◌, ◌/◌, ◌%◌, ◌^◌, ◌≤◌, ◌<◌}
use native.Mathlib.Nat.{pow-succ', pow-le-pow_right, one-le-pow}
use native.Mathlib.Omega.{arith}
use borrow.Author.Tests.{lt-ltb, le-ltb}
use lib.ListN.{length, set, take, drop, length-append}
use borrow.Rule.Slice.PartMut.{put_mid}
use lib.Seq.{sets, drop-drop, length-sets, sets-eq, take-append_seam}
use Rattle.io.specs.Digits.{hex_digit_ascii, last_digits, IsDigitCount}
use Rattle.listing.specs.Text.{Wrote, decimal_in, field}

-- a text in its place is its bytes, one after the other
pub put-sets : (at k : ℕ) (page t : List ℕ) → k ≡ length t → at + length t ≤ length page → put_mid at k page t ≡ sets page at t
put-sets at k page t e h =
    ap (λ (z : List ℕ). take at page ++ (t ++ z)) (drop-drop k at page ∙ ap (λ (n : ℕ). drop (at + n) page) e)
    ∙ sym (sets-eq t page at h ∙ append_assoc (take at page) t (drop (at + length t) page))

-- ---- one text behind another

sets-on : (t u page : List ℕ) (at : ℕ) → sets (sets page at t) (at + length t) u ≡ sets page at (t ++ u)
sets-on [] u page at = ap (λ (k : ℕ). sets page k u) (omega arith)
sets-on (b ∷ t) u page at =
    ap (λ (k : ℕ). sets (sets (set page at b) (suc at) t) k u) (omega arith) ∙ sets-on t u (set page at b) (suc at)

module _ {page one two : List ℕ} {at next last : ℕ} {t u : List ℕ} where
  pub wrote_on : Wrote page at t one next → Wrote one next u two last → Wrote page at (t ++ u) two last
  wrote_on x y = record {
    bytes =
        y.bytes
        ∙ ap (λ (l : List ℕ). sets l next u) x.bytes
        ∙ ap (λ (k : ℕ). sets (sets page at t) k u) x.position
        ∙ sets-on t u page at;
    position = y.position ∙ rw (length-append t u) (omega (arith, x.position));
  }

-- the same page
pub wrote-length : {page after : List ℕ} {at next : ℕ} {t : List ℕ} → Wrote page at t after next → length after ≡ length page
wrote-length {page} {after} {at} {next} {t} x = ap length x.bytes ∙ length-sets page at t

-- the beginning of a page on which a text was written from its first place on
pub wrote-take : {page after : List ℕ} {next : ℕ} {t : List ℕ} → next ≤ length page → Wrote page 0 t after next → take next after ≡ t
wrote-take {page} {after} {next} {t} h x =
    let e : next ≡ length t = x.position ∙ omega arith in
    rw (x.bytes, e, sets-eq t page 0 (omega arith)) (take-append_seam t (drop (0 + length t) page))

-- ---- digits

digit : (d : ℕ) → d < 10 → hex_digit_ascii d ≡ 48 + d
digit d h = ap (λ (b : Bool). cond b (48 + d) (87 + d)) (lt-ltb d 10 h)

-- io's digits, of which there are as few as hold the number, are those of decimal_in
pub fewest-decimal : (k x m : ℕ) → IsDigitCount 10 1 x k → k ≤ m → last_digits 10 k x ≡ decimal_in m x
unfolding decimal_in
fewest-decimal zero x m f h = absurd (omega (arith, f.0))
fewest-decimal (suc k) x zero f h = absurd (omega arith)
fewest-decimal (suc zero) x (suc m) f h =
    let one : x < 10 = f.1 in
    let e : x % 10 ≡ x = omega arith in
    rw (lt-ltb x 10 one) (ap (λ (d : ℕ). d ∷ []) (digit (x % 10) (omega arith) ∙ ap (λ (d : ℕ). 48 + d) e))
fewest-decimal (suc (suc k)) x (suc m) f h =
    let p : 10 ^ suc k ≡ 10 * 10 ^ k = pow-succ' 10 k in
    let q : 10 ^ suc (suc k) ≡ 10 * 10 ^ suc k = pow-succ' 10 (suc k) in
    let some : 1 ≤ 10 ^ k = one-le-pow k 10 (omega arith) in
    let one_less : (n : ℕ) → suc n - 1 ≡ n = λ n. omega arith in
    let least : 10 ^ suc k ≤ x = subst (λ (n : ℕ). 10 ^ n ≤ x) (one_less (suc k)) (f.2 (omega arith)) in
    let most : x < 10 ^ suc (suc k) = f.1 in
    let rest : IsDigitCount 10 1 (x / 10) (suc k) =
    (omega arith, omega arith, λ i. subst (λ (n : ℕ). 10 ^ n ≤ x / 10) (sym (one_less k)) (omega arith)) in
    rw (le-ltb x 10 (omega arith))
    (ap (λ (l : List ℕ). l ++ (hex_digit_ascii (x % 10) ∷ [])) (fewest-decimal (suc k) (x / 10) m rest (omega arith))
    ∙ ap (λ (d : ℕ). decimal_in m (x / 10) ++ (d ∷ [])) (digit (x % 10) (omega arith)))

-- a number of 64 bits has at most 20
pub fewest-few : (k x : ℕ) → IsDigitCount 10 1 x k → x < 2 ^ 64 → k ≤ 20
fewest-few k x f h =
    let no : 21 ≤ k → ⊥ = λ more.
    let p : 10 ^ 20 ≤ 10 ^ (k - 1) = pow-le-pow_right {n = 10} (omega arith) {i = 20} {j = k - 1} (omega arith) in
    let q : 10 ^ (k - 1) ≤ x = f.2 (omega arith) in
    let r : 2 ^ 64 ≤ 10 ^ 20 = omega arith in
    omega arith in
    omega (arith, no)

-- the digits of x at the beginning of a page, and a byte behind them
module _ (x end k : ℕ) (ds page one : List ℕ) (at next : ℕ) (f : IsDigitCount 10 1 x k) (h : x < 2 ^ 64) (e : take k ds ≡ last_digits 10 k x) where
  pub wrote-field : Wrote page at (take k ds) one next → Wrote page at (field x end) (set one next end) (next + 1)
  unfolding field
  wrote-field w =
      let t : take k ds ≡ decimal_in 20 x = e ∙ fewest-decimal k x 20 f (fewest-few k x f h) in
      wrote_on (subst (λ (t : List ℕ). Wrote page at t one next) t w) (record { bytes = refl; position = refl })
