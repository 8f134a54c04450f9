-- How large what is read can be: runs, levels, DC differences; and the range of DC values. Assumes nothing.
use mathlib.Core.Path.{◌≡◌, sym, subst}
use mathlib.Core.Bool.{Bool, true, false, ◌&&◌}
use mathlib.Core.List.{List}
use Prim.Native.Nat.{ℕ, ◌+◌, ◌-◌, ◌/◌, ◌%◌, ◌^◌, ◌≤◌, ◌<◌}
use native.Mathlib.Omega.{arith}
use borrow.Author.Tests.{eqb-false}
use lib.Dec.{eqb, ltb}
use lib.IntN.{ℤ, pos, neg_ℤ, nat_abs, ◌-ℤ◌}
use lib.Pow.{pow_mono}
use lib.Signed.{le_z}
use Rattle.laws.proofs.Ints.{v, lit, neg, ◌⊖◌, le_yes, abs-by}
use Rattle.laws.proofs.Nums.{neg_abs}
use Rattle.laws.proofs.Tests.{both, by-case}
use Rattle.bits.proofs.Gives.{Gives, g-done, g-bind, g_if, g-bits}
use Rattle.codes.proofs.Values.{coefficient-most, size-luminance-most, size-chrominance-most}
use Rattle.coefficients.specs.declared.coefficient.Coefficient.{Coefficient}
use Rattle.coefficients.specs.declared.coefficient.Coefficient.TheVariants.{EndOfBlock, RunLevel}
use Rattle.coefficients.specs.Coefficients.{escape_level, escape, run_level, coefficient}
use Rattle.coefficients.specs.Dcs.{added, by_top_bit, dc_in_range, dc_size, dc_difference}
use Rattle.coefficients.proofs.DcTable.{added_is}

-- a run and a level that can be read
abbrev pub Small : Coefficient → Type 0
Small EndOfBlock = Unit {0}
Small (RunLevel run level) = (run ≤ 255) × (nat_abs level ≤ 256)

pub less-256 : (n : ℕ) → n ≤ 255 → nat_abs (pos n -ℤ pos 256) ≤ 256
less-256 n h = abs-by 256 (lit n ⊖ lit 256) (omega arith) (omega arith)

module _ {s : List ℕ} where
  pub escape-level-small : Gives s (λ z. nat_abs z ≤ 256) escape_level
  unfolding escape_level
  escape-level-small =
      g-bind _ (g-bits 8) (λ field h. g_if (eqb field 0)
      (λ e. g-bind _ (g-bits 8) (λ level k. g-done (omega arith)))
      (λ e. g_if (eqb field 128)
      (λ e. g-bind _ (g-bits 8) (λ level k. g-done (less-256 level (omega arith))))
      (λ e. g_if (ltb 128 field) (λ e. g-done (less-256 field (omega arith))) (λ e. g-done (omega arith)))))

  escape-small : Gives s Small escape
  unfolding escape
  escape-small = g-bind _ (g-bits 6) (λ run h. g-bind _ escape-level-small (λ level k. g-done (omega arith, k)))

  run-level-small : (code : ℕ) → code ≤ 65535 → Gives s Small (run_level code)
  unfolding run_level
  run-level-small code h =
      g_if (eqb code 0xffff) (λ e. escape-small) (λ e.
      g-bind _ (g-bits 1)
      (λ sign k. g_if (eqb sign 0) (λ e. g-done (omega arith, omega arith)) (λ e. g-done (omega arith, omega (arith, neg_abs (pos (code % 256)))))))

  pub coefficient-small : (n : ℕ) → Gives s Small (coefficient n)
  unfolding coefficient
  coefficient-small n =
      g-bind _ coefficient-most (λ code h. g_if (eqb code 1 && ltb 0 n)
      (λ e. g-bind _ (g-bits 1) (λ more k. g_if (eqb more 0) (λ e. g-done tt) (λ e. run-level-small code h)))
      (λ e. run-level-small code h))

-- a size that is not 0
not-zero : (n : ℕ) → eqb n 0 ≡ false → 0 < n
not-zero n e = omega (arith, eqb-false n 0 e)

pub added-small : (s d : ℕ) → 0 < s → s ≤ 8 → d < 2 ^ s → nat_abs (added s d) ≤ 255
unfolding by_top_bit
added-small s d p h l =
    let most : 2 ^ s ≤ 256 = pow_mono h in
    subst (λ (z : ℤ). nat_abs z ≤ 255) (sym (added_is s d p h l))
    (by-case (λ z. nat_abs z ≤ 255) (eqb (d / 2 ^ (s - 1) % 2) 1) (λ e. omega arith)
    (λ e. abs-by 255 (lit (d + 1) ⊖ lit (2 ^ s)) (omega arith) (omega arith)))

module _ {s : List ℕ} where
  pub size-most : (luminance : Bool) → Gives s (λ n. n ≤ 8) (dc_size luminance)
  unfolding dc_size
  size-most luminance = g_if luminance (λ e. size-luminance-most) (λ e. size-chrominance-most)

  pub difference-small : (luminance : Bool) → Gives s (λ z. nat_abs z ≤ 255) (dc_difference luminance)
  unfolding dc_difference
  difference-small luminance =
      g-bind _ (size-most luminance) (λ n h. g_if (eqb n 0) (λ e. g-done (omega arith))
      (λ e. g-bind _ (g-bits n) (λ d l. g-done (added-small n d (not-zero n e) h l))))

-- a DC value that question 8 admits
pub inside-small : (x : ℤ) → dc_in_range x ≡ true → nat_abs x ≤ 256
inside-small x e =
    let b = both (le_z (neg_ℤ (pos 256)) x) (le_z x (pos 255)) e in
    let l = le_yes (neg (lit 256)) (v x) b.0 in
    let h = le_yes (v x) (lit 255) b.1 in
    abs-by 256 (v x) (omega arith) (omega arith)
