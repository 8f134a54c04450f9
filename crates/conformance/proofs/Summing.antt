-- A checksum while it is made.
use mathlib.Core.Path.{◌≡◌, refl, sym, ap, ◌∙◌}
use mathlib.Core.List.{List, [], ◌∷◌, ◌++◌}
use Prim.Native.Nat.{ℕ, ◌+◌, ◌≤◌, ◌<◌}
use native.Mathlib.Numerals.{add-one}
use native.Mathlib.Omega.{arith}
use lib.IntN.{ℤ}
use lib.ListN.{length, get_or, drop}
use mir.Facts.{to_z-of_z}
use mir.Syntax.{w32}
use mir.Val.{SFits, of_z, to_z}
use lib.Seq.{drop-cons, drop-length}
use Rattle.conformance.specs.Sums.{mixed, summed, words, single}

-- ---- elements that are summed as several numbers

summed-append : (sum : ℕ) (a b : List ℕ) → summed sum (a ++ b) ≡ summed (summed sum a) b
unfolding summed
summed-append sum [] b = refl
summed-append sum (n ∷ a) b = summed-append (mixed sum n) a b

-- i elements are in the sum, and the others follow
pub record Wording {A : Type 0} (f : A → List ℕ) (before : ℕ) (xs : List A) (sum i : ℕ) : Type 0 where
  pub most : i ≤ length xs
  pub small : sum < 4294967311
  pub rest : summed sum (words f (drop i xs)) ≡ summed before (words f xs)

module _ {A : Type 0} {f : A → List ℕ} {before : ℕ} {xs : List A} where
  pub wording-none : before < 4294967311 → Wording f before xs before 0
  wording-none h = record { most = omega arith; small = h; rest = refl }

  pub wording-one : {sum next i : ℕ} (d : A) → Wording f before xs sum i → i < length xs → next ≡ summed sum (f (get_or xs i d)) → next < 4294967311
      → Wording f before xs next (i + 1)
  unfolding words
  wording-one {sum} {next} {i} d s h e small = record {
    most = omega arith;
    small = small;
    rest =
        ap (λ (k : ℕ). summed k (words f (drop (i + 1) xs))) e
        ∙ sym (summed-append sum (f (get_or xs i d)) (words f (drop (i + 1) xs)))
        ∙ ap (λ (k : ℕ). summed sum (f (get_or xs i d) ++ words f (drop k xs))) (add-one i)
        ∙ ap (λ (z : List A). summed sum (words f z)) (sym (drop-cons xs i d h))
        ∙ s.rest;
  }

  pub wording-all : {sum i : ℕ} → Wording f before xs sum i → length xs ≤ i → (sum ≡ summed before (words f xs)) × (sum < 4294967311)
  unfolding summed words
  wording-all {sum} {i} s h =
      let e : i ≡ length xs = omega (arith, s.most) in
      (sym (ap (λ (z : List A). summed sum (words f z)) (ap (λ (k : ℕ). drop k xs) e ∙ drop-length xs)) ∙ s.rest, s.small)

-- a signed number that was read from its bits
pub held-is : {n : ℕ} (z : ℤ) → n ≡ of_z w32 (to_z w32 (of_z w32 z)) → SFits w32 z → n ≡ of_z w32 z
held-is z e h = e ∙ ap (of_z w32) (to_z-of_z {w = w32} {z = z} h)

-- numbers that are summed as they are
pub words-single : (ns : List ℕ) → words single ns ≡ ns
unfolding words
words-single [] = refl
words-single (n ∷ ns) = ap (λ (z : List ℕ). n ∷ z) (words-single ns)
