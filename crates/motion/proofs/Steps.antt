-- Lists of vector steps: the component after them, and the sum of their displacements. Assumes nothing.
use mathlib.Core.Path.{◌≡◌, refl, ap, ◌∙◌}
use mathlib.Core.List.{List, [], ◌∷◌, Perm, Permᴰ}
use mathlib.Core.Logic.{∥∥₁_elim}
use Prim.Native.Nat.{ℕ, ◌*◌, ◌^◌, ◌≤◌}
use native.Mathlib.Omega.{arith}
use lib.IntN.{ℤ, pos, nat_abs, ◌+ℤ◌, ℤ_set, +ℤ_assoc}
use Rattle.bits.specs.Programs.{run}
use Rattle.laws.proofs.Ints.{up, dn, v, lit, ◌⊕◌, ◌⊖◌, ◌⊛◌, eq-by}
use Rattle.motion.specs.Congruence.{Congruent}
use Rattle.motion.specs.Displacement.{InRange, corrected}
use Rattle.motion.specs.Steps.{VectorStep, displacement_of, after_steps, sum_of}
use Rattle.motion.specs.Vector.{motion_vector}
use Rattle.motion.proofs.Congruence.{congruent_trans, congruent-plus}
use Rattle.motion.proofs.Correction.{corrected-congruent, corrected_in}
use Rattle.motion.proofs.OneStep.{displacement-most, step_is}

-- one step
module _ (r : ℕ) (x : VectorStep) where
  displacement_of-small : nat_abs (displacement_of r x) ≤ 16 * 2 ^ r
  unfolding displacement_of
  displacement_of-small = (displacement-most r).value x.position

  first-is : (a : ℤ) → (run (motion_vector r a) x.stream x.position).value ≡ corrected (2 ^ r) (a +ℤ displacement_of r x)
  unfolding displacement_of
  first-is a = step_is r a x.stream x.position

-- the component stays in the range
pub after_in : (r : ℕ) (xs : List VectorStep) {a : ℤ} → InRange (2 ^ r) a → InRange (2 ^ r) (after_steps r a xs)
unfolding after_steps
after_in r [] i = i
after_in r (x ∷ xs) {a} i = after_in r xs (rw (first-is r x a) (corrected_in (displacement_of r x) (omega arith) (displacement_of-small r x) i))

-- and differs from start + sum by a multiple of 32 f, whatever the start
pub after-congruent : (r : ℕ) (xs : List VectorStep) (a : ℤ) → Congruent (32 * 2 ^ r) (after_steps r a xs) (a +ℤ sum_of r xs)
unfolding after_steps sum_of
after-congruent r [] a = record { times = pos 0; is = eq-by (v a ⊖ (v a ⊕ lit 0)) ((32 * 2 ^ r) ⊛ lit 0) (omega arith) }
after-congruent r (x ∷ xs) a =
    let b = corrected (2 ^ r) (a +ℤ displacement_of r x) in
    rw (first-is r x a, ← +ℤ_assoc a (displacement_of r x) (sum_of r xs))
    (congruent_trans (after-congruent r xs b) (congruent-plus (sum_of r xs) (corrected-congruent (2 ^ r) (a +ℤ displacement_of r x))))

-- the sum is that of every order
sum_permᴰ : (r : ℕ) {xs ys : List VectorStep} → Permᴰ xs ys → sum_of r xs ≡ sum_of r ys
unfolding sum_of
sum_permᴰ r Permᴰ.nil = refl
sum_permᴰ r (Permᴰ.cons {a = a} {b = b} e d) = cc (sum_permᴰ r d)
sum_permᴰ r (Permᴰ.swap {a = a} {b = b} {a' = a'} {b' = b'} {l = l} e₁ e₂) =
    let us : (x : VectorStep) → ℕ = λ x. up (displacement_of r x) in
    let ds : (x : VectorStep) → ℕ = λ x. dn (displacement_of r x) in
    eq-by (v (displacement_of r a) ⊕ (v (displacement_of r b) ⊕ v (sum_of r l))) (v (displacement_of r a') ⊕ (v (displacement_of r b') ⊕ v (sum_of r l)))
    (omega (arith, ap us e₁, ap ds e₁, ap us e₂, ap ds e₂))
sum_permᴰ r (Permᴰ.trans d₁ d₂) = sum_permᴰ r d₁ ∙ sum_permᴰ r d₂

pub sum_perm : (r : ℕ) {xs ys : List VectorStep} → Perm xs ys → sum_of r xs ≡ sum_of r ys
sum_perm r {xs} {ys} p = ∥∥₁_elim p (ℤ_set (sum_of r xs) (sum_of r ys)) (sum_permᴰ r)
