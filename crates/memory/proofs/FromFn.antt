-- What `array::from_fn` makes of a closure that no call changes.
use mathlib.Core.List.{List, [], ◌∷◌}
use mathlib.Core.Path.{◌≡◌, refl, sym, ◌∙◌, subst}
use Prim.Native.Nat.{ℕ, zero, suc, ◌+◌, ◌≤◌, ◌<◌}
use native.Mathlib.Decide.{dec_lt}
use native.Mathlib.Omega.{arith}
use borrow.Rule.Slice.PartMut.{mid_of}
use denote.Param.Members.{Mut, Called}
use lib.ListN.{length, get_or}
use lib.Seq.{ext_get_or}
use Rattle.std.proofs.lemmas.List.{get_or_default}
use Rattle.std.specs.Array.{IsElementAt, IsFromFnResult, IsFromFnResultFrom}
use Rattle.laws.proofs.Lists.{length_mid, mid_at}

-- each element is what the closure gives at its index
module _ {F B : Type 0} (g : Mut F (ℕ × Unit {0}) B) (f : F) (R : ℕ → B → Type 0)
    (step : (k : ℕ) (y : B) (q : F) → Called g f (k, tt) y q → (q ≡ f) × R k y) where
  -- at the first index, or behind it
  at : (ys : List B) (i k : ℕ) (d : B) (q : F) (y : B) → IsElementAt ys i y → Called g f (i, tt) y q → (i < k → R k (get_or ys k d)) → i ≤ k → Dec (i < k)
      → R k (get_or ys k d)
  at ys i k d q y e c more h (yes l) = more l
  at ys i k d q y e c more h (no l) =
      let same : i ≡ k = omega arith in
      subst (λ (m : ℕ). R m (get_or ys m d)) same (subst (R i) (sym (e.1 d)) (step i y q c).1)

  from : (ys : List B) (i n k : ℕ) (d : B) → IsFromFnResultFrom g f ys i n → i ≤ k → k < i + n → R k (get_or ys k d)
  from ys i zero k d r h l = absurd (omega arith)
  from ys i (suc n) k d r h l =
      at ys i k d r.0 r.1 r.2 r.3
      (λ m. from ys (i + 1) n k d (subst (λ (q : F). IsFromFnResultFrom g q ys (i + 1) n) (step i r.1 r.0 r.3).0 r.4) (omega arith) (omega arith))
      h (dec_lt i k)

  pub made_each : (ys : List B) (n : ℕ) → IsFromFnResult g f ys n → (k : ℕ) (d : B) → k < n → R k (get_or ys k d)
  made_each ys n r k d l = from ys 0 n k d r.each (omega arith) (omega arith)

-- a part of a list
pub part_made : {A : Type 0} (at n : ℕ) (xs ys : List A) → length ys ≡ n → at + n ≤ length xs
    → ((k : ℕ) (d : A) → k < n → get_or xs (at + k) (get_or ys k d) ≡ get_or ys k d) → ys ≡ mid_of at n xs
part_made at n xs [] e h f = let z : 0 ≡ n = e in subst (λ (m : ℕ). [] ≡ mid_of at m xs) z refl
part_made at n xs (y ∷ ys) e h f =
    ext_get_or y (y ∷ ys) (mid_of at n xs) (e ∙ sym (length_mid at n xs h)) (λ k l. sym
    (mid_at at n xs k y (omega arith) ∙ get_or_default xs (at + k) y (get_or (y ∷ ys) k y) (omega arith) ∙ f k y (omega arith)))
