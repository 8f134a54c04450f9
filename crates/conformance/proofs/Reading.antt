-- What is read of a list.
use mathlib.Core.Path.{◌≡◌, sym, ◌∙◌}
use mathlib.Core.List.{List}
use Prim.Native.Nat.{ℕ, ◌+◌, ◌≤◌}
use native.Mathlib.Omega.{arith}
use denote.Param.Members.{Mut, Called}
use lib.ListN.{length, replicate, length-replicate, drop_of_length-le}
use lib.Seq.{ext_get_or, take-nil}
use Rattle.std.specs.Array.{IsFromFnResult}
use Rattle.laws.specs.Stores.{store_row}
use Rattle.laws.proofs.Lists.{length-row, row_in}
use Rattle.memory.proofs.FromFn.{made_each}
use Rattle.answer_lists.specs.Bytes.{part}

-- behind the end there is nothing
pub past_end : (l : List ℕ) (i n : ℕ) → length l ≤ i → part l i 0 ≡ part l (i + 4) n
unfolding part
past_end l i n h = rw (drop_of_length-le l {i = i + 4} (omega arith), take-nil n)

-- what `array::from_fn` makes: a row of stores
pub row_made : {F A : Type 0} (g : Mut F (ℕ × Unit {0}) A) (f : F) (v : ℕ → A) (z : A) (n : ℕ) (ys : List A)
    → ((k : ℕ) (y : A) (q : F) → Called g f (k, tt) y q → (q ≡ f) × (y ≡ v k)) → IsFromFnResult g f ys n → ys ≡ store_row (replicate n z) 0 v n
row_made {F} {A} g f v z n ys step r =
    let long : length (replicate n z) ≡ n = length-replicate {A = A} n z in
    ext_get_or z ys (store_row (replicate n z) 0 v n) (r.long ∙ sym (length-row (replicate n z) 0 v n ∙ long)) (λ k l.
    made_each g f (λ k y. y ≡ v k) step ys n r k z (omega (arith, r.long))
    ∙ sym (row_in (replicate n z) 0 v n k k z (omega arith) (omega (arith, r.long)) (omega arith)))
