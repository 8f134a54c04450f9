-- The record that is read of a memory, written over it again, changes nothing. A float is a value: of NaN the logic has one, so that of a float that is
-- NaN this says that it stays NaN, and nothing of its bits.
use mathlib.Core.Bool.{true}
use mathlib.Core.List.{List, [], ◌∷◌, ◌++◌, append-nil, append_assoc}
use mathlib.Core.Path.{◌≡◌, refl, sym, ap, ap₂, ◌∙◌}
use Prim.Native.Nat.{ℕ, zero, suc, ◌+◌, ◌≤◌}
use native.Mathlib.Omega.{arith}
use borrow.Rule.Slice.PartMut.{mid_of}
use lib.Ieee.{Float, nan}
use lib.IntN.{ℤ, pos}
use lib.ListN.{length, get_or, take, take-append-drop}
use lib.Seq.{drop-cons, length-take-le, take-add}
use Rattle.memory.specs.Fields.{record_in, numbers_of, integers_of, matrices_of, clock_of, number_count, integer_count, matrix_count, clock_count}
use Rattle.memory.specs.Memory.{Memory, over, written, record_of, in_range, is_record}
use Rattle.memory.proofs.Fields.{flag_at}
use Rattle.memory.proofs.Room.{room, record-roomy, record-ranged}
use Rattle.memory.proofs.RoundTrip.{wrote-all}

module _ {A : Type 0} where
  -- n elements from the place `at` on, one by one
  abbrev each : List A → A → ℕ → ℕ → List A
  each l d at zero = []
  each l d at (suc n) = get_or l at d ∷ each l d (suc at) n

  each-is : (l : List A) (d : A) (at n : ℕ) → at + n ≤ length l → each l d at n ≡ mid_of at n l
  each-is l d at zero h = refl
  each-is l d at (suc n) h =
      ap (λ (z : List A). get_or l at d ∷ z) (each-is l d (suc at) n (omega arith)) ∙ sym (ap (take (suc n)) (drop-cons l at d (omega arith)))

  -- its own beginning, written over a list
  again : (k : ℕ) {x l : List A} → x ≡ take k l → k ≤ length l → over x l ≡ l
  again k {x} {l} e h = rw (e, length-take-le k l h) (take-append-drop k l)

module _ (n : List ℕ) (i : List ℤ) (m : List ℕ) (c : List Float) where
  numbers-again : in_range n ≡ true → number_count ≤ length n → numbers_of (record_in n i m c) ≡ take number_count n
  numbers-again e h =
      rw (flag_at n e 1 refl, flag_at n e 12 refl, flag_at n e 13 refl, flag_at n e 15 refl, flag_at n e 16 refl, flag_at n e 18 refl)
      (each-is n 0 0 number_count h)

  integers-again : integer_count ≤ length i → integers_of (record_in n i m c) ≡ take integer_count i
  integers-again h =
      ap₂ (λ (x y : List ℤ). x ++ (mid_of 6 3 i ++ y)) (each-is i (pos 0) 0 6 (omega arith)) (append-nil (mid_of 9 64 i))
      ∙ sym (append_assoc (take 6 i) (mid_of 6 3 i) (mid_of 9 64 i))
      ∙ ap (λ (x : List ℤ). x ++ mid_of 9 64 i) (sym (take-add 6 3 i))
      ∙ sym (take-add 9 64 i)

  matrices-again : matrices_of (record_in n i m c) ≡ take matrix_count m
  matrices-again = ap (λ (x : List ℕ). take 64 m ++ x) (append-nil (mid_of 64 64 m)) ∙ sym (take-add 64 64 m)

  clock-again : clock_count ≤ length c → clock_of (record_in n i m c) ≡ take clock_count c
  clock-again h = each-is c nan 0 clock_count h

pub written_back : (x : Memory) → is_record x ≡ true → written (record_of x) x ≡ x
unfolding record_of
written_back x e =
    let r = room x (record-roomy x e) in
    let n = x.numbers in let i = x.integers in let m = x.matrices in let c = x.clock in
    sym
    (wrote-all (record_of x) x
    (sym (again number_count (numbers-again n i m c (record-ranged x e) r.numbers) r.numbers))
    (sym (again integer_count (integers-again n i m c r.integers) r.integers))
    (sym (again matrix_count (matrices-again n i m c) r.matrices))
    (sym (again clock_count (clock-again n i m c r.clock) r.clock)))

-- the record that is read has as many elements as there is room for
pub integers-long : (x : Memory) → is_record x ≡ true → length (integers_of (record_of x)) ≡ integer_count
unfolding record_of
integers-long x e =
    let h = (room x (record-roomy x e)).integers in
    ap length (integers-again x.numbers x.integers x.matrices x.clock h) ∙ length-take-le integer_count x.integers h

pub matrices-long : (x : Memory) → is_record x ≡ true → length (matrices_of (record_of x)) ≡ matrix_count
unfolding record_of
matrices-long x e =
    let h = (room x (record-roomy x e)).matrices in
    ap length (matrices-again x.numbers x.integers x.matrices x.clock) ∙ length-take-le matrix_count x.matrices h
