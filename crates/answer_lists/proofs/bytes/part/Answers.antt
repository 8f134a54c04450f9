-- Bytes that are not there are neither passed over nor taken.
use Rattle.std.proofs.Common.{◌≡◌, ℕ, ◌+◌, ◌-◌, ◌≤◌, ◌<◌, List, length, take, drop, min, ap, sym, ◌∙◌, arith}
use lib.ListN.{length-drop, drop_of_length-le}
use lib.Seq.{take-nil, take_all}
use native.Mathlib.Decide.{dec_lt}
use Rattle.answer_lists.specs.Bytes.{part}
use Rattle.answer_lists.proofs.bytes.part.Goals as goal

cut : (l : List ℕ) (n k : ℕ) → k ≡ min n (length l) → take k l ≡ take n l
cut l n k e = go (dec_lt n (length l))
  where
    go : Dec (n < length l) → take k l ≡ take n l
    go (yes h) = ap (λ (i : ℕ). take i l) (omega arith)
    go (no h) = take_all k l (omega arith) ∙ sym (take_all n l (omega arith))

between : (l : List ℕ) (i n s e : ℕ) → s ≡ min i (length l) → e ≡ min (min (s + n) 18446744073709551615) (length l) → length l ≤ 18446744073709551615
    → take (e - s) (drop s l) ≡ take n (drop i l)
between l i n s e p q m = go (dec_lt i (length l))
  where
    go : Dec (i < length l) → take (e - s) (drop s l) ≡ take n (drop i l)
    go (yes h) =
        let first : s ≡ i = omega arith in
        ap (λ (j : ℕ). take (e - s) (drop j l)) first ∙ cut (drop i l) n (e - s) (omega (arith, length-drop i l))
    go (no h) =
        rw (drop_of_length-le l {i = s} (omega arith), drop_of_length-le l {i = i} (omega arith), take-nil (e - s), take-nil n)

pub returns : goal.returns
unfolding part
returns c = between _ _ _ _ _ c.min-start.ensures (rw c.saturating_add.ensures at c.min-end.ensures) (omega arith)
