-- What it means that as many cases agree as there are.
use mathlib.Core.Path.{◌≡◌, refl}
use mathlib.Core.Bool.{Bool, true, false, cond}
use mathlib.Core.List.{List}
use Prim.Native.Nat.{ℕ, zero, suc, ◌+◌, ◌≤◌, ◌<◌}
use native.Mathlib.Omega.{arith}
use Rattle.std.proofs.Common.{Some}
use borrow.Author.Tests.{ltb-true, ltb-false}
use lib.Dec.{ltb}
use lib.ListN.{length}
use Rattle.answer_lists.specs.declared.tally.Tally.{Tally}
use Rattle.answer_lists.specs.Numbers.{number_at}
use Rattle.answer_lists.specs.Tallies.{none, counted}
use Rattle.answer_lists.proofs.Tallies.{more-one, counted-after, counted-fails, counted-agrees}
use Rattle.reader_conformance.specs.declared.reader_list.CaseCursor.{CaseCursor}
use Rattle.reader_conformance.specs.ReaderList.{next_case_result, beginning, score_from, scored}
use Rattle.bits.specs.Bounds.{longest_stream}

-- n cases from p on, each whole and equal to ours, and no byte left over
pub data Whole (l : List ℕ) : ℕ → CaseCursor → Type 0 where
  ended : {p : CaseCursor} → length l ≤ p.at → Whole l 0 p
  case : {n : ℕ} {p : CaseCursor} → (next_case_result l p).agrees ≡ true → Whole l n (next_case_result l p).along → Whole l (suc n) p

-- a case that does not agree is never made up for
behind : (l : List ℕ) (n : ℕ) (p : CaseCursor) (t : Tally) → t.cases + n < 4294967295 → t.agreed < t.cases
    → (score_from l n p t).agreed < (score_from l n p t).cases
unfolding score_from
behind l zero p t m h = go (ltb p.at (length l))
  where
    go : (b : Bool) → (cond b (counted t false) t).agreed < (cond b (counted t false) t).cases
    go true = counted-after t (omega arith) false h
    go false = h
behind l (suc n) p t m h =
    behind l n (next_case_result l p).along (counted t (next_case_result l p).agrees) (omega (arith, more-one t.cases (omega arith)))
    (counted-after t (omega arith) (next_case_result l p).agrees h)

whole : (l : List ℕ) (n : ℕ) (p : CaseCursor) (t : Tally) → t.cases + n < 4294967295 → t.agreed ≤ t.cases
    → (score_from l n p t).agreed ≡ (score_from l n p t).cases → Whole l n p
unfolding score_from
whole l zero p t m h e = ended (go (ltb p.at (length l)) (ltb-false _ _) e)
  where
    go : (b : Bool) → (b ≡ false → length l ≤ p.at) → (cond b (counted t false) t).agreed ≡ (cond b (counted t false) t).cases → length l ≤ p.at
    go true f e = absurd (omega (arith, counted-fails t (omega arith) h))
    go false f e = f refl
whole l (suc n) p t m h e =
    go (next_case_result l p).agrees refl e (λ f. whole l n (next_case_result l p).along (counted t true) room (counted-agrees t (omega arith) h) f)
  where
    after : Bool → Tally
    after b = score_from l n (next_case_result l p).along (counted t b)

    room : (counted t true).cases + n < 4294967295
    room = omega (arith, more-one t.cases (omega arith))

    go : (b : Bool) → (next_case_result l p).agrees ≡ b → (after b).agreed ≡ (after b).cases
        → ((after true).agreed ≡ (after true).cases → Whole l n (next_case_result l p).along) → Whole l (suc n) p
    go true f e w = case f (w e)
    go false f e w = absurd (omega (arith, behind l n (next_case_result l p).along (counted t false) room (counted-fails t (omega arith) h)))

-- the list has the cases that its number says, none is cut off, and none fails
pub all-agree : (l : List ℕ) → (scored l).agreed ≡ (scored l).cases → Whole l (number_at l 0) beginning
unfolding scored
all-agree l = go (ltb (length l) 4) (ltb longest_stream (length l)) (ltb (length l) (number_at l 0)) (ltb-false _ _) (ltb-false _ _) (ltb-true _ _)
  where
    -- the whole list by its three tests
    tested : Bool → Bool → Bool → Tally
    tested a b d =
        cond a (counted none false)
        (cond b (counted none false) (cond d (record { cases = number_at l 0; agreed = 0; first = Some 1 }) (score_from l (number_at l 0) beginning none)))

    go : (a b d : Bool) → (b ≡ false → length l ≤ longest_stream) → (d ≡ false → number_at l 0 ≤ length l) → (d ≡ true → length l < number_at l 0)
        → (tested a b d).agreed ≡ (tested a b d).cases → Whole l (number_at l 0) beginning
    go true b d short few f e = absurd (omega (arith, more-one 0 (omega arith)))
    go false true d short few f e = absurd (omega (arith, more-one 0 (omega arith)))
    go false false true short few f e = absurd (omega (arith, f refl))
    go false false false short few f e = whole l (number_at l 0) beginning none (omega (arith, short refl, few refl)) (omega arith) e
