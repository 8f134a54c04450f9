-- A list's cases are taken and counted one after the other.
use mathlib.Core.Path.{◌≡◌, refl, sym, ◌∙◌}
use mathlib.Core.Bool.{false}
use mathlib.Core.List.{List}
use Prim.Native.Nat.{ℕ, zero, suc, ◌-◌, ◌≤◌, ◌<◌}
use native.Mathlib.Omega.{arith}
use Rattle.std.proofs.Common.{Some}
use borrow.Author.Tests.{lt-ltb, le-ltb}
use lib.ListN.{length}
use Rattle.answer_lists.specs.declared.tally.Tally.{Tally}
use Rattle.answer_lists.specs.Numbers.{number_at}
use Rattle.answer_lists.specs.Tallies.{none, counted}
use Rattle.reader_conformance.specs.declared.reader_list.{CaseCursor.CaseCursor, CaseResult.CaseResult}
use Rattle.reader_conformance.specs.ReaderList.{CursorInList, next_case_result, beginning, score_from, scored}
use Rattle.reader_conformance.proofs.CursorInList.{beginning-inside}
use Rattle.bits.specs.Bounds.{longest_stream}

-- a list of n cases in the middle: with `left` cases from p on, and those before them counted in t, it still comes to what the whole list comes to
pub record Scoring (l : List ℕ) (n : ℕ) (p : CaseCursor) (t : Tally) (left : ℕ) : Type 0 where
  pub inside : CursorInList l p
  pub same : score_from l left p t ≡ score_from l n beginning none

pub scoring-start : (l : List ℕ) (n : ℕ) (p : CaseCursor) (t : Tally) → 4 ≤ length l → p ≡ beginning → t ≡ none → Scoring l n p t n
scoring-start l n p t h e f = rw (e, f) (record { inside = beginning-inside l h; same = refl })

module _ (l : List ℕ) (n : ℕ) (p : CaseCursor) (t : Tally) where
  pub scoring-on : (left : ℕ) (s : CaseResult) (u : Tally) → Scoring l n p t left → 0 < left → s ≡ next_case_result l p → CursorInList l s.along
      → u ≡ counted t s.agrees
      → Scoring l n s.along u (left - 1)
  unfolding score_from
  scoring-on zero s u h k e i f = absurd (omega arith)
  scoring-on (suc left) s u h k e i f =
      let o : suc left - 1 ≡ left = omega arith in
      rw (o, f) (record {
        inside = i;
        same = rw e h.same;
      })

  -- at the end of the cases, with bytes left over and with none
  pub scoring-over : (left : ℕ) → Scoring l n p t left → left ≤ 0 → p.at < length l → counted t false ≡ score_from l n beginning none
  unfolding score_from
  scoring-over zero h k m = sym (rw (lt-ltb _ _ m)) ∙ h.same
  scoring-over (suc left) h k m = absurd (omega arith)

  pub scoring-end : (left : ℕ) → Scoring l n p t left → left ≤ 0 → length l ≤ p.at → t ≡ score_from l n beginning none
  unfolding score_from
  scoring-end zero h k m = sym (rw (le-ltb _ _ m)) ∙ h.same
  scoring-end (suc left) h k m = absurd (omega arith)

-- the list has a number of cases that it can hold, or not
module _ (l : List ℕ) (n : ℕ) (some : 4 ≤ length l) (short : length l ≤ longest_stream) (is : n ≡ number_at l 0) where
  pub whole : n ≤ length l → score_from l n beginning none ≡ scored l
  unfolding scored
  whole h = rw (le-ltb _ _ some, le-ltb _ _ short, ← is, le-ltb _ _ h)

  pub too_many : length l < n → ◌≡◌ {A = Tally} (record { cases = n; agreed = 0; first = Some 1 }) (scored l)
  unfolding scored
  too_many h = rw (le-ltb _ _ some, le-ltb _ _ short, ← is, lt-ltb _ _ h)
