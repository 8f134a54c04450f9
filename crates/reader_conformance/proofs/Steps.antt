-- What a case comes to, from the parts that the code computes one after the other.
use mathlib.Core.Path.{◌≡◌}
use mathlib.Core.Bool.{Bool, ◌&&◌}
use mathlib.Core.List.{List}
use Prim.Native.Nat.{ℕ, ◌+◌, ◌-◌, ◌≤◌, ◌<◌}
use borrow.Author.Tests.{lt-ltb, le-ltb}
use lib.ListN.{length, get_or, take, drop}
use Rattle.bits.specs.Runs.{position_of}
use Rattle.answer_lists.specs.Bytes.{part}
use Rattle.answer_lists.specs.Numbers.{number_at}
use Rattle.reader_conformance.specs.declared.reader_operations.Operation.{Operation}
use Rattle.bits.specs.declared.reader.Read.{Read as ReadAnswer}
use Rattle.std.specs.Prelude.{Option}
use Rattle.reader_conformance.specs.declared.reader_list.{CaseCursor.CaseCursor, CaseResult.CaseResult}
use Rattle.reader_conformance.specs.Operations.{operation_of, outcome}
use Rattle.reader_conformance.specs.ReaderList.{bytes_after, agree, bytes_agree, next_byte_agrees, next_case, cut_off, next_case_result}

pub no-case : (l : List ℕ) (p : CaseCursor) → length l - p.at < 13 → cut_off l p ≡ next_case_result l p
unfolding next_case_result
no-case l p h = rw (lt-ltb _ _ h)

module _ (l : List ℕ) (p : CaseCursor) (op : Operation) (x v m : ℕ) (case : 13 ≤ length l - p.at)
    (ax : x ≡ number_at l (p.at + 1)) (av : v ≡ number_at l (p.at + 5)) (aop : op ≡ operation_of (get_or l p.at 0)) (am : m ≡ bytes_after op x v) where
  pub cut-case : length l - (p.at + 13) < m → cut_off l p ≡ next_case_result l p
  unfolding next_case_result
  cut-case h = rw (le-ltb _ _ case, ← aop, ← ax, ← av, ← am, lt-ltb _ _ h)

  pub whole-case : (e : ℕ) (o : ReadAnswer (Option ℕ)) (q : CaseCursor) (t u w : Bool) → e ≡ number_at l (p.at + 9) → m ≤ length l - (p.at + 13)
      → o ≡ outcome op x (take (p.to - p.from) (drop p.from l)) (position_of p.reader)
      → u ≡ bytes_agree op (take (p.at + 13 + m - (p.at + 13)) (drop (p.at + 13) l))
      (take (p.to - p.from) (drop p.from l)) (position_of p.reader) x
      → w ≡ next_byte_agrees op x v (take (p.to - p.from) (drop p.from l)) (position_of p.reader)
      → t ≡ agree o v e → q ≡ next_case p op (p.at + 13) (p.at + 13 + m) o.reader
      → ◌≡◌ {A = CaseResult} (record { along = q; agrees = t && u && w }) (next_case_result l p)
  unfolding next_case_result part
  whole-case e o q t u w ae h ao au aw at aq = rw (le-ltb _ _ case, ← aop, ← ax, ← av, ← am, ← ae, le-ltb _ _ h, ← ao, au, aw, at, aq)
