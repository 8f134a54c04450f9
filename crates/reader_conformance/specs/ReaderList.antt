-- The list reader.bin: how its cases follow one another, and how many of them agree with ours.
use Rattle.std.specs.Prelude.{ℕ, zero, suc, ◌+◌, ◌-◌, ◌≤◌, Bool, true, false, cond, ◌&&◌, List, eqb, ltb, length, get_or, Option, Some, None}
use Rattle.bits.specs.Runs.{position_of}
use Rattle.bits.specs.Bounds.{longest_stream, last_position}
use Rattle.bits.specs.Bits.{bits_at, has_bytes, part_at, bytes_of}
use Rattle.bits.specs.declared.reader.Reader.{Reader}
use Rattle.bits.specs.declared.reader.Read.{Read as ReadAnswer}
use Rattle.reader_conformance.specs.declared.reader_operations.Operation.{Operation}
use Rattle.reader_conformance.specs.declared.reader_operations.Operation.TheVariants.{New, Read, PeekBytes}
use Rattle.reader_conformance.specs.declared.reader_list.{CaseCursor.CaseCursor, CaseResult.CaseResult}
use Rattle.answer_lists.specs.declared.tally.Tally.{Tally}
use Rattle.answer_lists.specs.Bytes.{part, same_bytes}
use Rattle.answer_lists.specs.Numbers.{number_at}
use Rattle.answer_lists.specs.Tallies.{none, counted}
use Rattle.reader_conformance.specs.Operations.{operation_of, outcome}

-- how many bytes stand behind a case of an operation with the argument x and the answer v: a new stream, or what a peek gave
abbrev pub bytes_after : Operation → ℕ → ℕ → ℕ
bytes_after New x v = x
bytes_after PeekBytes x v = v - 1
bytes_after op x v = 0

-- ours gave the answer v, and ended at the place e
abbrev pub answers : Option ℕ → ℕ → Bool
answers (Some w) v = eqb w v
answers None v = false

abbrev pub agree : ReadAnswer (Option ℕ) → ℕ → ℕ → Bool
agree o v e = answers o.value v && eqb (position_of o.reader) e

-- a peek gave the bytes that stand behind its case
abbrev pub bytes_agree : Operation → List ℕ → List ℕ → ℕ → ℕ → Bool
bytes_agree PeekBytes t s a x = same_bytes t (bytes_of (part_at s a x))
bytes_agree op t s a x = true

-- the two bytes in which the next eight bits lie are there if a peek of 2 gave them, and where they are, the bits are those that a read of 8 gave
abbrev pub next_byte_agrees : Operation → ℕ → ℕ → List ℕ → ℕ → Bool
next_byte_agrees PeekBytes x v s a = cond (eqb x 2) (eqb v (cond (has_bytes s a 2) 3 0)) true
next_byte_agrees Read x v s a = cond (has_bytes s a 2 && eqb x 8) (eqb (bits_at s a 8) v) true
next_byte_agrees op x v s a = true

-- on to the next case, which stands at j: a new stream stands from i up to j
abbrev pub next_case : CaseCursor → Operation → ℕ → ℕ → Reader → CaseCursor
next_case p New i j r = record { at = j; from = i; to = j; reader = r }
next_case p op i j r = record { at = j; from = p.from; to = p.to; reader = r }

-- the next case stands in the list, and so does the present stream; the reader is at a place of RULES 1.1
pub record CursorInList (l : List ℕ) (p : CaseCursor) : Type 0 where
  pub case : p.at ≤ length l
  pub order : p.from ≤ p.to
  pub stream : p.to ≤ length l
  pub position : position_of p.reader ≤ last_position

-- a case that is cut off does not agree, and neither does any behind it
abbrev pub cut_off : List ℕ → CaseCursor → CaseResult
cut_off l p = record { along = record { at = length l; from = p.from; to = p.to; reader = p.reader }; agrees = false }

-- a whole case: the operation op with the argument x, the answer v and the place e, and the bytes from i up to j behind it
abbrev pub compared : List ℕ → CaseCursor → Operation → ℕ → ℕ → ℕ → ℕ → ℕ → CaseResult
compared l p op x v e i j =
    let s = part l p.from (p.to - p.from) in
    let o = outcome op x s (position_of p.reader) in
    record {
      along = next_case p op i j o.reader;
      agrees = agree o v e && bytes_agree op (part l i (j - i)) s (position_of p.reader) x && next_byte_agrees op x v s (position_of p.reader);
    }

-- the same, where its bytes may be cut off
abbrev pub taken : List ℕ → CaseCursor → Operation → ℕ → ℕ → ℕ → ℕ → CaseResult
taken l p op x v e i = cond (ltb (length l - i) (bytes_after op x v)) (cut_off l p) (compared l p op x v e i (i + bytes_after op x v))

-- the next case of a list
unfoldable pub next_case_result : List ℕ → CaseCursor → CaseResult
next_case_result l p =
    cond (ltb (length l - p.at) 13) (cut_off l p)
    (taken l p (operation_of (get_or l p.at 0)) (number_at l (p.at + 1)) (number_at l (p.at + 5)) (number_at l (p.at + 9)) (p.at + 13))

-- n cases more. Bytes that are left over count as one case that does not agree
unfoldable pub score_from : List ℕ → ℕ → CaseCursor → Tally → Tally
score_from l zero p t = cond (ltb p.at (length l)) (counted t false) t
score_from l (suc n) p t = score_from l n (next_case_result l p).along (counted t (next_case_result l p).agrees)

abbrev pub beginning : CaseCursor
beginning = record { at = 4; from = 4; to = 4; reader = record { at = record { 0 = 0 } } }

-- the whole list: none agrees where the number of cases is missing, or greater than the list could hold
unfoldable pub scored : List ℕ → Tally
scored l =
    cond (ltb (length l) 4) (counted none false)
    (cond (ltb longest_stream (length l)) (counted none false)
    (cond (ltb (length l) (number_at l 0)) (record { cases = number_at l 0; agreed = 0; first = Some 1 })
    (score_from l (number_at l 0) beginning none)))
