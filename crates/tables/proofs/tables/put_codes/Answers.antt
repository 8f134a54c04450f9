-- An entry is its index, if that is above 0, or else 16 bits of its value.
use Rattle.std.proofs.Common.{◌≡◌, ℤ, ◌+◌, ◌-◌, ◌≤◌, nat_abs, pos, get_or, drop, refl, sym, ◌∙◌, arith}
use lib.ListN.{length-drop}
use Rattle.laws.proofs.Tests.{if_yes, if_no}
use Rattle.codes.specs.DecodingTables.{biased_value, merged_entry, merged_table}
use Rattle.codes.proofs.Joined.{joined_length, joined_at, near-at, short-at}
use Rattle.tables.proofs.Made.{index_is, index_read, raised_cast, raised_is, entry-most, none-pasted, pasted-from}
use Rattle.tables.proofs.tables.put_codes.Goals as goal
use Rattle.tables.proofs.tables.put_codes.Goals.{then-next-le0, else-next-le0}

pub loop-k-init : goal.loop-k-init
loop-k-init c =
    let a = c.args in
    let none : 0 ≡ a.first - a.first = omega arith in
    let all = merged_table a.index.now a.value.now in
    let rest = length-drop a.first all in
    let long = joined_length a.index.now a.value.now in
    rw none at (none-pasted {before = a.tables.now} {at = a.at + a.first} {part = drop a.first all} (omega arith))

pub overflow_cast-found : goal.overflow_cast-found
overflow_cast-found c = raised_cast _ (short-at c.args.value.now c.requires.t.1 c.loop-k.k)

-- the index and the value of the entry k
abbrev index : goal.After-row_known-1 → ℤ
index c = get_or c.args.index.now c.loop-k.k (pos 0)

abbrev value : goal.After-row_known-1 → ℤ
value c = get_or c.args.value.now c.loop-k.k (pos 0)

near : (c : goal.After-row_known-1) → nat_abs (index c) ≤ 255
near c = near-at c.args.index.now c.requires.t.0 c.loop-k.k

entry : (c : goal.After-row_known-1) → c.if-next-le0.entry ≡ merged_entry (index c) (value c)
entry c =
    let short = short-at c.args.value.now c.requires.t.1 c.loop-k.k in
    let i = (index_read (index c) (near c)).is in
    elim c.if-next-le0.branch [
      | then-next-le0 w ↦ w.entry-is ∙ raised_is (value c) short ∙ sym (if_yes (nat_abs (index c)) (rw i at w.if-next-le0.true) refl)
      | else-next-le0 w ↦ w.entry-is ∙ index_is (index c) (near c) ∙ sym (if_no (biased_value (value c)) (rw i at w.if-next-le0.false) refl)
    ]

pub overflow_cast-tables : goal.overflow_cast-tables
overflow_cast-tables c = omega (arith, entry c, entry-most (index c) (value c) (near c))

pub loop-k-preserved : goal.loop-k-preserved
loop-k-preserved c =
    let a = c.args in
    let k = c.loop-k.k in
    let long = joined_length a.index.now a.value.now in
    pasted-from (merged_table a.index.now a.value.now) a.at a.first k c.loop-k.invariant (omega arith) (omega arith)
    (entry c ∙ sym (joined_at a.index.now a.value.now k (omega arith)))
