-- A code by its first eight bits, or from its beginning on.
use Rattle.std.proofs.Common.{◌≡◌, refl, ap, sym, ◌∙◌, ◌<◌, ◌≤◌, arith}
use borrow.Author.Tests.{leb-true}
use Rattle.codes.specs.ByteLookup.{walk_byte}
use Rattle.codes.specs.Tables.{macroblock_address_increment_index}
use Rattle.codes.proofs.Looked.{increment-one, increment-agrees, increment-further, increment-ends, below, looked-code, further-code}
use Rattle.codes.proofs.Parts.{places, natural-table, natural-code}
use Rattle.codes.proofs.codes.read_macroblock_address_increment.Goals as goal
use Rattle.codes.proofs.codes.read_macroblock_address_increment.Goals.{then-x-lt6+else-x-eq1+else-x-gt2, else-x-lt6}

pub read_natural_from-requires-clause-valid_merged_table : goal.read_natural_from-requires-clause-valid_merged_table
read_natural_from-requires-clause-valid_merged_table c = (natural-table c.entries.ensures.decoding_tables places.increment).1

pub returns-then-x-eq1 : goal.returns-then-x-eq1
returns-then-x-eq1 c =
    let two = leb-true _ _ (sym c.has_eight.ensures ∙ c.if-has_eight.true) in
    further-code c.requires.reader_in_bounds (increment-agrees _ _ two c.next_eight-x.ensures refl) places.increment c.entries.ensures.decoding_tables
    c.advanced_by.ensures c.read_natural_from.ensures (ap (walk_byte macroblock_address_increment_index) c.if-x-eq1.true ∙ increment-one)

pub read_natural_from-requires-then-x-gt2-clause-valid_merged_table : goal.read_natural_from-requires-then-x-gt2-clause-valid_merged_table
read_natural_from-requires-then-x-gt2-clause-valid_merged_table c = (natural-table c.entries-then-x-gt2.ensures.decoding_tables places.increment).1

pub returns-then-x-gt2 : goal.returns-then-x-gt2
returns-then-x-gt2 c =
    let two = leb-true _ _ (sym c.has_eight.ensures ∙ c.if-has_eight.true) in
    further-code c.requires.reader_in_bounds (increment-agrees _ _ two c.next_eight-x.ensures refl) places.increment
    c.entries-then-x-gt2.ensures.decoding_tables c.advanced_by-then-x-gt2.ensures
    c.read_natural_from-then-x-gt2.ensures (increment-further _ c.if-x-gt2.true c.if-x-lt6.true)

pub lookup_macroblock_address_increment-requires : goal.lookup_macroblock_address_increment-requires
lookup_macroblock_address_increment-requires c = below _ _ c.next_eight-x.ensures

pub returns-then-has_eight : goal.returns-then-has_eight
returns-then-has_eight c =
    let two = leb-true _ _ (sym c.has_eight.ensures ∙ c.if-has_eight.true) in
    let e = c.lookup_macroblock_address_increment.ensures in
    let k = c.next_eight-x.result in
    let rest : (k ≡ 1 → ⊥) × (2 < k → 6 ≤ k) =
    elim c.if-x-lt6.branch [
      | then-x-lt6+else-x-eq1+else-x-gt2 w ↦ (w.if-x-eq1.false, λ h. omega (arith, w.if-x-gt2.false))
      | else-x-lt6 w ↦ (λ q. omega (arith, w.if-x-lt6.false), λ h. w.if-x-lt6.false)
    ] in
    let some = increment-ends k (below _ _ c.next_eight-x.ensures) rest.0 rest.1 in
    looked-code c.requires.reader_in_bounds (increment-agrees _ _ two c.next_eight-x.ensures e) (rw e some) c.found.ensures.0 c.found.ensures.1

pub read_natural-requires-clause-valid_merged_table : goal.read_natural-requires-clause-valid_merged_table
read_natural-requires-clause-valid_merged_table c = (natural-table c.entries-2.ensures.decoding_tables places.increment).1

pub returns : goal.returns
returns c = natural-code c.entries-2.ensures.decoding_tables places.increment c.read_natural.ensures
