-- A code by its first eight bits, or from its beginning on.
use Rattle.std.proofs.Common.{refl, sym, ◌∙◌, arith}
use borrow.Author.Tests.{leb-true}
use Rattle.codes.proofs.Looked.{coefficient-agrees, coefficient-further, coefficient-ends, below, looked-code, further-code}
use Rattle.codes.proofs.Parts.{places, natural-table, natural-code}
use Rattle.codes.proofs.codes.read_dct_coeff.Goals as goal

pub read_natural_from-requires-clause-valid_merged_table : goal.read_natural_from-requires-clause-valid_merged_table
read_natural_from-requires-clause-valid_merged_table c = (natural-table c.entries.ensures.decoding_tables places.coefficient).1

pub returns-then-x-lt4 : goal.returns-then-x-lt4
returns-then-x-lt4 c =
    let two = leb-true _ _ (sym c.has_eight.ensures ∙ c.if-has_eight.true) in
    further-code c.requires.reader_in_bounds (coefficient-agrees _ _ two c.next_eight-x.ensures refl) places.coefficient c.entries.ensures.decoding_tables
    c.advanced_by-rest.ensures c.read_natural_from.ensures (coefficient-further _ (omega (arith, c.if-x-lt4.true)))

pub lookup_dct_coeff-requires : goal.lookup_dct_coeff-requires
lookup_dct_coeff-requires c = below _ _ c.next_eight-x.ensures

pub returns-then-has_eight : goal.returns-then-has_eight
returns-then-has_eight c =
    let two = leb-true _ _ (sym c.has_eight.ensures ∙ c.if-has_eight.true) in
    let e = c.lookup_dct_coeff.ensures in
    let some = coefficient-ends _ (below _ _ c.next_eight-x.ensures) c.if-x-lt4.false in
    looked-code c.requires.reader_in_bounds (coefficient-agrees _ _ two c.next_eight-x.ensures e) (rw e some) c.found.ensures.0 c.found.ensures.1

pub read_natural-requires-clause-valid_merged_table : goal.read_natural-requires-clause-valid_merged_table
read_natural-requires-clause-valid_merged_table c = (natural-table c.entries-2.ensures.decoding_tables places.coefficient).1

pub returns : goal.returns
returns c = natural-code c.entries-2.ensures.decoding_tables places.coefficient c.read_natural.ensures
