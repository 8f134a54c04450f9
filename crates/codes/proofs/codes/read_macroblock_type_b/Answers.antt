use Rattle.codes.proofs.Parts.{places, natural-table, natural-code}
use Rattle.codes.proofs.codes.read_macroblock_type_b.Goals as goal

pub read_natural-requires-clause-valid_merged_table : goal.read_natural-requires-clause-valid_merged_table
read_natural-requires-clause-valid_merged_table c = (natural-table c.entries.ensures.decoding_tables places.type-b).1

pub returns : goal.returns
returns c = natural-code c.entries.ensures.decoding_tables places.type-b c.read_natural.ensures
