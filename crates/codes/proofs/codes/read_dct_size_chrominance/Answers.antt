use Rattle.codes.proofs.Parts.{places, natural-table, natural-code}
use Rattle.codes.proofs.codes.read_dct_size_chrominance.Goals as goal

pub read_natural-requires-clause-valid_merged_table : goal.read_natural-requires-clause-valid_merged_table
read_natural-requires-clause-valid_merged_table c = (natural-table c.entries.ensures.decoding_tables places.chrominance).1

pub returns : goal.returns
returns c = natural-code c.entries.ensures.decoding_tables places.chrominance c.read_natural.ensures
