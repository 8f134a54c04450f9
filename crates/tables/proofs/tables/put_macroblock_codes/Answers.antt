-- Each table is laid behind the one before it.
use mathlib.Core.Path.{◌≡◌, ap, sym, ◌∙◌}
use mathlib.Core.List.{map}
use native.Mathlib.Omega.{arith}
use lib.IntN.{pos}
use lib.ListN.{length}
use lib.Seq.{paste}
use Rattle.codes.specs.DecodingTables.{tables_length, merged_table, macroblock_codes}
use Rattle.codes.specs.Tables.{macroblock_address_increment_index, macroblock_address_increment_value, macroblock_type_intra_index, macroblock_type_intra_value}
use Rattle.codes.specs.Tables.{macroblock_type_predictive_index, macroblock_type_predictive_value, macroblock_type_b_index, macroblock_type_b_value}
use Rattle.codes.specs.Tables.{code_block_pattern_index, code_block_pattern_value}
use Rattle.tables.proofs.Made.{none-laid, laid-codes, macroblock-codes-length}
use Rattle.tables.proofs.tables.put_macroblock_codes.Goals as goal

pub returns : goal.returns
unfolding macroblock_codes macroblock_address_increment_index macroblock_address_increment_value macroblock_type_intra_index macroblock_type_intra_value
    macroblock_type_predictive_index macroblock_type_predictive_value macroblock_type_b_index macroblock_type_b_value code_block_pattern_index
    code_block_pattern_value
returns c =
    let t = c.args.t.now in
    let long : length t ≡ tables_length = omega arith in
    let increments = merged_table macroblock_address_increment_index (map pos macroblock_address_increment_value) in
    let l1 = laid-codes increments 0 24 long (none-laid t 0 (omega arith)) tt tt c.put_codes.ensures in
    let l2 = laid-codes increments 24 24 long l1 tt tt c.put_codes-2.ensures in
    let l3 = laid-codes increments 48 24 long l2 tt tt c.put_codes-3.ensures in
    let l4 = laid-codes increments 72 8 long l3 tt tt c.put_codes-4.ensures in
    let l5 = laid-codes (merged_table macroblock_type_intra_index (map pos macroblock_type_intra_value)) 0 4 long l4 tt tt c.put_codes-5.ensures in
    let l6 = laid-codes (merged_table macroblock_type_predictive_index (map pos macroblock_type_predictive_value)) 0 14 long l5 tt tt c.put_codes-6.ensures in
    let l7 = laid-codes (merged_table macroblock_type_b_index (map pos macroblock_type_b_value)) 0 22 long l6 tt tt c.put_codes-7.ensures in
    let patterns = merged_table code_block_pattern_index (map pos code_block_pattern_value) in
    let l8 = laid-codes patterns 0 24 long l7 tt tt c.put_codes-8.ensures in
    let l9 = laid-codes patterns 24 24 long l8 tt tt c.put_codes-9.ensures in
    let l10 = laid-codes patterns 48 24 long l9 tt tt c.put_codes-10.ensures in
    let l11 = laid-codes patterns 72 24 long l10 tt tt c.put_codes-11.ensures in
    let l12 = laid-codes patterns 96 24 long l11 tt tt c.put_codes-12.ensures in
    let l13 = laid-codes patterns 120 6 long l12 tt tt c.put_codes-13.ensures in
    l13.0.is ∙ ap (paste t 0 macroblock_codes) (sym macroblock-codes-length)
