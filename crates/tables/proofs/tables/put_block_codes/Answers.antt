-- Each table is laid behind the one before it.
use mathlib.Core.Path.{◌≡◌, refl, ap, sym, ◌∙◌}
use mathlib.Core.List.{map}
use Prim.Native.Nat.{ℕ}
use native.Mathlib.Omega.{arith}
use lib.IntN.{pos, nat_abs}
use lib.ListN.{length}
use lib.Seq.{paste}
use Rattle.codes.specs.Matrices.{zig_zag, down_from, diagonals, premultiplier_matrix}
use Rattle.codes.specs.DecodingTables.{tables_length, merged_table, block_codes}
use Rattle.codes.specs.Tables.{motion_index, motion_value, dct_size_luminance_index, dct_size_luminance_value}
use Rattle.codes.specs.Tables.{dct_size_chrominance_index, dct_size_chrominance_value, dct_coeff_index, dct_coeff_value}
use Rattle.tables.proofs.Made.{none-laid, laid_on, laid-codes, macroblock-codes-length, block-codes-length}
use Rattle.tables.proofs.tables.put_block_codes.Goals as goal

pub returns : goal.returns
unfolding block_codes motion_index motion_value dct_size_luminance_index dct_size_luminance_value dct_size_chrominance_index dct_size_chrominance_value
    dct_coeff_index dct_coeff_value zig_zag down_from diagonals premultiplier_matrix
returns c =
    let t = c.args.t.now in
    let long : length t ≡ tables_length = omega arith in
    let vectors = merged_table motion_index motion_value in
    let l1 = laid-codes vectors 0 24 long (none-laid t 246 (omega arith)) tt tt c.put_codes.ensures in
    let l2 = laid-codes vectors 24 24 long l1 tt tt c.put_codes-2.ensures in
    let l3 = laid-codes vectors 48 20 long l2 tt tt c.put_codes-3.ensures in
    let l4 = laid-codes (merged_table dct_size_luminance_index (map pos dct_size_luminance_value)) 0 18 long l3 tt tt c.put_codes-4.ensures in
    let l5 = laid-codes (merged_table dct_size_chrominance_index (map pos dct_size_chrominance_value)) 0 18 long l4 tt tt c.put_codes-5.ensures in
    let coefficients = merged_table dct_coeff_index (map pos dct_coeff_value) in
    let l6 = laid-codes coefficients 0 24 long l5 tt tt c.put_codes-6.ensures in
    let l7 = laid-codes coefficients 24 24 long l6 tt tt c.put_codes-7.ensures in
    let l8 = laid-codes coefficients 48 24 long l7 tt tt c.put_codes-8.ensures in
    let l9 = laid-codes coefficients 72 24 long l8 tt tt c.put_codes-9.ensures in
    let l10 = laid-codes coefficients 96 24 long l9 tt tt c.put_codes-10.ensures in
    let l11 = laid-codes coefficients 120 24 long l10 tt tt c.put_codes-11.ensures in
    let l12 = laid-codes coefficients 144 24 long l11 tt tt c.put_codes-12.ensures in
    let l13 = laid-codes coefficients 168 24 long l12 tt tt c.put_codes-13.ensures in
    let l14 = laid-codes coefficients 192 24 long l13 tt tt c.put_codes-14.ensures in
    let l15 = laid-codes coefficients 216 8 long l14 tt tt c.put_codes-15.ensures in
    let order = laid_on zig_zag 64 long l15 refl tt refl c.put_bytes.ensures in
    let all = laid_on (map nat_abs premultiplier_matrix) 64 long order refl tt refl c.put_bytes-2.ensures in
    all.0.is ∙ ap (paste t 246 block_codes) (sym block-codes-length) ∙ ap (λ (k : ℕ). paste t k block_codes (length block_codes)) (sym macroblock-codes-length)
