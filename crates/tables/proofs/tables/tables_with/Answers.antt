-- The fixed tables are laid in two parts, and the matrices behind them.
use Rattle.std.proofs.Common.{◌≡◌, List, ℕ, length, replicate, refl, ap, ◌∙◌, arith}
use lib.Seq.{paste}
use Rattle.codes.specs.DecodingTables.{macroblock_codes, block_codes, fixed_tables, tables_length, tables_with}
use Rattle.tables.proofs.Made.{none-laid, laid_on, all_laid, macroblock-codes-length, block-codes-length, lent_with}
use Rattle.tables.proofs.tables.tables_with.Goals as goal

laid : {m b i o : List ℕ} (intra other : List ℕ) → length intra ≡ 64 → length other ≡ 64
    → m ≡ paste (replicate tables_length 0) 0 macroblock_codes (length macroblock_codes)
    → b ≡ paste m (length macroblock_codes) block_codes (length block_codes)
    → i ≡ paste b 702 intra (length intra) → o ≡ paste i 766 other (length other) → o ≡ tables_with intra other
unfolding fixed_tables
laid {m = m} intra other long long-other e f g h =
    let behind : ℕ → List ℕ = λ k. paste m k block_codes (length block_codes) in
    let empty = none-laid (replicate tables_length 0) 0 (omega arith) in
    let first = laid_on macroblock_codes 246 refl empty macroblock-codes-length tt macroblock-codes-length e in
    let fixed = laid_on block_codes 456 refl first block-codes-length tt block-codes-length (f ∙ ap behind macroblock-codes-length) in
    let both = laid_on intra 64 refl fixed long tt long g in
    all_laid (laid_on other 64 refl both long-other tt long-other h) refl

pub new-requires : goal.new-requires
new-requires c =
    let m = c.args.intra_matrix.now in
    let o = c.args.other_matrix.now in
    rw (laid m o c.told-intra_matrix c.told-other_matrix c.put_macroblock_codes.ensures c.put_block_codes.ensures c.put_bytes.ensures c.put_bytes-2.ensures)
    (lent_with m o (record { long = c.told-intra_matrix; bytes = c.fits-intra_matrix })
    (record { long = c.told-other_matrix; bytes = c.fits-other_matrix }))

pub returns : goal.returns
returns c =
    c.new.ensures
    ∙ laid _ _ c.told-intra_matrix c.told-other_matrix c.put_macroblock_codes.ensures c.put_block_codes.ensures c.put_bytes.ensures c.put_bytes-2.ensures
