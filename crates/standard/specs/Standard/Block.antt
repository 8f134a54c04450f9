-- 2.4.2.8, 2.4.3.7, 2.4.4.1, 2.4.4.2: block(i). dct_coeff_first, dct_coeff_next and end_of_block are read by `pairs` of crates/coefficients.
use Rattle.codes.specs.Matrices.{zig_zag}
use Rattle.coefficients.specs.declared.block.BlockEnd.TheVariants.{Complete, Dropped, DcOutOfRange}
use Rattle.coefficients.specs.{Dcs.dc_size, Standard.dct_zz0, Syntax.Pair, Syntax.PairsEnd, Syntax.pairs}
use Rattle.prediction.specs.{Planes.plane_of, Planes.plane_length, Writers.overwrite, Writers.add_block, Writers.block_width, Writers.block_address}
use Rattle.blocks.specs.Blocks.{matrix_for}
use Rattle.std.specs.Prelude.{Bool, true, false, ◌&&◌, ◌||◌, List, [], ◌∷◌, ℕ, ◌+◌, ◌-◌, ◌^◌, eqb, ltb, leb, ℤ, pos, neg_ℤ, nat_abs, ◌+ℤ◌, ◌-ℤ◌, ◌*ℤ◌, get_or}
use Rattle.std.specs.Prelude.{set, replicate}
use Rattle.standard.specs.Standard.Prelude.{lt_z, le_z, mid_of, put_mid, Prog, bits, when◌then◌else◌, macroblock_at, plane_start, Result, ok, lift}
use Rattle.standard.specs.Standard.Prelude.{from_result, pure, for_below, ◌>>=◌, ◌>>◌, flag, Forbidden, forbidden, shall, table_code}
use Rattle.standard.specs.Standard.State.{Coding, Pasts, pasts, Variables}

-- dct_recon so far, row by row, and how many places of the zig-zag order are used
pub record PartialBlock : Type 0 where
  pub recon : List ℤ
  pub n : ℕ

-- Table B.5: a level is -255 to 255, and not 0, which what is no code is read as
abbrev pub is_level : ℤ → Bool
is_level level = leb 1 (nat_abs level) && leb (nat_abs level) 255

-- 2.4.3.7: i = i + run + 1; dct_zz[i] = level. 2.4.4.1, 2.4.4.2: dct_recon[m][n], where scan[m][n] is i
unfoldable pub reconstructed : Coding → Bool → ℕ → PartialBlock → List Pair → Result Forbidden PartialBlock
reconstructed g intra scale f [] = ok f
reconstructed g intra scale f (p ∷ ps) =
    let position = get_or zig_zag (f.n + p.run) 0 in
    let quant = get_or (matrix_for g.matrices intra) position 0 in
    when is_level p.level && g.rules.admitted intra p.level scale quant then
    reconstructed g intra scale (record { recon = set f.recon position (g.rules.dct_recon intra p.level scale quant); n = f.n + p.run + 1 }) ps
    else forbidden

-- up to end_of_block, within the 64 places
abbrev pub coefficients : Coding → Bool → ℕ → PartialBlock → PairsEnd → Result Forbidden PartialBlock
coefficients g intra scale f p = elim p.end [ Complete ↦ reconstructed g intra scale f p.pairs | Dropped ↦ forbidden | DcOutOfRange ↦ forbidden ]

-- Table B.5: how many bits the longest code of dct_dc_size_luminance or dct_dc_size_chrominance has; what is 1 in all of them is no code
abbrev pub longest_size : Bool → ℕ
longest_size luminance = when luminance then 7 else 8

abbrev pub is_size_code : Bool → ℕ → Bool
is_size_code luminance x = ltb (x + 1) (2 ^ longest_size luminance)

-- 2.4.2.8, 2.4.3.7: dct_dc_size_.., dct_dc_differential, and dct_zz[0] from them
unfoldable pub dct_dc : ℕ → Prog (Result Forbidden ℤ)
dct_dc i = do
  size ← table_code (longest_size (ltb i 4)) (is_size_code (ltb i 4)) (dc_size (ltb i 4))
  when eqb size 0 then pure (pos 0) else do
    differential ← lift (bits size)
    pure (dct_zz0 size differential)

-- the past of block i becomes x: that of Y for 0 to 3, of Cb for 4, of Cr for 5
abbrev pub past_as : ℕ → ℤ → Pasts → Pasts
past_as i x p = when ltb i 4 then pasts x p.cb p.cr else when eqb i 4 then pasts p.y x p.cr else pasts p.y p.cb x

-- 2.4.4.1: macroblock_address - past_intra_address > 1
abbrev pub no_intra_just_before : ℤ → Variables → Bool
no_intra_just_before address v = lt_z (pos 1) (address -ℤ v.past_intra_address)

-- 2.4.4.1: what is added to dct_zz[0] * 8: the past of block i, but 128 * 8 for block 0, for Cb and for Cr where the last intra macroblock is far
abbrev pub dc_predictor : Bool → ℕ → Pasts → ℤ
dc_predictor is_far i p = when (eqb i 0 || ltb 3 i) && is_far then pos 1024 else when ltb i 4 then p.y else when eqb i 4 then p.cb else p.cr

-- pasts and pels behind some blocks
pub record Blocks : Type 0 where
  pub past : Pasts
  pub pels : List ℕ

-- 2.4.4.1, 2.4.4.2: the pels of block i in its plane become the transformed values, or these are added to them; clipped to 0 to 255
unfoldable pub written : Coding → Bool → ℕ → ℕ → PartialBlock → List ℕ → List ℕ
written g intra i address f l =
    let m = macroblock_at g.context.sizes.mb_width g.context.sizes.mb_height address in
    let start = plane_start g.context.stores.cur (plane_of i) g.context.sizes.mb_size in
    let size = plane_length (plane_of i) g.context.sizes.mb_size in
    let before = mid_of start size l in
    let x = g.rules.transform f.recon in
    put_mid start size l (when intra then overwrite before (block_address m i) (block_width m i) x
    else add_block before (block_address m i) (block_width m i) x)

-- 2.4.4.1: dct_dc_.._past = dct_recon[0][0], in the 12 bits that the transform takes (Annex A)
unfoldable pub intra_block : Coding → Bool → ℕ → ℕ → ℕ → Blocks → Prog (Result Forbidden Blocks)
intra_block g is_far scale address i b = do
  zz ← dct_dc i
  let recon = dc_predictor is_far i b.past +ℤ pos 8 *ℤ zz
  shall (le_z (neg_ℤ (pos 2048)) recon && le_z recon (pos 2047))
  p ← lift (pairs 1)
  f ← from_result (coefficients g true scale (record { recon = set (replicate 64 (pos 0)) 0 recon; n = 1 }) p)
  pure (record { past = past_as i recon b.past; pels = written g true i address f b.pels })

-- 2.4.4.2
unfoldable pub non_intra_block : Coding → ℕ → ℕ → ℕ → Blocks → Prog (Result Forbidden Blocks)
non_intra_block g scale address i b = do
  p ← lift (pairs 0)
  f ← from_result (coefficients g false scale (record { recon = replicate 64 (pos 0); n = 0 }) p)
  pure (record { past = b.past; pels = written g false i address f b.pels })

-- 2.4.3.6: pattern_code[i] = 0; if (cbp & (1 << (5 - i))) pattern_code[i] = 1; if (macroblock_intra) pattern_code[i] = 1
abbrev pub pattern_code : Bool → ℕ → ℕ → Bool
pattern_code intra cbp i = flag cbp (2 ^ (5 - i)) || intra

-- 2.4.2.8: block(i), if (pattern_code[i])
abbrev pub block : Coding → Bool → Bool → ℕ → ℕ → ℕ → ℕ → Blocks → Prog (Result Forbidden Blocks)
block g intra is_far cbp scale address i b =
    when pattern_code intra cbp i then (when intra then intra_block g is_far scale address i b else non_intra_block g scale address i b) else pure b

-- 2.4.2.7: for (i = 0; i < 6; i++) block(i)
unfoldable pub blocks : Coding → Bool → Bool → ℕ → ℕ → ℕ → Blocks → Prog (Result Forbidden Blocks)
blocks g intra is_far cbp scale address b = for_below 6 (block g intra is_far cbp scale address) b
