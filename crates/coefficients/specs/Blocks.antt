-- RULES 3.3, 3.7 to 3.12: the coefficients of a block, from what it says and what was left over.
use Rattle.std.specs.Prelude.{Bool, not, ◌&&◌, List, [], ◌∷◌, ℕ, ◌+◌, eqb, ℤ, pos, ◌+ℤ◌, ◌*ℤ◌, get_or, set, replicate}
use Rattle.bits.specs.Programs.{Prog, done, ◌>>=◌, when◌then◌else◌}
use Rattle.codes.specs.Matrices.{zig_zag, premultiplier_matrix}
use Rattle.coefficients.specs.declared.block.{Block.Block, BlockEnd.BlockEnd}
use Rattle.coefficients.specs.declared.block.BlockEnd.TheVariants.{Complete, Dropped, DcOutOfRange}
use Rattle.coefficients.specs.declared.quantiser.Quantiser.{Quantiser}
use Rattle.coefficients.specs.Dcs.{dc_in_range}
use Rattle.coefficients.specs.Dequantise.{dequantised}
use Rattle.coefficients.specs.Syntax.{Pair, CodedBlock, pairs, coded_block}

-- the coefficients so far, and the places used
pub record BlockCoefficients : Type 0 where
  pub coefficients : List ℤ
  pub n : ℕ

abbrev pub block_coefficients : List ℤ → ℕ → BlockCoefficients
block_coefficients coefficients n = record { coefficients = coefficients; n = n }

-- RULES 3.7, 3.8: the level of a pair, at its place in zig-zag order; its coefficient replaces the one there
abbrev pub with_pair : Quantiser → List ℕ → BlockCoefficients → Pair → BlockCoefficients
with_pair q matrix f p =
    let n = f.n + p.run in
    let position = get_or zig_zag n 0 in
    block_coefficients (set f.coefficients position (dequantised q p.level (get_or matrix position 0) *ℤ get_or premultiplier_matrix position (pos 0))) (n + 1)

-- all pairs, one after the other
unfoldable pub with_pairs : Quantiser → List ℕ → BlockCoefficients → List Pair → BlockCoefficients
with_pairs q matrix f [] = f
with_pairs q matrix f (p ∷ ps) = with_pairs q matrix (with_pair q matrix f p) ps

-- the coefficients of some pairs, and how the block ended
pub record BlockCoefficientsEnd : Type 0 where
  pub block_coefficients : BlockCoefficients
  pub end : BlockEnd

abbrev pub block_coefficients_end : BlockCoefficients → BlockEnd → BlockCoefficientsEnd
block_coefficients_end f end = record { block_coefficients = f; end = end }

-- RULES 3.5, 3.7, 3.8: the pairs behind f, up to the end of the block: read, then placed
unfoldable pub coefficients : Quantiser → List ℕ → BlockCoefficients → Prog BlockCoefficientsEnd
coefficients q matrix f = do
  p ← pairs f.n
  done (block_coefficients_end (with_pairs q matrix f p.pairs) p.end)

-- RULES 3.3, 3.9: what a block leaves: coefficients, the predictor from now on, and how it ended
pub record BlockRead : Type 0 where
  pub block_coefficients : BlockCoefficients
  pub predictor : ℤ
  pub end : BlockEnd

-- RULES 3.3: the DC value x is the first coefficient of an intra block
abbrev pub with_dc : ℤ → List ℤ → BlockCoefficients
with_dc x left = block_coefficients (set left 0 (x *ℤ pos 256)) 1

-- RULES 3.3, 3.4: the predictor behind the block: the DC value of an intra block
abbrev pub dc_of : Quantiser → ℤ → CodedBlock → ℤ
dc_of q predictor c = when q.intra then predictor +ℤ c.difference else predictor

-- RULES 3.3, 3.4: what the pairs are placed behind
abbrev pub coefficients_before_pairs : Quantiser → ℤ → List ℤ → CodedBlock → BlockCoefficients
coefficients_before_pairs q predictor left c = when q.intra then with_dc (dc_of q predictor c) left else block_coefficients left 0

-- RULES Q8, 3.3, 3.4, 3.7, 3.8: a block from what it says, the predictor and the coefficients left over; a DC value outside changes neither of them
unfoldable pub reconstructed : Quantiser → List ℕ → ℤ → List ℤ → CodedBlock → BlockRead
reconstructed q matrix predictor left c =
    when q.intra && not (dc_in_range (predictor +ℤ c.difference)) then record
    { block_coefficients = block_coefficients left 0; predictor = predictor; end = c.end }
    else record
    { block_coefficients = with_pairs q matrix (coefficients_before_pairs q predictor left c) c.pairs; predictor = dc_of q predictor c; end = c.end }

-- a block, from the coefficients that are left over: read, then reconstructed
unfoldable pub block : Quantiser → List ℕ → Bool → ℤ → List ℤ → Prog BlockRead
block q matrix luminance predictor left = do
  c ← coded_block q.intra luminance predictor
  done (reconstructed q matrix predictor left c)

-- what the code gives beside the reader, with the coefficients as it leaves them
abbrev pub block_read_of : List ℤ → Block → BlockRead
block_read_of coefficients r = record { block_coefficients = block_coefficients coefficients r.n; predictor = r.predictor; end = r.end }

-- RULES 3.9, 3.12: block_data after a block (RULES S.7: left-over coefficients): nothing after a whole block, else its coefficients so far
unfoldable pub block_data_after : Quantiser → BlockRead → List ℤ
block_data_after q r =
    elim r.end [ Complete ↦ replicate 64 (pos 0) | Dropped ↦ r.block_coefficients.coefficients | DcOutOfRange ↦ r.block_coefficients.coefficients ]

-- RULES 4.3: a block that has its first coefficient and no other
abbrev pub first_only : Quantiser → BlockCoefficients → Bool
first_only q f = eqb f.n 1
