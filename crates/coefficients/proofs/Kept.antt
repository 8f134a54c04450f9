-- What a block leaves: a predictor inside its range, and coefficients within their bound. Assumes nothing.
use mathlib.Core.Path.{◌≡◌, refl}
use mathlib.Core.Bool.{Bool, true, false, cond, not, ◌&&◌}
use mathlib.Core.List.{List, [], ◌∷◌}
use Prim.Native.Nat.{ℕ, ◌+◌, ◌*◌, ◌≤◌}
use native.Mathlib.Nat.{mul-le-mul_right}
use native.Mathlib.Omega.{arith}
use lib.IntN.{ℤ, pos, neg_ℤ, nat_abs, ◌+ℤ◌, ◌*ℤ◌}
use lib.ListN.{get_or, replicate}
use lib.Signed.{lt_z, shr_z}
use Rattle.laws.proofs.Ints.{v, lit, neg, lt_no, abs-by}
use Rattle.laws.proofs.Nums.{mul_abs}
use Rattle.laws.proofs.Tests.{by-case}
use Rattle.bits.proofs.Gives.{Gives, g-done, g_any, g-bind}
use Rattle.codes.specs.Matrices.{zig_zag, premultiplier_matrix, Bounded}
use Rattle.coefficients.specs.declared.block.BlockEnd.{BlockEnd}
use Rattle.coefficients.specs.declared.block.BlockEnd.TheVariants.{Complete, Dropped, DcOutOfRange}
use Rattle.coefficients.specs.declared.quantiser.Quantiser.{Quantiser}
use Rattle.coefficients.specs.Dcs.{dc_in_range}
use Rattle.coefficients.specs.Dequantise.{doubled, made_odd, clipped, dequantised}
use Rattle.coefficients.specs.Syntax.{Pair, CodedBlock, coded_block}
use Rattle.coefficients.specs.Blocks.{BlockCoefficients, block_coefficients, with_pair, with_pairs, BlockRead, with_dc, reconstructed, block, block_data_after}
use Rattle.coefficients.proofs.Bounds.{bounded-set, bounded-dc, bounded-zero}

clipped-small : (x : ℤ) → nat_abs (clipped x) ≤ 2048
clipped-small x =
    by-case (λ z. nat_abs z ≤ 2048) (lt_z x (neg_ℤ (pos 2048))) (λ e. omega arith) (λ e.
    by-case (λ z. nat_abs z ≤ 2048) (lt_z (pos 2047) x) (λ g. omega arith) (λ g.
    abs-by 2048 (v x) (omega (arith, lt_no (lit 2047) (v x) g)) (omega (arith, lt_no (v x) (neg (lit 2048)) e))))

pub dequantised-small : (q : Quantiser) (level : ℤ) (entry : ℕ) → nat_abs (dequantised q level entry) ≤ 2048
unfolding dequantised
dequantised-small q level entry = clipped-small (made_odd (shr_z (doubled q.intra level *ℤ pos q.scale *ℤ pos entry) 16))

-- the coefficient of a level at a place
pub product_small : (q : Quantiser) (level : ℤ) (entry place : ℕ)
    → nat_abs (dequantised q level entry *ℤ get_or premultiplier_matrix place (pos 0)) ≤ 2048 * nat_abs (get_or premultiplier_matrix place (pos 0))
product_small q level entry place =
    let factor = get_or premultiplier_matrix place (pos 0) in
    omega (arith, mul_abs (dequantised q level entry) factor, mul-le-mul_right (nat_abs factor) (dequantised-small q level entry))

placed-bounded : (q : Quantiser) (m : List ℕ) (f : BlockCoefficients) (p : Pair) → Bounded f.coefficients → Bounded (with_pair q m f p).coefficients
placed-bounded q m f p b =
    let place = get_or zig_zag (f.n + p.run) 0 in
    bounded-set place _ (product_small q p.level (get_or m place 0) place) b

all-bounded : (q : Quantiser) (m : List ℕ) (f : BlockCoefficients) (ps : List Pair) → Bounded f.coefficients → Bounded (with_pairs q m f ps).coefficients
unfolding with_pairs
all-bounded q m f [] b = b
all-bounded q m f (p ∷ ps) b = all-bounded q m (with_pair q m f p) ps (placed-bounded q m f p b)

-- the predictor inside, and the coefficients bounded
pub record Kept (r : BlockRead) : Type 0 where
  pub predictor : dc_in_range r.predictor ≡ true
  pub bounded : Bounded r.block_coefficients.coefficients

module _ (q : Quantiser) (m : List ℕ) (predictor : ℤ) (left : List ℤ) (p : dc_in_range predictor ≡ true) (b : Bounded left) where
  pub reconstructed-kept : (c : CodedBlock) → Kept (reconstructed q m predictor left c)
  unfolding reconstructed
  reconstructed-kept c = go q.intra (dc_in_range (predictor +ℤ c.difference)) refl
    where
      go : (t i : Bool) → dc_in_range (predictor +ℤ c.difference) ≡ i
          → Kept (cond (t && not i) (record { block_coefficients = block_coefficients left 0; predictor = predictor; end = c.end })
          (record {
            block_coefficients = with_pairs q m (cond t (with_dc (cond t (predictor +ℤ c.difference) predictor) left) (block_coefficients left 0)) c.pairs;
            predictor = cond t (predictor +ℤ c.difference) predictor;
            end = c.end;
          }))
      go true true e = record { predictor = e; bounded = all-bounded q m _ c.pairs (bounded-dc (predictor +ℤ c.difference) e b) }
      go true false e = record { predictor = p; bounded = b }
      go false i e = record { predictor = p; bounded = all-bounded q m _ c.pairs b }

  pub block-gives : {s : List ℕ} (luminance : Bool) → Gives s Kept (block q m luminance predictor left)
  unfolding block
  block-gives luminance = g-bind _ (g_any (coded_block q.intra luminance predictor)) (λ c u. g-done (reconstructed-kept c))

pub left-bounded : (q : Quantiser) (r : BlockRead) → Bounded r.block_coefficients.coefficients → Bounded (block_data_after q r)
unfolding block_data_after
left-bounded q r b = go r.end
  where
    go : (e : BlockEnd) → Bounded
        (elim e [ Complete ↦ replicate 64 (pos 0) | Dropped ↦ r.block_coefficients.coefficients | DcOutOfRange ↦ r.block_coefficients.coefficients ])
    go Complete = bounded-zero
    go Dropped = b
    go DcOutOfRange = b
