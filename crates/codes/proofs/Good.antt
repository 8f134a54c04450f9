-- RULES 2.3: each of the nine code tables keeps the rule, by one computed test over its entries. Assumes nothing.
use mathlib.Core.Path.{◌≡◌, subst}
use mathlib.Core.Bool.{Bool, true, ◌&&◌}
use mathlib.Core.List.{List}
use Prim.Native.Nat.{ℕ, zero, suc, ◌+◌, ◌%◌, ◌<◌}
use native.Mathlib.Omega.{arith}
use lib.Dec.{T, eqb, ltb, eqb→eq, ltb→lt}
use lib.ListN.{length}
use lib.IntN.{ℤ, pos, negsuc}
use mir.Facts.{and_yes}
use Rattle.laws.proofs.Tables.{every, at}
use Rattle.codes.specs.TableRule.{ValidIndices}
use Rattle.codes.specs.Tables.{macroblock_address_increment_index, macroblock_type_intra_index, macroblock_type_predictive_index, macroblock_type_b_index}
use Rattle.codes.specs.Tables.{code_block_pattern_index, motion_index, dct_size_luminance_index, dct_size_chrominance_index, dct_coeff_index}

-- the rule at the entry k of a table of l entries
abbrev pub entry : ℕ → ℕ → ℤ → Bool
entry l k (pos zero) = true
entry l k (pos (suc m)) = eqb (suc m % 2) 0 && (ltb k (suc m) && ltb (suc m + 1) l)
entry l k (negsuc m) = true

abbrev pub table : List ℤ → Bool
table ix = ltb 1 (length ix) && every (entry (length ix)) 0 ix

pub good_of : (ix : List ℤ) → T (table ix) → ValidIndices ix
good_of ix t =
    let u = and_yes (ltb 1 (length ix)) (every (entry (length ix)) 0 ix) t in
    record {
      two = ltb→lt 1 (length ix) u.0;
      rule = λ k n h e p. positive k n (subst (λ (z : ℤ). T (entry (length ix) k z)) e (at (entry (length ix)) ix (pos 0) u.1 k h)) p;
    }
  where
    positive : (k n : ℕ) → T (entry (length ix) k (pos n)) → 0 < n → (n % 2 ≡ 0) × (k < n) × (n + 1 < length ix)
    positive k zero v p = let z : ⊥ = omega arith in absurd z
    positive k (suc m) v p =
        let e = and_yes (eqb (suc m % 2) 0) (ltb k (suc m) && ltb (suc m + 1) (length ix)) v in
        let r = and_yes (ltb k (suc m)) (ltb (suc m + 1) (length ix)) e.1 in
        (eqb→eq (suc m % 2) 0 e.0, ltb→lt k (suc m) r.0, ltb→lt (suc m + 1) (length ix) r.1)

pub good-macroblock-address-increment : ValidIndices macroblock_address_increment_index
unfolding macroblock_address_increment_index
good-macroblock-address-increment = good_of macroblock_address_increment_index tt

pub good-macroblock-type_intra : ValidIndices macroblock_type_intra_index
unfolding macroblock_type_intra_index
good-macroblock-type_intra = good_of macroblock_type_intra_index tt

pub good-macroblock-type_predictive : ValidIndices macroblock_type_predictive_index
unfolding macroblock_type_predictive_index
good-macroblock-type_predictive = good_of macroblock_type_predictive_index tt

pub good-macroblock-type-b : ValidIndices macroblock_type_b_index
unfolding macroblock_type_b_index
good-macroblock-type-b = good_of macroblock_type_b_index tt

pub good-code-block-pattern : ValidIndices code_block_pattern_index
unfolding code_block_pattern_index
good-code-block-pattern = good_of code_block_pattern_index tt

pub good-motion : ValidIndices motion_index
unfolding motion_index
good-motion = good_of motion_index tt

pub good_dct-size-luminance : ValidIndices dct_size_luminance_index
unfolding dct_size_luminance_index
good_dct-size-luminance = good_of dct_size_luminance_index tt

pub good_dct-size-chrominance : ValidIndices dct_size_chrominance_index
unfolding dct_size_chrominance_index
good_dct-size-chrominance = good_of dct_size_chrominance_index tt

pub good_dct_coeff : ValidIndices dct_coeff_index
unfolding dct_coeff_index
good_dct_coeff = good_of dct_coeff_index tt
