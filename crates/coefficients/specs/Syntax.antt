-- RULES 3.1 to 3.7 (11172-2, 2.4.2.8): a block as it is coded.
use Rattle.std.specs.Prelude.{Bool, cond, List, [], ◌∷◌, ◌++◌, ℕ, ◌+◌, ltb, ℤ, pos, ◌+ℤ◌}
use Rattle.laws.specs.Loops.{Step, continue, finish}
use Rattle.bits.specs.Programs.{Prog, done, loop, ◌>>=◌, when◌then◌else◌}
use Rattle.coefficients.specs.declared.coefficient.Coefficient.{Coefficient}
use Rattle.coefficients.specs.declared.coefficient.Coefficient.TheVariants.{EndOfBlock, RunLevel}
use Rattle.coefficients.specs.declared.block.BlockEnd.{BlockEnd}
use Rattle.coefficients.specs.declared.block.BlockEnd.TheVariants.{Complete, Dropped, DcOutOfRange}
use Rattle.coefficients.specs.Coefficients.{coefficient}
use Rattle.coefficients.specs.Dcs.{dc_difference, dc_in_range}

-- RULES 3.5: a run and the level behind it
pub record Pair : Type 0 where
  pub run : ℕ
  pub level : ℤ

-- the pairs so far, and the places used
pub record PairsRead : Type 0 where
  pub pairs : List Pair
  pub n : ℕ

abbrev pub pairs_read : List Pair → ℕ → PairsRead
pairs_read pairs n = record { pairs = pairs; n = n }

-- the pairs of a block, and how it ended
pub record PairsEnd : Type 0 where
  pub pairs : List Pair
  pub end : BlockEnd

abbrev pub pairs_end : List Pair → BlockEnd → PairsEnd
pairs_end pairs end = record { pairs = pairs; end = end }

-- RULES 3.5, 3.7: a coefficient ends the block, drops it where its run leads past the last place, or takes one place more
abbrev pub after_coefficient : PairsRead → Coefficient → Step PairsRead PairsEnd
after_coefficient x EndOfBlock = finish (pairs_end x.pairs Complete)
after_coefficient x (RunLevel run level) =
    cond (ltb (x.n + run) 64) (continue (pairs_read (x.pairs ++ (record { run = run; level = level } ∷ [])) (x.n + run + 1)))
    (finish (pairs_end x.pairs Dropped))

-- RULES 3.5, 3.7: one coefficient
unfoldable pub pair_step : PairsRead → Prog (Step PairsRead PairsEnd)
pair_step x = do
  c ← coefficient x.n
  done (after_coefficient x c)

-- coefficients up to the end of a block that has n places used: at most 64, and one turn that ends it
unfoldable pub pairs : ℕ → Prog PairsEnd
pairs n = loop 65 pair_step (pairs_end [] Dropped) (pairs_read [] n)

-- a block as it is coded: what its DC value adds to the predictor, 0 in a non-intra block; its pairs; how it ended
pub record CodedBlock : Type 0 where
  pub difference : ℤ
  pub pairs : List Pair
  pub end : BlockEnd

abbrev pub coded : ℤ → PairsEnd → CodedBlock
coded difference p = record { difference = difference; pairs = p.pairs; end = p.end }

-- RULES 3.3: an intra block begins with its DC value, after which question 8 is asked
unfoldable pub intra_coded : Bool → ℤ → Prog CodedBlock
intra_coded luminance predictor = do
  difference ← dc_difference luminance
  when dc_in_range (predictor +ℤ difference) then (do p ← pairs 1; done (coded difference p))
      else done (coded difference (pairs_end [] DcOutOfRange))

-- RULES 3.4
unfoldable pub non_intra_coded : Prog CodedBlock
non_intra_coded = do
  p ← pairs 0
  done (coded (pos 0) p)

-- a block, intra or not
unfoldable pub coded_block : Bool → Bool → ℤ → Prog CodedBlock
coded_block intra luminance predictor = when intra then intra_coded luminance predictor else non_intra_coded
