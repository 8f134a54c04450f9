-- The sum of a table's codes, by the length of the stream and by the table.
use mathlib.Core.Path.{◌≡◌, refl, ◌∙◌}
use mathlib.Core.List.{List}
use Prim.Native.Nat.{ℕ, ◌≤◌, ◌<◌}
use borrow.Author.Tests.{eq-eqb, ne_eqb, le-leb, lt-leb}
use lib.ListN.{length}
use Rattle.bits.specs.Bounds.{longest_stream}
use Rattle.bits.specs.Programs.{run}
use Rattle.codes.specs.Codes.{dct_coeff, macroblock_address_increment}
use Rattle.code_timing.specs.Sum.{summed, code_sum}

module _ (s : List ℕ) (table count : ℕ) where
  pub long_sum : longest_stream < length s → 0 ≡ code_sum s table count
  unfolding code_sum
  long_sum h = rw (lt-leb (length s) longest_stream h) refl

  pub coefficients_sum : (sum : ℕ) → length s ≤ longest_stream → table ≡ 0 → sum ≡ (run (summed dct_coeff count 0) s 0).value → sum ≡ code_sum s table count
  unfolding code_sum
  coefficients_sum sum h e r = r ∙ rw (le-leb (length s) longest_stream h, eq-eqb table 0 e) refl

  pub increments_sum : (sum : ℕ) → length s ≤ longest_stream → (table ≡ 0 → ⊥) → sum ≡ (run (summed macroblock_address_increment count 0) s 0).value
      → sum ≡ code_sum s table count
  unfolding code_sum
  increments_sum sum h e r = r ∙ rw (le-leb (length s) longest_stream h, ne_eqb table 0 e) refl
