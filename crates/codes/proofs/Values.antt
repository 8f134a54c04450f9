-- What every value of a table passes, each code read from it passes; so the bounds of the codes. Assumes nothing.
use mathlib.Core.Bool.{Bool}
use mathlib.Core.List.{List}
use Prim.Native.Nat.{ℕ, ◌≤◌}
use lib.Dec.{T, leb, leb→le}
use lib.IntN.{ℤ, pos, nat_abs}
use Rattle.laws.proofs.Tables.{every}
use Rattle.bits.proofs.Gives.{Gives}
use Rattle.bits.proofs.Rules.{at-run}
use Rattle.codes.specs.Codes.{macroblock_address_increment, motion, dct_size_luminance, dct_size_chrominance, dct_coeff}
use Rattle.codes.specs.Tables.{macroblock_address_increment_index, macroblock_address_increment_value, motion_index, motion_value}
use Rattle.codes.specs.Tables.{dct_size_luminance_index, dct_size_luminance_value, dct_size_chrominance_index, dct_size_chrominance_value, dct_coeff_index}
use Rattle.codes.specs.Tables.{dct_coeff_value}
use Rattle.codes.specs.Walk.{vlc}
use Rattle.codes.proofs.Vlc.{vlc-passes}

module _ {s : List ℕ} where
  g-vlc : {A : Type 0} (ix : List ℤ) (vs : List A) (d : A) (p : A → Bool) → T (p d) → T (every (λ k. p) 0 vs) → Gives s (λ v. T (p v)) (vlc ix vs d)
  g-vlc ix vs d p t u = record { value = λ a. vlc-passes ix vs d {s = s} {a = a} at-run p t u }

  -- a table of natural numbers up to n, and one of numbers of at most this size
  most : (n : ℕ) (ix : List ℤ) (vs : List ℕ) → T (leb 0 n) → T (every (λ k v. leb v n) 0 vs) → Gives s (λ v. v ≤ n) (vlc ix vs 0)
  most n ix vs t u = record { value = λ a. leb→le _ n ((g-vlc ix vs 0 (λ v. leb v n) t u).value a) }

  pub increment-most : Gives s (λ v. v ≤ 35) macroblock_address_increment
  unfolding macroblock_address_increment macroblock_address_increment_value
  increment-most = most 35 macroblock_address_increment_index macroblock_address_increment_value tt tt

  pub motion-most : Gives s (λ v. nat_abs v ≤ 16) motion
  unfolding motion motion_value
  motion-most = record { value = λ a. leb→le _ 16 ((g-vlc motion_index motion_value (pos 0) (λ v. leb (nat_abs v) 16) tt tt).value a) }

  pub size-luminance-most : Gives s (λ v. v ≤ 8) dct_size_luminance
  unfolding dct_size_luminance dct_size_luminance_value
  size-luminance-most = most 8 dct_size_luminance_index dct_size_luminance_value tt tt

  pub size-chrominance-most : Gives s (λ v. v ≤ 8) dct_size_chrominance
  unfolding dct_size_chrominance dct_size_chrominance_value
  size-chrominance-most = most 8 dct_size_chrominance_index dct_size_chrominance_value tt tt

  pub coefficient-most : Gives s (λ v. v ≤ 65535) dct_coeff
  unfolding dct_coeff dct_coeff_value
  coefficient-most = most 65535 dct_coeff_index dct_coeff_value tt tt
