-- RULES W.1 to W.4: the worked cases of a vector step, by computation. Each stands as arithmetic and, read from a stream, as a run of the step.
-- Assumes nothing.
use mathlib.Core.Path.{◌≡◌, refl}
use mathlib.Core.List.{[], ◌∷◌}
use lib.IntN.{pos, neg_ℤ, ◌+ℤ◌}
use Rattle.bits.specs.Bits.{bit_at, bits_at, read_at, after_read}
use Rattle.bits.specs.Programs.{run, bind, loop}
use Rattle.codes.specs.Codes.{motion}
use Rattle.codes.specs.Tables.{motion_index, motion_value}
use Rattle.codes.specs.Walk.{walk_step, walk, vlc}
use Rattle.motion.specs.Displacement.{displacement_from, corrected}
use Rattle.motion.specs.Vector.{displacement, motion_vector}

pub record Cases : Type 0 where
  -- f 1, component 15, code +1
  pub w1 : corrected 1 (pos 15 +ℤ displacement_from 1 (pos 1) 0) ≡ neg_ℤ (pos 16)
  pub w1-read : run (motion_vector 0 (pos 15)) (0b0100_0000 ∷ []) 0 ≡ record { value = neg_ℤ (pos 16); at = 3 }
  -- f 1, component -16, code -1
  pub w2 : corrected 1 (neg_ℤ (pos 16) +ℤ displacement_from 1 (neg_ℤ (pos 1)) 0) ≡ pos 15
  pub w2-read : run (motion_vector 0 (neg_ℤ (pos 16))) (0b0110_0000 ∷ []) 0 ≡ record { value = pos 15; at = 3 }
  -- f 4, component 60, code +2, R 3
  pub w3 : corrected 4 (pos 60 +ℤ displacement_from 4 (pos 2) 3) ≡ neg_ℤ (pos 60)
  pub w3-read : run (motion_vector 2 (pos 60)) (0b0010_1100 ∷ []) 0 ≡ record { value = neg_ℤ (pos 60); at = 6 }
  -- f 64, component -1024, displacement -1024: the code -16 with the residual 63
  pub w4 : corrected 64 (neg_ℤ (pos 1024) +ℤ neg_ℤ (pos 1024)) ≡ pos 0
  pub w4-read : run (motion_vector 6 (neg_ℤ (pos 1024))) (0b0000_0011 ∷ 0b0011_1111 ∷ 0b1000_0000 ∷ []) 0 ≡ record { value = pos 0; at = 17 }

pub cases : Cases
unfolding motion_vector displacement corrected displacement_from run bind loop motion vlc walk walk_step motion_index motion_value read_at
    after_read bits_at bit_at
cases = record { w1 = refl; w1-read = refl; w2 = refl; w2-read = refl; w3 = refl; w3-read = refl; w4 = refl; w4-read = refl }
