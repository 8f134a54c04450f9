-- ISO/IEC 11172-2, 2.4.4.2 and 2.4.4.3: prediction as the standard prints it. A plane is the list of its samples, by rows of `wide`.
use Rattle.std.specs.Prelude.{Bool, cond, List, ℕ, ◌+◌, ◌*◌, ◌/◌, eqb, ℤ, pos, nat_abs, ◌+ℤ◌, ◌-ℤ◌, ◌*ℤ◌, get_or, ◌≤ℤ◌}
use Rattle.std.specs.Int.Signed.{shr_z, quot_z}
use Rattle.prediction.specs.declared.position.BlockPosition.{BlockPosition}
use Rattle.prediction.specs.Predict.{width, height}

-- n // d of numbers that are not negative: to the nearest integer, halves up
abbrev pub rounded_div : ℕ → ℕ → ℕ
rounded_div n d = (2 * n + d) / (2 * d)

-- right_for = recon_right_for >> 1, and the same down
abbrev pub whole_samples : ℤ → ℤ
whole_samples recon = shr_z recon 2

-- right_half_for = recon_right_for - 2 * right_for, and the same down
abbrev pub half_sample : ℤ → ℤ
half_sample recon = recon -ℤ pos 2 *ℤ whole_samples recon

-- for chrominance recon_right_for / 2 takes the place of recon_right_for; / truncates toward zero
abbrev pub chrominance : ℤ → ℤ
chrominance recon = quot_z recon (pos 2)

-- pel_past[i][j]
abbrev pub pel_past : List ℕ → ℕ → ℤ → ℤ → ℕ
pel_past s wide i j = get_or s (nat_abs i * wide + nat_abs j) 0

-- ! half
abbrev pub no_half_sample : ℤ → Bool
no_half_sample z = eqb (nat_abs z) 0

-- pel[i][j] by the four cases, at i = i + down_for and j = j + right_for
unfoldable pub formed : List ℕ → ℕ → ℤ → ℤ → ℤ → ℤ → ℕ
formed s wide right_half down_half i j =
    cond (no_half_sample right_half)
    (cond (no_half_sample down_half) (pel_past s wide i j) (rounded_div (pel_past s wide i j + pel_past s wide (i +ℤ pos 1) j) 2))
    (cond (no_half_sample down_half) (rounded_div (pel_past s wide i j + pel_past s wide i (j +ℤ pos 1)) 2)
    (rounded_div (pel_past s wide i j + pel_past s wide (i +ℤ pos 1) j + pel_past s wide i (j +ℤ pos 1) + pel_past s wide (i +ℤ pos 1) (j +ℤ pos 1)) 4))

-- the same from the vector in half samples
abbrev pub pel : List ℕ → ℕ → ℤ → ℤ → ℕ → ℕ → ℕ
pel s wide right down i j = formed s wide (half_sample right) (half_sample down) (pos i +ℤ whole_samples down) (pos j +ℤ whole_samples right)

-- 2.4.4.3: the average of a forward and a backward prediction
abbrev pub interpolated : ℕ → ℕ → ℕ
interpolated forward backward = rounded_div (forward + backward) 2

-- 2.4.4.2 allows no reference outside the picture: all samples that the block at p refers to are inside
pub record InPicture (p : BlockPosition) (h v : ℤ) : Type 0 where
  pub top : pos 0 ≤ℤ (pos (p.row * p.size) +ℤ whole_samples v)
  pub bottom : (pos (p.row * p.size) +ℤ whole_samples v +ℤ pos p.size +ℤ half_sample v) ≤ℤ pos (height p)
  pub left : pos 0 ≤ℤ (pos (p.column * p.size) +ℤ whole_samples h)
  pub right : (pos (p.column * p.size) +ℤ whole_samples h +ℤ pos p.size +ℤ half_sample h) ≤ℤ pos (width p)
