-- ISO/IEC 11172-2, 2.4.4.2: the reconstruction of a vector's component as it is printed for the horizontal one. f is forward_f, code is
-- motion_horizontal_forward_code, R is motion_horizontal_forward_r, prev is recon_right_for_prev, the component before the step.
use Rattle.std.specs.Prelude.{not, ◌&&◌, ◌||◌, ℕ, ◌*◌, ◌^◌, eqb, ℤ, pos, neg_ℤ, ◌+ℤ◌, ◌-ℤ◌, ◌*ℤ◌}
use Rattle.std.specs.Int.Signed.{lt_z, le_z}
use Rattle.bits.specs.Programs.{Prog, done, bits, eq_z, ◌>>=◌, when◌then◌else◌}
use Rattle.codes.specs.Codes.{motion}

-- complement_horizontal_forward_r
unfoldable pub complement : ℕ → ℤ → ℕ → ℤ
complement f code R = when eqb f 1 || eq_z code (pos 0) then pos 0 else pos f -ℤ pos 1 -ℤ pos R

-- right_little and right_big, from right_little = code * f and the complement
pub record Right : Type 0 where
  pub little : ℤ
  pub big : ℤ

-- the two by the sign of right_little
unfoldable pub right : ℕ → ℤ → ℤ → Right
right f little complement =
    when eq_z little (pos 0) then record { little = little; big = pos 0 }
    else when lt_z (pos 0) little then record { little = little -ℤ complement; big = little -ℤ complement -ℤ pos (32 * f) }
    else record { little = little +ℤ complement; big = little +ℤ complement +ℤ pos (32 * f) }

-- recon_right_for
unfoldable pub recon : ℕ → ℤ → Right → ℤ
recon f prev right =
    let max = pos (16 * f) -ℤ pos 1 in
    let min = neg_ℤ (pos (16 * f)) in
    let new = prev +ℤ right.little in
    when le_z new max && le_z min new then prev +ℤ right.little else prev +ℤ right.big

-- recon_right_for from the code and its residual R
unfoldable pub reconstructed : ℕ → ℤ → ℤ → ℕ → ℤ
reconstructed f prev code R = recon f prev (right f (code *ℤ pos f) (complement f code R))

-- 2.4.2.7: motion_horizontal_forward_r, of r bits, stands in the stream only where forward_f is not 1 and the code is not 0; 0 where it does not
unfoldable pub residual : ℕ → ℤ → Prog ℕ
residual r code = when not (eqb (2 ^ r) 1) && not (eq_z code (pos 0)) then bits r else done 0

-- the code, its residual, and the component that they say
unfoldable pub standard_vector : ℕ → ℤ → Prog ℤ
standard_vector r prev = do
  code ← motion
  R ← residual r code
  done (reconstructed (2 ^ r) prev code R)
