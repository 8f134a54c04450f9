-- RULES 5.2 to 5.5 (11172-2, 2.4.2.7): the syntax of a vector's component, as programs over reads.
use Rattle.std.specs.Prelude.{◌||◌, ℕ, ◌^◌, eqb, ℤ, pos, ◌+ℤ◌}
use Rattle.bits.specs.Programs.{Prog, done, bits, eq_z, ◌>>=◌, when◌then◌else◌}
use Rattle.codes.specs.Codes.{motion}
use Rattle.motion.specs.Displacement.{displacement_from, corrected}

-- the displacement, f being 2 ^ r: the code alone where it is 0 or f is 1, else with r bits of residual
unfoldable pub displacement : ℕ → Prog ℤ
displacement r = do
  m ← motion
  when eq_z m (pos 0) || eqb r 0 then done m else do
    R ← bits r
    done (displacement_from (2 ^ r) m R)

-- a vector step
unfoldable pub motion_vector : ℕ → ℤ → Prog ℤ
motion_vector r component = do
  d ← displacement r
  done (corrected (2 ^ r) (component +ℤ d))
