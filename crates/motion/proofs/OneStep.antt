-- What a vector step reads, at every stream and place: invalid codes and the end of the stream included. Assumes nothing.
use mathlib.Core.Path.{◌≡◌, ap}
use mathlib.Core.Bool.{◌||◌}
use mathlib.Core.List.{List}
use Prim.Native.Nat.{ℕ, ◌*◌, ◌^◌, ◌≤◌}
use native.Mathlib.Omega.{arith}
use lib.Dec.{eqb}
use lib.IntN.{ℤ, pos, nat_abs, ◌+ℤ◌}
use lib.Pow.{pow_pos, pow_mono}
use Rattle.bits.specs.Programs.{RunResult, done, run, eq_z}
use Rattle.bits.proofs.Gives.{Gives, g-done, g-bind, g_if, g-bits}
use Rattle.bits.proofs.Programs.{run_bind}
use Rattle.codes.proofs.Values.{motion-most}
use Rattle.motion.specs.Displacement.{InRange, corrected}
use Rattle.motion.specs.Vector.{displacement, motion_vector}
use Rattle.motion.proofs.Correction.{corrected_in}
use Rattle.motion.proofs.Displacement.{displace-small}

-- a step is the correction of component + displacement
pub step_is : (r : ℕ) (component : ℤ) (s : List ℕ) (a : ℕ)
    → (run (motion_vector r component) s a).value ≡ corrected (2 ^ r) (component +ℤ (run (displacement r) s a).value)
unfolding motion_vector run
step_is r component s a = ap (λ (o : RunResult ℤ). o.value) (run_bind (displacement r) (λ d. done (corrected (2 ^ r) (component +ℤ d))) s a)

module _ {s : List ℕ} where
  -- a displacement is from -16 f to 16 f
  pub displacement-most : (r : ℕ) → Gives s (λ d. nat_abs d ≤ 16 * 2 ^ r) (displacement r)
  unfolding displacement
  displacement-most r =
      g-bind _ motion-most (λ m h.
      g_if (eq_z m (pos 0) || eqb r 0) (λ e. g-done (omega (arith, pow_pos r))) (λ e.
      g-bind _ (g-bits r) (λ R k. g-done (displace-small (2 ^ r) m R h k))))

  -- RULES Q2: a component of the widest range stays in it
  pub component_in : (r : ℕ) (z : ℤ) → r ≤ 6 → InRange 64 z → Gives s (InRange 64) (motion_vector r z)
  unfolding motion_vector
  component_in r z h i = g-bind _ (displacement-most r) (λ d k. g-done (corrected_in d (pow_mono h) k i))
