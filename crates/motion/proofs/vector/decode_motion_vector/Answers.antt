-- The sum stays within what its correction is asked for.
use Rattle.std.proofs.Common.{◌≡◌, ℕ, ◌*◌, ◌^◌, ◌≤◌, ℤ, nat_abs, ◌+ℤ◌, arith, of_z, rules, to_z, to_z-of_z, w32}
use mathlib.Core.Path.{ap₂}
use lib.Pow.{pow_mono}
use mir.Val.{SFits}
use Rattle.laws.proofs.Ints.{reread, v, lit, neg, ◌⊕◌, le_of, lt_of, abs-by, abs-of, fits_by}
use Rattle.bits.proofs.Gives.{given_by}
use Rattle.bits.proofs.Rules.{r-call, r-done, reading}
use Rattle.motion.specs.Displacement.{InRange}
use Rattle.motion.specs.Vector.{motion_vector}
use Rattle.motion.proofs.OneStep.{displacement-most}
use Rattle.motion.proofs.vector.decode_motion_vector.Goals as goal

-- a component a and a displacement d, for f = 2 ^ r
module _ (a d : ℤ) (r : ℕ) (few : r ≤ 6) (range : InRange 64 a) (small : nat_abs d ≤ 16 * 2 ^ r) where
  scaled : 2 ^ r ≤ 64
  scaled = pow_mono few

  fits : SFits w32 d
  fits = let b = abs-of (v d) small in fits_by (v d) (omega (arith, scaled)) (omega (arith, scaled))

  sum-small : nat_abs (a +ℤ d) ≤ 2048
  sum-small =
      let lo = le_of (neg (lit 1024)) (v a) range.low in
      let hi = lt_of (v a) (lit 1024) range.high in
      let b = abs-of (v d) small in
      abs-by 2048 (v a ⊕ v d) (omega (arith, scaled)) (omega (arith, scaled))

  sum-fits : SFits w32 (a +ℤ d)
  sum-fits = let b = abs-of (v (a +ℤ d)) sum-small in fits_by (v (a +ℤ d)) (omega arith) (omega arith)

  -- the sum that is corrected, from what is read of its parts
  sum_is : SFits w32 a → reread w32 a +ℤ reread w32 d ≡ a +ℤ d
  sum_is h = ap₂ ◌+ℤ◌ (to_z-of_z h) (to_z-of_z fits)

pub overflow_add-motion : goal.overflow_add-motion
overflow_add-motion c =
    let small = given_by (displacement-most c.args.r) c.read_displacement-d.ensures.runs in
    let a = c.args.motion in
    let d = c.read_displacement-d.result.value in
    let r = c.args.r in
    rw (sum_is a d r c.requires.r_bound c.requires.in_range small c.ranges.motion) (sum-fits a d r c.requires.r_bound c.requires.in_range small)

pub corrected-moved-requires-clause-motion_bound : goal.corrected-moved-requires-clause-motion_bound
corrected-moved-requires-clause-motion_bound c =
    let small = given_by (displacement-most c.args.r) c.read_displacement-d.ensures.runs in
    let a = c.args.motion in
    let d = c.read_displacement-d.result.value in
    let r = c.args.r in
    rw (to_z-of_z (overflow_add-motion c), sum_is a d r c.requires.r_bound c.requires.in_range small c.ranges.motion)
    (sum-small a d r c.requires.r_bound c.requires.in_range small)

pub returns : goal.returns
unfolding motion_vector
returns c =
    let small = given_by (displacement-most c.args.r) c.read_displacement-d.ensures.runs in
    let a = c.args.motion in
    let d = c.read_displacement-d.result.value in
    let r = c.args.r in
    let sum = sum_is a d r c.requires.r_bound c.requires.in_range small c.ranges.motion in
    let kept : to_z w32 (of_z w32 c.corrected-moved.result) ≡ c.corrected-moved.result = search rules in
    rw (kept, c.corrected-moved.ensures, sum, to_z-of_z (sum-fits a d r c.requires.r_bound c.requires.in_range small))
    (reading c.requires.reader_in_bounds (r-call _ c.read_displacement-d.ensures.runs r-done))
