-- A code of 0 or an r of 0 is all; else a residual follows.
use Rattle.std.proofs.Common.{◌≡◌, ap, true, false, ◌||◌, ℕ, ◌≤◌, ◌<◌, eqb, eq-eqb, ne_eqb, ℤ, pos, nat_abs, arith, of_z, rules, to_z, to_z-of_z, w32}
use mathlib.Core.Bool.{or-true}
use mir.Val.{SFits}
use Rattle.laws.proofs.Ints.{v, abs-of, fits_by, zero_bits, not-zero, nat_abs-is}
use Rattle.bits.specs.Programs.{eq_z}
use Rattle.bits.proofs.Codes.{eq_z-yes, eq_z-no}
use Rattle.bits.proofs.Gives.{given_by, g-reads}
use Rattle.bits.proofs.Rules.{r-call, r-yes, r-no, r-done, r-reads, reading}
use Rattle.codes.proofs.Values.{motion-most}
use Rattle.motion.specs.Vector.{displacement}
use Rattle.motion.proofs.vector.read_displacement.Goals as goal
use Rattle.motion.proofs.vector.read_displacement.Goals.{then-code-eq0-via-then-code-eq0, then-code-eq0-via-else-code-eq0+then-r-eq0}

-- the test of the program
no_code : (m : ℤ) (r : ℕ) → m ≡ pos 0 → (eq_z m (pos 0) || eqb r 0) ≡ true
no_code m r e = rw (eq_z-yes m (pos 0) e)

no_bits : (m : ℤ) (r : ℕ) → eqb r 0 ≡ true → (eq_z m (pos 0) || eqb r 0) ≡ true
no_bits m r e = rw e (or-true (eq_z m (pos 0)))

both : (m : ℤ) (r : ℕ) → 0 < nat_abs m → eqb r 0 ≡ false → (eq_z m (pos 0) || eqb r 0) ≡ false
both m r h e = rw (eq_z-no m (pos 0) (λ z. omega (arith, ap nat_abs z)), e)

fits : (m : ℤ) → nat_abs m ≤ 16 → SFits w32 m
fits m small = let b = abs-of (v m) small in fits_by (v m) (omega arith) (omega arith)

some : (m : ℤ) → (of_z w32 m ≡ 0 → ⊥) → 0 < nat_abs m
some m g = omega (arith, nat_abs-is m, not-zero w32 m g)

pub displacement-requires-clause-m_code_nonzero : goal.displacement-requires-clause-m_code_nonzero
displacement-requires-clause-m_code_nonzero c =
    let small = given_by motion-most c.read_motion-code.ensures.runs in
    let m = c.read_motion-code.result.value in
    rw (to_z-of_z (fits m small)) (some m c.if-code-eq0.false, small)

pub displacement-requires-clause-residual_bound : goal.displacement-requires-clause-residual_bound
displacement-requires-clause-residual_bound c = given_by (g-reads c.args.r) c.read-residual.ensures.runs

pub returns-then-code-eq0 : goal.returns-then-code-eq0
unfolding displacement
returns-then-code-eq0 c =
    let m = c.read_motion-code.result.value in
    let small = given_by motion-most c.read_motion-code.ensures.runs in
    let alone : (eq_z m (pos 0) || eqb c.args.r 0) ≡ true =
    elim c.then-code-eq0.branch [
      | then-code-eq0-via-then-code-eq0 w ↦ no_code m c.args.r (zero_bits w32 (fits m small) w.if-code-eq0.true)
      | then-code-eq0-via-else-code-eq0+then-r-eq0 w ↦ no_bits m c.args.r (eq-eqb _ _ w.if-r-eq0.true)
    ] in
    reading c.requires.reader_in_bounds (r-call _ c.read_motion-code.ensures.runs (r-yes _ alone r-done))

pub returns : goal.returns
unfolding displacement
returns c =
    let m = c.read_motion-code.result.value in
    let small = given_by motion-most c.read_motion-code.ensures.runs in
    let more = both m c.args.r (some m c.if-code-eq0.false) (ne_eqb _ _ c.if-r-eq0.false) in
    let residual = r-reads c.args.r (omega arith) c.read-residual.ensures.runs in
    let kept : to_z w32 (of_z w32 c.displacement.result) ≡ c.displacement.result = search rules in
    rw (kept, c.displacement.ensures, to_z-of_z (fits m small))
    (reading c.requires.reader_in_bounds (r-call _ c.read_motion-code.ensures.runs (r-no _ more (r-call _ residual r-done))))
