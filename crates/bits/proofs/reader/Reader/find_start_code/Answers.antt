-- The code that is sought stops the search, and so does -1.
use Rattle.std.proofs.Common.{◌≡◌, true, false, ◌||◌, ℤ, negsuc, ap, arith, of_z, to_z, to_z-of_z, w32, ◌∙◌, List, ℕ}
use mir.Val.{SFits}
use mathlib.Core.Bool.{or-true}
use Rattle.laws.proofs.Ints.{same_bits}
use Rattle.bits.specs.Programs.{eq_z, find_step, find_start_code, next_start_code, stream_fuel}
use Rattle.bits.specs.Runs.{ReaderInBounds, RunsInBounds}
use Rattle.bits.specs.declared.reader.Reader.{Reader}
use Rattle.bits.proofs.Codes.{eq_z-yes, eq_z-no, code_fits}
use Rattle.bits.proofs.Rules.{Loops, loop-start, loop-on, loop-end, r-call, r-yes, r-no, r-done, r-start-past, reading}
use Rattle.bits.proofs.reader.Reader.find_start_code.Goals as goal

stop_code : (k c : ℤ) → k ≡ c → (eq_z k c || eq_z k (negsuc 0)) ≡ true
stop_code k c e = rw (eq_z-yes k c e)

stop_none : (k c : ℤ) → k ≡ negsuc 0 → (eq_z k c || eq_z k (negsuc 0)) ≡ true
stop_none k c e = rw (eq_z-yes k (negsuc 0) e) (or-true (eq_z k c))

other : (k c : ℤ) → (k ≡ c → ⊥) → (k ≡ negsuc 0 → ⊥) → (eq_z k c || eq_z k (negsuc 0)) ≡ false
other k c p q = rw (eq_z-no k c p, eq_z-no k (negsuc 0) q)

-- so a run that stops ends the loop
ends : {s : List ℕ} {from mid to : Reader} {c k : ℤ} {left : ℕ} → ReaderInBounds s from → SFits w32 c
    → Loops stream_fuel (find_step (to_z w32 (of_z w32 c))) (negsuc 0) tt s from tt mid left → RunsInBounds next_start_code s mid k to
    → (eq_z k c || eq_z k (negsuc 0)) ≡ true → RunsInBounds (find_start_code c) s from k to
unfolding find_start_code find_step
ends {c = c} i fits l found stops = reading i (loop-end (rw (to_z-of_z fits) at l) (r-call _ found.runs (r-yes _ stops r-done)))

pub loop-found-init : goal.loop-found-init
loop-found-init c = record { inside = c.requires; rest = loop-start (omega arith) }

pub loop-found-smaller : goal.loop-found-smaller
loop-found-smaller c =
    let found = c.next_start_code-found.ensures.runs_in_bounds in
    omega (arith, found.inside.position, r-start-past found.runs (λ e. c.if-current.false (ap (of_z w32) e)))

pub loop-found-preserved : goal.loop-found-preserved
unfolding find_step
loop-found-preserved c =
    let found = c.next_start_code-found.ensures.runs_in_bounds in
    let goes_on =
    other c.next_start_code-found.result.value (to_z w32 (of_z w32 c.args.code))
    (λ e. c.if-current-code.false (ap (of_z w32) (e ∙ to_z-of_z c.ranges.code))) (λ e. c.if-current.false (ap (of_z w32) e))
    in
    record {
      inside = found.inside;
      rest = loop-on c.loop-found.invariant.rest (r-call _ found.runs (r-no _ goes_on r-done)) (loop-found-smaller c);
    }

pub returns-then-current-code-clause-runs_in_bounds : goal.returns-then-current-code-clause-runs_in_bounds
returns-then-current-code-clause-runs_in_bounds c =
    let found = c.next_start_code-found.ensures in
    let same = same_bits w32 (code_fits _ found.code_bound) c.ranges.code c.if-current-code.true in
    ends c.requires c.ranges.code c.loop-found.invariant.rest found.runs_in_bounds (stop_code _ _ same)

pub returns-then-current-clause-runs_in_bounds : goal.returns-then-current-clause-runs_in_bounds
returns-then-current-clause-runs_in_bounds c =
    let found = c.next_start_code-found.ensures in
    let none : c.next_start_code-found.result.value ≡ negsuc 0 =
    same_bits w32 (code_fits _ found.code_bound) (code_fits (negsuc 0) (omega arith)) c.if-current.true in
    ends c.requires c.ranges.code c.loop-found.invariant.rest found.runs_in_bounds (stop_none c.next_start_code-found.result.value c.args.code none)
