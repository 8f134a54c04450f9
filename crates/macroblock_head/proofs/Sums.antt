-- The address increment: a turn, as the code takes it, and the loop. Assumes nothing.
use mathlib.Core.Path.{◌≡◌, sym, subst}
use mathlib.Core.List.{List}
use mathlib.Core.Logic.{inl, inr}
use Prim.Native.Nat.{ℕ, ◌+◌, ◌<◌}
use native.Mathlib.Omega.{arith}
use borrow.Author.Tests.{eq-eqb, ne_eqb}
use lib.Dec.{eqb}
use Rattle.laws.specs.Loops.{Step, continue, finish}
use Rattle.bits.specs.declared.reader.Reader.{Reader}
use Rattle.bits.specs.Programs.{stream_fuel}
use Rattle.bits.specs.Runs.{ReaderInBounds, RunsInBounds, position_of, bits_left}
use Rattle.bits.proofs.Rules.{Loops, loop-start, loop-on, loop-end, takes-less, r-call, r-yes, r-no, r-done, and_yes, and_no}
use Rattle.codes.specs.Codes.{macroblock_address_increment}
use Rattle.macroblock_head.specs.Increments.{increment_step, increment}
use Rattle.macroblock_head.proofs.IncrementBound.{Sum, step_sum}
use Rattle.macroblock_head.proofs.Fuel.{increment-takes}

-- ---- a turn with the code n

module _ {s : List ℕ} {from to : Reader} {n : ℕ} (sum : ℕ) (r : RunsInBounds macroblock_address_increment s from n to) where
  abbrev Turns : Step ℕ ℕ → Type 0
  Turns t = RunsInBounds (increment_step sum) s from t to

  pub escape : n ≡ 35 → Turns (continue (sum + 33))
  unfolding increment_step
  escape h =
      record {
        runs = r-call _ r.runs (r-no _ (and_no (eqb n 34) (eqb sum 0) (inl (ne_eqb n 34 (λ k. omega arith)))) (r-yes _ (eq-eqb n 35 h) r-done));
        inside = r.inside;
      }

  pub last : (n ≡ 35 → ⊥) → (n ≡ 34 → ⊥) → Turns (finish (sum + n))
  unfolding increment_step
  last h k =
      record {
        runs = r-call _ r.runs (r-no _ (and_no (eqb n 34) (eqb sum 0) (inl (ne_eqb n 34 k))) (r-no _ (ne_eqb n 35 h) r-done));
        inside = r.inside;
      }

  pub stuffing : n ≡ 34 → sum ≡ 0 → Turns (continue sum)
  unfolding increment_step
  stuffing h k =
      subst (λ (t : ℕ). Turns (continue t)) (sym k) (record {
        runs = r-call _ r.runs (r-yes _ (and_yes (eqb n 34) (eqb sum 0) (eq-eqb n 34 h) (eq-eqb sum 0 k)) r-done);
        inside = r.inside;
      })

  pub last-34 : n ≡ 34 → (sum ≡ 0 → ⊥) → Turns (finish (sum + n))
  unfolding increment_step
  last-34 h k =
      record {
        runs = r-call _ r.runs
            (r-no _ (and_no (eqb n 34) (eqb sum 0) (inr (ne_eqb sum 0 k))) (r-no _ (ne_eqb n 35 (λ l. omega arith)) r-done));
        inside = r.inside;
      }

-- ---- the loop

-- before a code, at `from`, with the sum so far
pub record AtSequenceCode (s : List ℕ) (from₀ from : Reader) (sum : ℕ) : Type 0 where
  pub inside : ReaderInBounds s from
  pub small : Sum s sum (position_of from)
  pub rest : Loops stream_fuel increment_step 0 0 s from₀ sum from (bits_left s from)

pub at_code : {s : List ℕ} {from : Reader} → ReaderInBounds s from → AtSequenceCode s from from 0
at_code i =
    record {
      inside = i;
      small = record { before = λ h. omega arith; most = omega arith };
      rest = loop-start (omega (arith, i.stream));
    }

module _ {s : List ℕ} {from₀ from : Reader} {sum : ℕ} (i : AtSequenceCode s from₀ from sum) where
  -- a code behind which another follows, and the last one
  module _ {next : Reader} {more : ℕ} (r : RunsInBounds (increment_step sum) s from (continue more) next) where
    pub goes_on : bits_left s next < bits_left s from
    goes_on = takes-less increment_step (increment-takes s) r.runs

    pub at-code-on : AtSequenceCode s from₀ next more
    at-code-on =
        record {
          inside = r.inside;
          small = rw r.runs.is at (step_sum s sum (position_of from) i.small);
          rest = loop-on i.rest r.runs goes_on;
        }

  pub code-end : {next : Reader} {all : ℕ} → RunsInBounds (increment_step sum) s from (finish all) next → RunsInBounds increment s from₀ all next
  unfolding increment
  code-end r = record { runs = loop-end i.rest r.runs; inside = r.inside }
