-- The loop that reads the entries of a matrix. Assumes nothing.
use mathlib.Core.List.{List}
use mathlib.Core.Path.{◌≡◌}
use Prim.Native.Nat.{ℕ, ◌+◌, ◌≤◌, ◌<◌}
use native.Mathlib.Omega.{arith}
use lib.ListN.{get_or, set, replicate}
use Rattle.bits.specs.declared.reader.Reader.{Reader}
use Rattle.bits.specs.Programs.{bits, for_below}
use Rattle.bits.specs.Runs.{Runs, ReaderInBounds, RunsInBounds}
use Rattle.bits.proofs.Rules.{r-done, r-call, r-for, r-for-on}
use Rattle.codes.specs.Matrices.{zig_zag}
use Rattle.header.specs.Sequences.{entry, entries}

-- i entries have been read
pub record AtEntry (s : List ℕ) (from : Reader) (m : List ℕ) (at : Reader) (i : ℕ) : Type 0 where
  pub few : i ≤ 64
  pub inside : ReaderInBounds s at
  pub runs : Runs (for_below i entry (replicate 64 0)) s from m at

pub entry-start : {s : List ℕ} {from : Reader} → ReaderInBounds s from → AtEntry s from (replicate 64 0) from 0
entry-start h = record { few = omega arith; inside = h; runs = r-for entry }

module _ {s : List ℕ} {from : Reader} {m : List ℕ} {at : Reader} {i : ℕ} (x : AtEntry s from m at i) where
  pub entry-on : {b : ℕ} {to : Reader} → i < 64 → RunsInBounds (bits 8) s at b to → AtEntry s from (set m (get_or zig_zag i 0) b) to (i + 1)
  entry-on h r = record { few = omega arith; inside = r.inside; runs = r-for-on i entry (replicate 64 0) x.runs (r-call _ r.runs r-done) }

  pub entry-end : 64 ≤ i → RunsInBounds entries s from m at
  unfolding entries
  entry-end h = let e : i ≡ 64 = omega (arith, x.few) in record { runs = rw e at x.runs; inside = x.inside }
