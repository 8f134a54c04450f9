-- The sum while codes are read.
use mathlib.Core.Path.{◌≡◌, sym}
use mathlib.Core.List.{List}
use Prim.Native.Nat.{ℕ, suc, ◌+◌, ◌-◌, ◌%◌, ◌≤◌, ◌<◌}
use native.Mathlib.Omega.{arith}
use lib.ListN.{length}
use Rattle.bits.specs.Bounds.{longest_stream}
use Rattle.bits.specs.declared.reader.Reader.{Reader}
use Rattle.bits.specs.Programs.{Prog, run}
use Rattle.bits.specs.Runs.{ReaderInBounds, RunsInBounds, reader_at}
use Rattle.bits.proofs.Rules.{Follows, r-done, r-value, f-start, f-call, f-end, first-inside}
use Rattle.code_timing.specs.Sum.{summed}

-- k of the codes are read, and the sum of all follows from `sum` and the others
pub record Summing (code : Prog ℕ) (s : List ℕ) (count : ℕ) (reader : Reader) (sum k : ℕ) : Type 0 where
  pub inside : ReaderInBounds s reader
  pub most : k ≤ count
  pub small : sum < 4294967296
  pub rest : Follows (summed code count 0) s (reader_at 0) (summed code (count - k) sum) reader

module _ {code : Prog ℕ} {s : List ℕ} {count : ℕ} {reader : Reader} where
  pub summing-first : length s ≤ longest_stream → reader ≡ reader_at 0 → Summing code s count reader 0 0
  summing-first h e =
      let all : count - 0 ≡ count = omega arith in record {
        inside = first-inside e h;
        most = omega arith;
        small = omega arith;
        rest = rw (e, all) f-start;
      }

  pub summing_on : {next : Reader} {sum k v : ℕ} → Summing code s count reader sum k → k < count → RunsInBounds code s reader v next
      → Summing code s count next ((sum + v) % 4294967296) (k + 1)
  unfolding summed
  summing_on {sum = sum} {k} h l r =
      let left : count - k ≡ suc (count - (k + 1)) = omega arith in record {
        inside = r.inside;
        most = omega arith;
        small = omega arith;
        rest = f-call _ (rw left at h.rest) r.runs;
      }

  pub summing-end : {sum k : ℕ} → Summing code s count reader sum k → count ≤ k → sum ≡ (run (summed code count 0) s 0).value
  unfolding summed
  summing-end {sum} {k} h l =
      let none : count - k ≡ 0 = omega arith in
      sym (r-value (f-end (rw none at h.rest) r-done))
