-- Each read from its own place, which is where the one before it ended.
use Rattle.std.proofs.Common.{◌≡◌, List, ℕ}
use Rattle.bits.specs.Bits.{bit_at, bits_at, read_at, after_read}
use Rattle.bits.specs.Programs.{Prog, run}
use Rattle.bits.specs.Runs.{Runs, position_of}
use Rattle.bits.specs.declared.reader.Reader.{Reader}
use Rattle.reader_conformance.proofs.worked.reader.Goals as goal

-- a run's value and place, from the place k on
gives : {p : Prog ℕ} {s : List ℕ} {from to : Reader} {v : ℕ} (k : ℕ) → position_of from ≡ k → Runs p s from v to
    → (v ≡ (run p s k).value) × (position_of to ≡ (run p s k).at)
gives k e h = let q = rw e at h.is in (rw q, rw q)

pub returns : goal.returns
unfolding run read_at after_read bits_at bit_at
returns c =
    let first = c.read-first.result in
    let second = c.read-second.result in
    let one : (first.value ≡ 5) × (position_of first.reader ≡ 3) = gives 0 (rw c.new.ensures) c.read-first.ensures.runs in
    let two : (second.value ≡ 0) × (position_of second.reader ≡ 3) = gives 3 one.1 c.read-second.ensures.runs in
    let three : (c.read-third.result.value ≡ 5) × (position_of c.read-third.result.reader ≡ 8) = gives 3 two.1 c.read-third.ensures.runs in
    (one.0, two.0, three.0)
