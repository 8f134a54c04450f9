-- What the contracts of functions that read say of their value and of the reader that they give back. They name readers: what a reader holds is looked at
-- in this crate only.
use Rattle.std.specs.Prelude.{◌≡◌, List, ℕ, ◌+◌, ◌-◌, ◌*◌, ◌≤◌, length}
use Rattle.bits.specs.Bounds.{longest_stream, last_position}
use Rattle.bits.specs.declared.reader.Reader.{Reader}
use Rattle.bits.specs.Programs.{Prog, run}

-- RULES 1.16: the position (RULES S.7: place) of a reader, in bits
abbrev pub position_of : Reader → ℕ
position_of reader = reader.at.0

-- RULES 1.16: the reader at a place
abbrev pub reader_at : ℕ → Reader
reader_at a = record { at = record { 0 = a } }

-- RULES 1.6: the reader n bits on
abbrev pub advanced_by : ℕ → Reader → Reader
advanced_by n reader = reader_at (position_of reader + n)

-- RULES 1.3: how many bits are left; none at the end of the stream and past it
abbrev pub bits_left : List ℕ → Reader → ℕ
bits_left s reader = length s * 8 - position_of reader

-- p, run on s from the place a on, gives the value v and ends at the place e
pub record RunsAt {A : Type 0} (p : Prog A) (s : List ℕ) (a : ℕ) (v : A) (e : ℕ) : Type 0 where
  pub is : run p s a ≡ record { value = v; at = e }

-- p, run on s from the reader `from` on, gives the value v, and `to` is the reader behind it
pub record Runs {A : Type 0} (p : Prog A) (s : List ℕ) (from : Reader) (v : A) (to : Reader) : Type 0 where
  pub is : run p s (position_of from) ≡ record { value = v; at = position_of to }

-- RULES Q1, Q2: the length of the stream and the place of the reader are within their bounds
pub record ReaderInBounds (s : List ℕ) (reader : Reader) : Type 0 where
  pub position : position_of reader ≤ last_position
  pub stream : length s ≤ longest_stream

-- p runs from `from` to `to`, and `to` is inside
pub record RunsInBounds {A : Type 0} (p : Prog A) (s : List ℕ) (from : Reader) (v : A) (to : Reader) : Type 0 where
  pub runs : Runs p s from v to
  pub inside : ReaderInBounds s to
