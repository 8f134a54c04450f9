-- Where the cases of a list begin.
use mathlib.Core.List.{List}
use Prim.Native.Nat.{ℕ, ◌≤◌}
use native.Mathlib.Omega.{arith}
use lib.ListN.{length}
use Rattle.reader_conformance.specs.ReaderList.{CursorInList, beginning}

pub beginning-inside : (l : List ℕ) → 4 ≤ length l → CursorInList l beginning
beginning-inside l h = record { case = h; order = omega arith; stream = h; position = omega arith }
