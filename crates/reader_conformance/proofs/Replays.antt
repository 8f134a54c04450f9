-- The replay of a file, from the score of what was read.
use mathlib.Core.Path.{◌≡◌}
use mathlib.Core.List.{List}
use Prim.Native.Nat.{ℕ, ◌≤◌}
use lib.ListN.{length}
use Rattle.answer_lists.specs.declared.tally.Tally.{Tally}
use Rattle.reader_conformance.specs.ScoreOfSomeList.{ScoreOfSomeList}

pub replayed : {score : List ℕ → Tally} {t : Tally} (l : List ℕ) → t ≡ score l → length l ≤ 262144 → ScoreOfSomeList score t
replayed l e h = record { list = l; short = h; is = e }
