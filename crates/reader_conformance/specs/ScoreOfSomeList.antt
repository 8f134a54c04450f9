-- What the replay of a file says.
use Rattle.std.specs.Prelude.{ℕ, ◌≤◌, ◌≡◌, List, length}
use Rattle.answer_lists.specs.declared.tally.Tally.{Tally}

-- t is the score of some list of at most 256 KiB: of the bytes that were read, of which a contract cannot say more
pub record ScoreOfSomeList (score : List ℕ → Tally) (t : Tally) : Type 0 where
  pub list : List ℕ
  pub short : length list ≤ 262144
  pub is : t ≡ score list
