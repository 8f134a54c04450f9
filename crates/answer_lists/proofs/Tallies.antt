-- A case that does not agree is never made up for, as long as the counters have not stopped.
use mathlib.Core.Path.{◌≡◌}
use mathlib.Core.Bool.{Bool, true, false}
use Prim.Native.Nat.{ℕ, ◌+◌, ◌≤◌, ◌<◌}
use native.Mathlib.Omega.{arith}
use borrow.Author.Tests.{lt-ltb}
use Rattle.answer_lists.specs.declared.tally.Tally.{Tally}
use Rattle.answer_lists.specs.Tallies.{more, counted}

pub more-one : (n : ℕ) → n < 4294967295 → more n ≡ n + 1
unfolding more
more-one n h = rw (lt-ltb n 4294967295 h)

module _ (t : Tally) (room : t.cases < 4294967295) where
  pub counted-after : (b : Bool) → t.agreed < t.cases → (counted t b).agreed < (counted t b).cases
  counted-after true h = omega (arith, more-one t.cases room, more-one t.agreed (omega arith))
  counted-after false h = omega (arith, more-one t.cases room)

  pub counted-fails : t.agreed ≤ t.cases → (counted t false).agreed < (counted t false).cases
  counted-fails h = omega (arith, more-one t.cases room)

  pub counted-agrees : t.agreed ≤ t.cases → (counted t true).agreed ≤ (counted t true).cases
  counted-agrees h = omega (arith, more-one t.cases room, more-one t.agreed (omega arith))
