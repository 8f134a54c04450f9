-- Room for a record.
use mathlib.Core.Bool.{true}
use mathlib.Core.List.{[], ◌∷◌}
use mathlib.Core.Path.{◌≡◌}
use Prim.Native.Nat.{◌≤◌}
use borrow.Author.Tests.{leb-true}
use lib.Dec.{leb}
use lib.ListN.{length}
use Rattle.laws.proofs.Tests.{both, each}
use Rattle.memory.specs.Fields.{number_count, integer_count, matrix_count, clock_count}
use Rattle.memory.specs.Memory.{Memory, has_room, in_range, is_record}

pub record Room (x : Memory) : Type 0 where
  pub numbers : number_count ≤ length x.numbers
  pub integers : integer_count ≤ length x.integers
  pub matrices : matrix_count ≤ length x.matrices
  pub clock : clock_count ≤ length x.clock

module _ (x : Memory) where
  pub room : has_room x ≡ true → Room x
  room e =
      let h = each (leb number_count (length x.numbers))
      (leb integer_count (length x.integers) ∷ leb matrix_count (length x.matrices) ∷ leb clock_count (length x.clock) ∷ []) e in
      record { numbers = leb-true _ _ (h 0); integers = leb-true _ _ (h 1); matrices = leb-true _ _ (h 2); clock = leb-true _ _ (h 3) }

  -- a memory that holds a record has room for it, and each number in its range
  pub record-roomy : is_record x ≡ true → has_room x ≡ true
  unfolding is_record
  record-roomy e = (both (has_room x) (in_range x.numbers) e).0

  pub record-ranged : is_record x ≡ true → in_range x.numbers ≡ true
  unfolding is_record
  record-ranged e = (both (has_room x) (in_range x.numbers) e).1

  -- and the room itself
  pub roomed : is_record x ≡ true → Room x
  roomed e = room (record-roomy e)
