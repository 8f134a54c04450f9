-- The record that is read of a memory is the one that was written over it.
use mathlib.Core.Bool.{Bool, true, ◌&&◌}
use mathlib.Core.List.{List}
use mathlib.Core.Path.{◌≡◌, refl}
use Prim.Native.Nat.{ℕ}
use lib.Ieee.{Float}
use lib.IntN.{ℤ}
use lib.ListN.{drop}
use Rattle.decoder.specs.declared.record.Decoder.{Decoder}
use Rattle.memory.specs.Fields.{fields, numbers_of, integers_of, matrices_of, clock_of, integer_count, matrix_count, number_count, clock_count}
use Rattle.memory.specs.Fields.{Typed, TypedEntries}
use Rattle.memory.specs.Memory.{Memory, memory, over, written, record_of, is_record, HoldsRecord}
use Rattle.memory.proofs.Fields.{flag-back, within-own, elements-long, entry-back, entry_past, over-long}

-- the memory is written part by part
pub wrote-all : (d : Decoder) (x : Memory) {n m : List ℕ} {i : List ℤ} {c : List Float} → n ≡ over (numbers_of d) x.numbers
    → i ≡ over (integers_of d) x.integers → m ≡ over (matrices_of d) x.matrices → c ≡ over (clock_of d) x.clock → memory n i m c ≡ written d x
unfolding written
wrote-all d x p q r s = rw (p, q, r, s)

and_yes : {t u : Bool} → t ≡ true → u ≡ true → (t && u) ≡ true
and_yes p q = rw (p, q)

module _ (d : Decoder) (f : Typed d) (x : Memory) where
  -- the integers from the predictors on
  abbrev predictors : TypedEntries (drop 6 fields.integers) d
  predictors = f.integers.1.1.1.1.1.1

  record-back : record_of (written d x) ≡ d
  unfolding record_of written
  record-back =
      simp flag-back
      (rw (
        entry_past f.matrices.0,
        entry-back f.matrices.0,
        entry-back f.matrices.1.0,
        entry_past predictors.0,
        entry-back predictors.0,
        entry-back predictors.1.0,
      ))

  is_held : is_record (written d x) ≡ true
  unfolding is_record written
  is_held =
      and_yes
      (and_yes
      (and_yes
      (and_yes (over-long (numbers_of d) x.numbers number_count refl)
      (over-long (integers_of d) x.integers integer_count (elements-long fields.integers d f.integers)))
      (over-long (matrices_of d) x.matrices matrix_count (elements-long fields.matrices d f.matrices)))
      (over-long (clock_of d) x.clock clock_count refl))
      (within-own d _ fields.numbers f.numbers)

  -- whatever a memory held: it holds the record that was written over its beginning, whole
  pub held : HoldsRecord (written d x) d
  held = record { is = is_held; record_is = record-back }
