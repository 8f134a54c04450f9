-- The memory that a call is lent, as the calls speak of it.
use Rattle.std.specs.Prelude.{◌≡◌}
use Rattle.memory.specs.Memory as Host
use Rattle.conformance.specs.declared.records.Memory.{Memory}

abbrev pub memory_of : Memory → Host.Memory
memory_of m = Host.memory m.numbers.now m.integers.now m.matrices.now m.clock.now

-- a call leaves each part's own reference in its place, so that what it left is in the parts that the caller lent
abbrev pub same_references : Memory → Memory → Type 0
same_references m n =
    (n.numbers.ghost_name ≡ m.numbers.ghost_name)
    × (n.integers.ghost_name ≡ m.integers.ghost_name)
    × (n.matrices.ghost_name ≡ m.matrices.ghost_name)
    × (n.clock.ghost_name ≡ m.clock.ghost_name)
