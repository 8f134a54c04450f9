-- What the operations of the list reader.bin give, as the numbers that the list holds.
use Rattle.std.specs.Prelude.{ℕ, ◌+◌, ◌-◌, ◌*◌, ◌/◌, Bool, cond, List, [], ◌∷◌, leb, ltb, length, get_or, Option, Some, None}
use Rattle.std.specs.Int.{w32}
use Rattle.std.proofs.Common.{of_z, to_z}
use Rattle.bits.specs.Bounds.{longest_stream}
use Rattle.bits.specs.Bits.{has, boundary, equal_bytes, part_at}
use Rattle.bits.specs.Programs.{run, bits, read_at_most32, skips, non_zero, next_start_code, find_start_code}
use Rattle.bits.specs.Runs.{reader_at}
use Rattle.bits.specs.declared.reader.Read.{Read as ReadAnswer}
use Rattle.reader_conformance.specs.declared.reader_operations.Operation.{Operation}
use Rattle.reader_conformance.specs.declared.reader_operations.Operation.TheVariants.{New, Read, ReadBit, Has, HasEnded, Skip, Align, Tell, Seek}
use Rattle.reader_conformance.specs.declared.reader_operations.Operation.TheVariants.{SkipBytes, NextStartCode, FindStartCode, HasStartCode}
use Rattle.reader_conformance.specs.declared.reader_operations.Operation.TheVariants.{PeekNonZero, PeekBytes, Unknown}

-- the operations, in the order of their numbers
abbrev pub operations : List Operation
operations =
    New ∷ Read ∷ ReadBit ∷ Has ∷ HasEnded ∷ Skip ∷ Align ∷ Tell ∷ Seek ∷ SkipBytes ∷ NextStartCode ∷ FindStartCode ∷ HasStartCode ∷ PeekNonZero
    ∷ PeekBytes ∷ []

unfoldable pub operation_of : ℕ → Operation
operation_of n = get_or operations n Unknown

-- a yes is 1, and a no 0
abbrev pub flag : Bool → ℕ
flag b = cond b 1 0

-- an operation answers v, and ends at the place a
abbrev pub gives : ℕ → ℕ → ReadAnswer (Option ℕ)
gives v a = record { reader = reader_at a; value = Some v }

-- it is no operation, or has an argument that it does not take
abbrev pub unknown : ℕ → ReadAnswer (Option ℕ)
unknown a = record { reader = reader_at a; value = None }

-- a peek answers one more than the bytes that it gives, or 0 where they are absent
abbrev pub peek : Option (List ℕ) → ℕ
peek (Some bytes) = length bytes + 1
peek None = 0

-- the bytes from the place a on that equal x are passed
abbrev pub passed : List ℕ → ℕ → ℕ → ReadAnswer (Option ℕ)
passed s x b = gives (equal_bytes s x b (length s - b)) ((b + equal_bytes s x b (length s - b)) * 8)

-- RULES 1.2 to 1.7: what an operation with the argument x gives on the stream s at the place a
unfoldable pub outcome : Operation → ℕ → List ℕ → ℕ → ReadAnswer (Option ℕ)
outcome New x s a = gives 0 0
outcome Read x s a = gives (run (read_at_most32 x) s a).value (run (read_at_most32 x) s a).at
outcome ReadBit x s a = gives (run (bits 1) s a).value (run (bits 1) s a).at
outcome Has x s a = gives (flag (has s a x)) a
outcome HasEnded x s a = gives (flag (leb (length s * 8) a)) a
outcome Skip x s a = gives 0 (run (skips x) s a).at
outcome Align x s a = gives 0 (boundary a * 8)
outcome Tell x s a = gives (a / 8) a
outcome Seek x s a = cond (ltb longest_stream x) (unknown a) (gives 0 (x * 8))
outcome SkipBytes x s a = cond (ltb 255 x) (unknown a) (passed s x (boundary a))
outcome NextStartCode x s a = gives (of_z w32 (run next_start_code s a).value) (run next_start_code s a).at
outcome FindStartCode x s a = gives (of_z w32 (run (find_start_code (to_z w32 x)) s a).value) (run (find_start_code (to_z w32 x)) s a).at
outcome HasStartCode x s a = gives (of_z w32 (run (find_start_code (to_z w32 x)) s a).value) a
outcome PeekNonZero x s a = gives (flag (run (non_zero x) s a).value) a
outcome PeekBytes x s a = gives (peek (part_at s a x)) a
outcome Unknown x s a = unknown a
