-- RULES 2.2: what the walk through a code table does with eight bits, and the tables made of it: by them a code is looked up, and not walked.
use Rattle.std.specs.Prelude.{ℕ, zero, suc, ◌+◌, ◌*◌, List, [], ◌∷◌, get_or, ℤ}
use Rattle.laws.specs.Loops.{continue, finish}
use Rattle.bits.specs.Programs.{run}
use Rattle.codes.specs.Walk.{walk_step}

-- where eight bits lead
pub data ByteWalk : Type 0 where
  ends : ℕ → ℕ → ByteWalk  -- the walk ends at this entry, after this number of bits
  unfinished : ℕ → ByteWalk  -- it stands at this pair of entries after all eight

-- n turns of the walk from the pair `at` on, at the bit j of the byte x
unfoldable pub walked_from : List ℤ → ℕ → ℕ → ℕ → ℕ → ByteWalk
walked_from ix x zero at j = unfinished at
walked_from ix x (suc n) at j =
    let o = run (walk_step ix at) (x ∷ []) j in
    elim o.value [ continue i ↦ walked_from ix x n i o.at | finish k ↦ ends k o.at ]

-- where the walk's turns lead on the eight bits of the byte x, the highest first
unfoldable pub walk_byte : List ℤ → ℕ → ByteWalk
walk_byte ix x = walked_from ix x 8 0 0

-- as one number: 16 × value + length, and 0 for a longer code
abbrev pub lookup_entry : List ℕ → ByteWalk → ℕ
lookup_entry vs (ends k n) = 16 * get_or vs k 0 + n
lookup_entry vs (unfinished i) = 0

unfoldable pub looked_up : List ℤ → List ℕ → ℕ → ℕ
looked_up ix vs x = lookup_entry vs (walk_byte ix x)
