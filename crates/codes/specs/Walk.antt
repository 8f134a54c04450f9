-- RULES 2.2: the walk through a code table, a bit at a time, as a program over reads.
use Rattle.std.specs.Prelude.{ℕ, ◌+◌, List, length, get_or, ℤ, pos, nat_abs}
use Rattle.std.specs.Int.Signed.{le_z}
use Rattle.laws.specs.Loops.{Step, continue, finish}
use Rattle.bits.specs.Programs.{Prog, done, bits, loop, ◌>>=◌, when◌then◌else◌}

-- one bit: on to a further pair of entries, or the end of the walk at an entry
unfoldable pub walk_step : List ℤ → ℕ → Prog (Step ℕ ℕ)
walk_step ix at = do
  b ← bits 1
  when le_z (get_or ix (at + b) (pos 0)) (pos 0) then done (finish (at + b)) else done (continue (nat_abs (get_or ix (at + b) (pos 0))))

-- the entry at which the walk from the pair of entries `at` on ends
abbrev pub walk_from : List ℤ → ℕ → Prog ℕ
walk_from ix at = loop (length ix) (walk_step ix) 0 at

-- the whole walk
unfoldable pub walk : List ℤ → Prog ℕ
walk ix = walk_from ix 0

-- the value at the end of the walk from the pair `at` on
abbrev pub vlc_from : {A : Type 0} → List ℤ → List A → A → ℕ → Prog A
vlc_from ix vs d at = do
  k ← walk_from ix at
  done (get_or vs k d)

-- and of the whole walk: the Rust's read_vlc with the table as argument
unfoldable pub vlc : {A : Type 0} → List ℤ → List A → A → Prog A
vlc ix vs d = do
  k ← walk ix
  done (get_or vs k d)
