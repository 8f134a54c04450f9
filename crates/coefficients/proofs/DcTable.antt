-- The printed table of DC differences: its lines are as long as their ranges, and it says what the formula says.
use mathlib.Core.Path.{◌≡◌, refl, ap}
use mathlib.Core.Bool.{Bool}
use Prim.Native.Nat.{ℕ, zero, suc, ◌-◌, ◌^◌, ◌≤◌, ◌<◌}
use native.Mathlib.Omega.{arith}
use lib.Dec.{T, eqb→eq}
use lib.IntN.{ℤ, pos, negsuc, ◌+ℤ◌}
use lib.ListN.{length-replicate, replicate}
use Rattle.laws.proofs.Tables.{every, at}
use Rattle.bits.specs.Programs.{eq_z}
use Rattle.coefficients.specs.DcTable.{Line, lines}
use Rattle.coefficients.specs.Dcs.{added, by_top_bit}

-- each line ends with the difference that its last bits say
abbrev pub ends : ℕ → Line → Bool
ends k x = eq_z (x.difference +ℤ pos (x.last_bits - x.bits)) x.last_difference

pub lines_end : T (every ends 0 lines)
lines_end = tt

same : (a b : ℤ) → T (eq_z a b) → a ≡ b
same (pos a) (pos b) t = ap pos (eqb→eq a b t)
same (pos a) (negsuc b) t = absurd t
same (negsuc a) (pos b) t = absurd t
same (negsuc a) (negsuc b) t = ap negsuc (eqb→eq a b t)

-- the two say the same of the bits d of this size
agrees : ℕ → ℕ → ℕ → Bool
agrees s d x = eq_z (added s d) (by_top_bit s d)

-- computed for all bits of each size
all-agree : (s : ℕ) → 0 < s → s ≤ 8 → T (every (agrees s) 0 (replicate (2 ^ s) 0))
unfolding agrees added by_top_bit
all-agree zero p h = let z : ⊥ = omega arith in absurd z
all-agree (suc zero) p h = tt
all-agree (suc (suc zero)) p h = tt
all-agree (suc (suc (suc zero))) p h = tt
all-agree (suc (suc (suc (suc zero)))) p h = tt
all-agree (suc (suc (suc (suc (suc zero))))) p h = tt
all-agree (suc (suc (suc (suc (suc (suc zero)))))) p h = tt
all-agree (suc (suc (suc (suc (suc (suc (suc zero))))))) p h = tt
all-agree (suc (suc (suc (suc (suc (suc (suc (suc zero)))))))) p h = tt
all-agree (suc (suc (suc (suc (suc (suc (suc (suc (suc s))))))))) p h = let z : ⊥ = omega arith in absurd z

pub added_is : (s d : ℕ) → 0 < s → s ≤ 8 → d < 2 ^ s → added s d ≡ by_top_bit s d
unfolding agrees
added_is s d p h l =
    same (added s d) (by_top_bit s d) (at (agrees s) (replicate (2 ^ s) 0) 0 (all-agree s p h) d (rw (length-replicate {A = ℕ} (2 ^ s) 0) l))

-- size 0 has no bits
pub nothing-added : added 0 0 ≡ pos 0
unfolding added
nothing-added = refl
