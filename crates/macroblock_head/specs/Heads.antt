-- RULES 7.13 to 7.16 (11172-2, 2.4.2.7): what a macroblock has before its blocks.
use Rattle.std.specs.Prelude.{ℕ, eqb}
use Rattle.bits.specs.Programs.{Prog, done, bits, ◌>>=◌, when◌then◌else◌}
use Rattle.codes.specs.Codes.{macroblock_type_intra, macroblock_type_predictive, macroblock_type_b, code_block_pattern}
use Rattle.motion.specs.Vector.{motion_vector}
use Rattle.picture_state.specs.declared.types.{Motion.Motion, Slice.Slice}
use Rattle.picture_state.specs.State.{zeroed, with_is_set, with_vector, with_scale, with_motions, dc_reset}
use Rattle.picture_state.specs.Flags.{flag, is_intra}

-- RULES 7.13: the macroblock type, by the table of the picture's type
unfoldable pub macroblock_type : ℕ → Prog ℕ
macroblock_type type = when eqb type 1 then macroblock_type_intra else when eqb type 2 then macroblock_type_predictive else macroblock_type_b

-- RULES 7.13: 5 bits of scale with flag 16
unfoldable pub scale : ℕ → Slice → Prog Slice
scale t s = when flag t 16 then (do q ← bits 5; done (with_scale q s)) else done s

-- RULES 5.7: a vector, the horizontal component first
unfoldable pub vector : Motion → Prog Motion
vector m = do
  h ← motion_vector m.r_size m.h
  v ← motion_vector m.r_size m.v
  done (with_vector h v m)

-- RULES 7.15: read with its flag set; without it the forward vector of a P picture goes back to 0
unfoldable pub forward : ℕ → Motion → Prog Motion
forward type m = when m.is_set then vector m else when eqb type 2 then done (zeroed m) else done m

-- RULES 7.15
unfoldable pub backward : Motion → Prog Motion
backward m = when m.is_set then vector m else done m

-- RULES 7.15: the forward vector first
unfoldable pub vectors : ℕ → Slice → Prog Slice
vectors type s = do
  f ← forward type s.motion_forward
  b ← backward s.motion_backward
  done (with_motions f b s)

-- RULES 7.13: the flags "forward vector" and "backward vector"
abbrev pub flagged : ℕ → Slice → Slice
flagged t s = with_motions (with_is_set (flag t 8) s.motion_forward) (with_is_set (flag t 4) s.motion_backward) s

-- RULES 7.14: an intra macroblock sets both vectors to 0
abbrev pub vectors_reset : Slice → Slice
vectors_reset s = with_motions (zeroed s.motion_forward) (zeroed s.motion_backward) s

-- RULES 7.13, 7.14: behind the macroblock type t: scale, resets, vectors
unfoldable pub head : ℕ → ℕ → Slice → Prog Slice
head type t s = do
  q ← scale t (flagged t s)
  when is_intra t then done (vectors_reset q) else vectors type (dc_reset q)

-- RULES 7.16: read with flag 2; else 63 for an intra macroblock, and 0 for any other
unfoldable pub pattern : ℕ → Prog ℕ
pattern t = when flag t 2 then code_block_pattern else when is_intra t then done 63 else done 0
