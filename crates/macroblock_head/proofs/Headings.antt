-- What a macroblock has before its blocks, as the code reads it. Assumes nothing.
use mathlib.Core.Path.{◌≡◌}
use mathlib.Core.Bool.{true, false}
use mathlib.Core.List.{List}
use Prim.Native.Nat.{ℕ, ◌≤◌}
use native.Mathlib.Omega.{arith}
use lib.Dec.{eqb}
use lib.IntN.{ℤ, nat_abs}
use mir.Syntax.{w32}
use mir.Val.{to_z, of_z}
use Rattle.laws.proofs.Ints.{v, lit, neg, le_of, lt_of, abs-by}
use Rattle.laws.proofs.Nums.{num, rd}
use Rattle.bits.specs.declared.reader.Reader.{Reader}
use Rattle.bits.specs.Programs.{done, when◌then◌else◌}
use Rattle.bits.specs.Runs.{RunsInBounds}
use Rattle.bits.proofs.Gives.{given_by}
use Rattle.bits.proofs.Rules.{r-call, r-yes, r-no, r-done}
use Rattle.motion.specs.Displacement.{InRange}
use Rattle.motion.specs.Vector.{motion_vector}
use Rattle.motion.proofs.OneStep.{component_in}
use Rattle.picture_state.specs.declared.types.{Motion.Motion, Slice.Slice}
use Rattle.picture_state.specs.Possible.{PossibleMotion, PossibleSlice}
use Rattle.picture_state.specs.State.{zeroed, with_vector, with_motions, dc_reset}
use Rattle.picture_state.specs.Flags.{is_intra}
use Rattle.macroblock_head.specs.Heads.{scale, vector, forward, backward, vectors, flagged, vectors_reset, head}
use Rattle.macroblock_head.proofs.Kept.{flagged-kept, scale-gives}

-- ---- components

pub range_small : {z : ℤ} → InRange 64 z → nat_abs z ≤ 1024
range_small {z} i =
    abs-by 1024 (v z) (omega (arith, lt_of (v z) (lit 1024) i.high)) (omega (arith, le_of (neg (lit 1024)) (v z) i.low))

pub range-read : {z : ℤ} → InRange 64 z → to_z w32 (of_z w32 z) ≡ z
range-read i = (rd w32 (num (range_small i)) tt).is

-- ---- vectors

module _ (m : Motion) (k : PossibleMotion m) {s : List ℕ} {from across to : Reader} {h v : ℤ}
    (r : RunsInBounds (motion_vector m.r_size (to_z w32 (of_z w32 m.h))) s from h across)
    (w : RunsInBounds (motion_vector m.r_size (to_z w32 (of_z w32 m.v))) s across v to) where
  -- the components as the code has them
  pub vector-read : RunsInBounds (vector m) s from (with_vector (to_z w32 (of_z w32 h)) (to_z w32 (of_z w32 v)) m) to
  unfolding vector
  vector-read =
      let p = rw (range-read k.h) at r.runs in
      let q = rw (range-read k.v) at w.runs in
      let i = given_by (component_in m.r_size m.h k.size k.h) p in
      let j = given_by (component_in m.r_size m.v k.size k.v) q in
      rw (range-read i, range-read j) (record { runs = r-call _ p (r-call _ q r-done); inside = w.inside })

-- the vectors of a slice, each direction by its rule
pub vectors-read : (type : ℕ) (x : Slice) {f b : Motion} {s : List ℕ} {from mid to : Reader}
    → RunsInBounds (when x.motion_forward.is_set then vector x.motion_forward
    else when eqb type 2 then done (zeroed x.motion_forward) else done x.motion_forward) s from f mid
    → RunsInBounds (when x.motion_backward.is_set then vector x.motion_backward else done x.motion_backward) s mid b to
    → RunsInBounds (vectors type x) s from (with_motions f b x) to
unfolding vectors forward backward
vectors-read type x p q = record { runs = r-call _ p.runs (r-call _ q.runs r-done); inside = q.inside }

-- ---- the head

module _ (t : ℕ) (x : Slice) {f q : Slice} {s : List ℕ} {from to : Reader} (is : f ≡ flagged t x) (l : RunsInBounds (scale t f) s from q to) where
  pub scaled-possible : PossibleSlice x → PossibleSlice q
  scaled-possible k = given_by (scale-gives t (flagged-kept k t)) (rw is at l.runs)

  pub head-still : (type : ℕ) {y : Slice} → is_intra t ≡ true → y ≡ vectors_reset q → RunsInBounds (head type t x) s from y to
  unfolding head
  head-still type e w = rw w (record { runs = r-call _ (rw is at l.runs) (r-yes _ e r-done); inside = l.inside })

  pub head-vectors : (type : ℕ) {r : Slice} {end : Reader} {y : Slice} → is_intra t ≡ false → r ≡ dc_reset q → RunsInBounds (vectors type r) s to y end
      → RunsInBounds (head type t x) s from y end
  unfolding head
  head-vectors type e w k = record { runs = r-call _ (rw is at l.runs) (r-no _ e (rw w at k.runs)); inside = k.inside }
