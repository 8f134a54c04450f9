-- What is read before the blocks of a macroblock keeps a possible state possible. Assumes nothing.
use mathlib.Core.List.{List}
use Prim.Native.Nat.{ℕ}
use native.Mathlib.Omega.{arith}
use lib.Dec.{eqb}
use Rattle.bits.proofs.Gives.{Gives, g-done, g-bind, g_if, g-bits}
use Rattle.motion.proofs.OneStep.{component_in}
use Rattle.picture_state.specs.declared.types.{Motion.Motion, Slice.Slice}
use Rattle.picture_state.specs.Flags.{flag, is_intra}
use Rattle.macroblock_head.specs.Heads.{scale, vector, forward, backward, vectors, flagged, vectors_reset, head}
use Rattle.picture_state.specs.Possible.{PossibleMotion, PossibleSlice}
use Rattle.picture_state.proofs.Kept.{zeroed-kept, set-kept, scale_kept, motions-kept, reset-kept}

module _ {s : Slice} (k : PossibleSlice s) where
  pub still_kept : PossibleSlice (vectors_reset s)
  still_kept = motions-kept k (zeroed-kept k.forward) (zeroed-kept k.backward)

  pub flagged-kept : (t : ℕ) → PossibleSlice (flagged t s)
  flagged-kept t = motions-kept k (set-kept (flag t 8) k.forward) (set-kept (flag t 4) k.backward)

module _ {s : List ℕ} where
  pub vector-gives : {m : Motion} → PossibleMotion m → Gives s PossibleMotion (vector m)
  unfolding vector
  vector-gives {m} k =
      g-bind _ (component_in m.r_size m.h k.size k.h) (λ h i.
      g-bind _ (component_in m.r_size m.v k.size k.v) (λ v j. g-done (record { size = k.size; h = i; v = j })))

  pub forward-gives : (type : ℕ) {m : Motion} → PossibleMotion m → Gives s PossibleMotion (forward type m)
  unfolding forward
  forward-gives type {m} k = g_if m.is_set (λ e. vector-gives k) (λ e. g_if (eqb type 2) (λ e. g-done (zeroed-kept k)) (λ e. g-done k))

  pub backward-gives : {m : Motion} → PossibleMotion m → Gives s PossibleMotion (backward m)
  unfolding backward
  backward-gives {m} k = g_if m.is_set (λ e. vector-gives k) (λ e. g-done k)

  pub vectors-pure : (type : ℕ) {x : Slice} → PossibleSlice x → Gives s PossibleSlice (vectors type x)
  unfolding vectors
  vectors-pure type k = g-bind _ (forward-gives type k.forward) (λ f i. g-bind _ (backward-gives k.backward) (λ b j. g-done (motions-kept k i j)))

  pub scale-gives : (t : ℕ) {x : Slice} → PossibleSlice x → Gives s PossibleSlice (scale t x)
  unfolding scale
  scale-gives t k = g_if (flag t 16) (λ e. g-bind _ (g-bits 5) (λ q h. g-done (scale_kept k (omega arith)))) (λ e. g-done k)

  pub head-gives : (type t : ℕ) {x : Slice} → PossibleSlice x → Gives s PossibleSlice (head type t x)
  unfolding head
  head-gives type t k =
      g-bind _ (scale-gives t (flagged-kept k t)) (λ q i. g_if (is_intra t) (λ e. g-done (still_kept i)) (λ e. vectors-pure type (reset-kept i)))
