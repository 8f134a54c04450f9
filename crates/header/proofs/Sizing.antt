-- RULES O.4, Q2: macroblock sizes. Assumes nothing.
use mathlib.Core.Path.{◌≡◌, refl}
use mathlib.Core.Bool.{Bool, true, false, cond, ◌&&◌}
use mathlib.Core.List.{[], ◌∷◌}
use Prim.Native.Nat.{ℕ, ◌*◌, ◌≤◌}
use native.Mathlib.Nat.{mul-le-mul}
use native.Mathlib.Omega.{arith}
use lib.Dec.{leb}
use borrow.Author.Tests.{eqb-true, leb-true}
use Rattle.laws.proofs.Tests.{each}
use Rattle.picture_state.specs.declared.types.Sizes.{Sizes}
use Rattle.header.specs.declared.state.Sequence.{Sequence}
use Rattle.header.specs.Possible.{across, sizes_of, same_sizes, possible_sequence}

-- 4,095 samples need 256 macroblocks
pub across-most : (w : ℕ) → w ≤ 4095 → across w ≤ 256
across-most w h = omega arith

pub size-most : (w h : ℕ) → w ≤ 4095 → h ≤ 4095 → across w * across h ≤ 65536
size-most w h p q = omega (arith, mul-le-mul (across-most w p) (across-most h q))

-- the sizes are of this many macroblocks
pub record Sized (z : Sizes) : Type 0 where
  pub across : z.mb_width ≤ 256
  pub down : z.mb_height ≤ 256
  pub size : z.mb_size ≡ z.mb_width * z.mb_height

sized_as : (x z : Sizes) → same_sizes x z ≡ true → Sized z → Sized x
sized_as x z e k =
    let h = each _ (_ ∷ _ ∷ []) e in
    let a : x.mb_width ≡ z.mb_width = eqb-true _ _ (h 0) in
    let b : x.mb_height ≡ z.mb_height = eqb-true _ _ (h 1) in
    let c : x.mb_size ≡ z.mb_size = eqb-true _ _ (h 2) in
    record { across = rw a k.across; down = rw b k.down; size = rw (a, b, c) k.size }

pub sized_of : (w h : ℕ) → w ≤ 4095 → h ≤ 4095 → Sized (sizes_of w h)
sized_of w h p q = record { across = omega arith; down = omega arith; size = refl }

-- what the header says of the sizes
abbrev sizes_test : Sequence → Bool → Bool
sizes_test q b =
    cond b (leb 1 q.width && leb 1 q.height && same_sizes q.sizes (sizes_of q.width q.height))
    (same_sizes q.sizes (record { mb_width = 0; mb_height = 0; mb_size = 0 }))

sized-by : (q : Sequence) → q.width ≤ 4095 → q.height ≤ 4095 → (b : Bool) → sizes_test q b ≡ true → Sized q.sizes
sized-by q w h true e =
    sized_as q.sizes (sizes_of q.width q.height)
    (each (leb 1 q.width) (leb 1 q.height ∷ same_sizes q.sizes (sizes_of q.width q.height) ∷ []) e 2)
    (sized_of q.width q.height w h)
sized-by q w h false e =
    sized_as q.sizes (record { mb_width = 0; mb_height = 0; mb_size = 0 }) e (record { across = omega arith; down = omega arith; size = refl })

-- what question 2 asks of a sequence
pub possible-sized : (q : Sequence) → possible_sequence q ≡ true → (q.width ≤ 4095) × (q.height ≤ 4095) × Sized q.sizes
possible-sized q e =
    let h = each (leb q.width 4095) (leb q.height 4095 ∷ sizes_test q q.has_sequence_header ∷ []) e in
    let w : q.width ≤ 4095 = leb-true _ _ (h 0) in
    let v : q.height ≤ 4095 = leb-true _ _ (h 1) in
    (w, v, sized-by q w v q.has_sequence_header (h 2))

-- with a header, width and height are above 0, and the sizes follow from them
pub possible-headed : (q : Sequence) → possible_sequence q ≡ true → q.has_sequence_header ≡ true
    → (leb 1 q.width && leb 1 q.height && same_sizes q.sizes (sizes_of q.width q.height)) ≡ true
possible-headed q e t =
    let h = each (leb q.width 4095) (leb q.height 4095 ∷ sizes_test q q.has_sequence_header ∷ []) e in
    rw t at (h 2)
