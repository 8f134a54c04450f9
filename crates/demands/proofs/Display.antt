-- Laws of the order of display, and of the samples of a picture. Assumes nothing.
use mathlib.Core.Path.{◌≡◌, refl, sym, ap, ◌∙◌}
use mathlib.Core.Bool.{Bool, true, false, cond}
use mathlib.Core.List.{List, [], ◌∷◌, ◌++◌, append_assoc}
use mathlib.Core.Logic.{◌⊎◌, inl, inr}
use Prim.Native.Nat.{ℕ, ◌+◌, ◌*◌, ◌≤◌, ◌<◌}
use native.Mathlib.Decide.{dec_lt}
use native.Mathlib.Nat.{mul-le-mul_right}
use native.Mathlib.Omega.{arith}
use lib.ListN.{length, get_or, drop, length-take, length-drop}
use lib.Seq.{ext_get_or, get_or-drop, get_or-take}
use borrow.Rule.Slice.PartMut.{mid_of}
use Rattle.demands.specs.Stores.{SameBut}
use Rattle.demands.specs.Display.{CodedPicture, displayed, waiting, AllDecoded, samples_of}

-- ---- one list of pictures behind another

pub waiting-on : (h : List (List ℕ)) (a b : List CodedPicture) → waiting h (a ++ b) ≡ waiting (waiting h a) b
unfolding waiting
waiting-on h [] b = refl
waiting-on h (c ∷ a) b = go c.is_b (waiting-on h a b) (waiting-on (c.samples ∷ []) a b)
  where
    go : (t : Bool) → waiting h (a ++ b) ≡ waiting (waiting h a) b
        → waiting (c.samples ∷ []) (a ++ b) ≡ waiting (waiting (c.samples ∷ []) a) b
        → cond t (waiting h (a ++ b)) (waiting (c.samples ∷ []) (a ++ b)) ≡ waiting (cond t (waiting h a) (waiting (c.samples ∷ []) a)) b
    go true p q = p
    go false p q = q

pub displayed-on : (h : List (List ℕ)) (a b : List CodedPicture) → displayed h (a ++ b) ≡ displayed h a ++ displayed (waiting h a) b
unfolding displayed waiting
displayed-on h [] b = refl
displayed-on h (c ∷ a) b = go c.is_b (displayed-on h a b) (displayed-on (c.samples ∷ []) a b)
  where
    go : (t : Bool) → displayed h (a ++ b) ≡ displayed h a ++ displayed (waiting h a) b
        → displayed (c.samples ∷ []) (a ++ b) ≡ displayed (c.samples ∷ []) a ++ displayed (waiting (c.samples ∷ []) a) b
        → cond t (c.samples ∷ displayed h (a ++ b)) (h ++ displayed (c.samples ∷ []) (a ++ b))
        ≡ cond t (c.samples ∷ displayed h a) (h ++ displayed (c.samples ∷ []) a) ++ displayed (cond t (waiting h a) (waiting (c.samples ∷ []) a)) b
    go true p q = ap (λ (z : List (List ℕ)). c.samples ∷ z) p
    go false p q = ap (λ (z : List (List ℕ)). h ++ z) q ∙ sym (append_assoc h _ _)

pub decoded-first : (a b : List CodedPicture) → AllDecoded (a ++ b) → AllDecoded a
decoded-first [] b h = tt
decoded-first (c ∷ a) b h = (h.0, decoded-first a b h.1)

pub decoded-rest : (a b : List CodedPicture) → AllDecoded (a ++ b) → AllDecoded b
decoded-rest [] b h = h
decoded-rest (c ∷ a) b h = decoded-rest a b h.1

-- ---- the samples of another picture stay

mid_at : (a k : ℕ) (l : List ℕ) (i : ℕ) → i < k → get_or (mid_of a k l) i 0 ≡ get_or l (a + i) 0
mid_at a k l i h = get_or-take k (drop a l) i 0 h ∙ get_or-drop a l i 0

pub samples-same : (n k j : ℕ) (l m : List ℕ) → (j ≡ k → ⊥) → SameBut n k l m → samples_of n j m ≡ samples_of n j l
samples-same n k j l m d s =
    let size = 384 * n in
    let a = j * (384 * n) in
    let long : length (mid_of a size m) ≡ length (mid_of a size l) =
    omega (arith, length-take size (drop a m), length-drop a m, length-take size (drop a l), length-drop a l, s.long) in
    ext_get_or 0 (mid_of a size m) (mid_of a size l) long (λ i h.
    let i-in : i < size = omega (arith, length-take size (drop a m)) in
    mid_at a size m i i-in ∙ s.same (a + i) (apart (dec_lt j k) i i-in) ∙ sym (mid_at a size l i i-in))
  where
    apart : Dec (j < k) → (i : ℕ) → i < 384 * n → (j * (384 * n) + i < k * (384 * n)) ⊎ (k * (384 * n) + 384 * n ≤ j * (384 * n) + i)
    apart (yes h) i w = let g : j + 1 ≤ k = omega arith in inl (omega (arith, mul-le-mul_right (384 * n) g))
    apart (no h) i w = let g : k + 1 ≤ j = more in inr (omega (arith, mul-le-mul_right (384 * n) g))
      where
        more : k + 1 ≤ j
        more = go (dec_lt k j)
          where
            go : Dec (k < j) → k + 1 ≤ j
            go (yes g) = omega arith
            go (no g) = absurd (d (omega arith))
