-- A part written over the beginning of a memory in pieces, each behind the one before.
use mathlib.Core.List.{List, ◌++◌, append_assoc}
use mathlib.Core.Path.{◌≡◌, sym, ap, ap₂, ◌∙◌}
use Prim.Native.Nat.{ℕ, ◌+◌}
use borrow.Rule.Slice.PartMut.{put_mid}
use lib.ListN.{length, drop}
use lib.Seq.{take_at, drop_at, drop-drop}
use Rattle.memory.specs.Memory.{over}

module _ {A : Type 0} where
  -- y, behind the k elements of x
  pub over_on : (k m : ℕ) (l x y : List A) → length x ≡ k → put_mid k m (x ++ drop k l) y ≡ x ++ y ++ drop (k + m) l
  over_on k m l x y e =
      ap₂ (λ (u w : List A). u ++ (y ++ drop m w)) (take_at x (drop k l) k e) (drop_at x (drop k l) k e)
      ∙ sym (append_assoc x y (drop m (drop k l)))
      ∙ ap (λ (z : List A). x ++ y ++ z) (drop-drop m k l)

  -- the whole part
  pub over_all : (k : ℕ) (l x : List A) → length x ≡ k → x ++ drop k l ≡ over x l
  over_all k l x e = ap (λ (n : ℕ). x ++ drop n l) (sym e)
