-- RULES 4.4: no sum or product of the transform leaves 32 bits.
use mathlib.Core.Bool.{Bool, ◌&&◌}
use mathlib.Core.List.{List}
use Prim.Native.Nat.{ℕ, ◌+◌, ◌*◌}
use lib.Dec.{T, ltb, ltb→lt}
use lib.IntN.{ℤ}
use mir.Facts.{and_yes}
use Rattle.laws.specs.Sizes.{AtMost}
use Rattle.laws.proofs.Nums.{Num, num, con, negate, shift-right, ◌⊞◌, ◌⊟◌, ◌⊠◌}
use Rattle.laws.proofs.Tables as Tables
use Rattle.codes.specs.Matrices.{Bounded}
use Rattle.transform.specs.Steps.{Expression, input, ◌⊕◌, ◌⊖◌, neg, ◌⊗◌, nearest, value, outputs, output}
use Rattle.transform.specs.Butterfly.{nth}
use Rattle.transform.specs.Idct.{lane, columns}
use Rattle.transform.specs.Bounds.{input_size, size_of, Sized, InBounds, NoOverflow}
use Rattle.transform.proofs.Sizes.{column-within, row_within, middle}

abbrev below : ℕ → Bool
below n = ltb n 2147483648

-- the sizes on the way are below 2 ^ 31: computed
abbrev fits : (ℕ → ℕ) → Expression → Bool
fits size (input k) = ltb k 8 && below (size k)
fits size (a ⊕ b) = (fits size a && fits size b) && below (size_of size (a ⊕ b))
fits size (a ⊖ b) = (fits size a && fits size b) && below (size_of size (a ⊖ b))
fits size (neg a) = fits size a && below (size_of size (neg a))
fits size (a ⊗ n) = fits size a && below (size_of size (a ⊗ n))
fits size (nearest a) = (fits size a && below (size_of size a + 128)) && below (size_of size (nearest a))

module _ (size : ℕ → ℕ) (s : ℕ → ℤ) (h : AtMost 8 size s) where
  record Kept (e : Expression) : Type 0 where
    keeps : InBounds size s e
    number : Num (value s e) (value s e) (size_of size e)

  sized : {n : ℕ} {z : ℤ} → Num z z n → T (below n) → Sized n z
  sized {n} x t = record { most = x.bound; small = ltb→lt n 2147483648 t }

  kept : (e : Expression) → T (fits size e) → Kept e
  kept (input k) t =
      let q = and_yes (ltb k 8) (below (size k)) t in
      let x : Num (s k) (s k) (size k) = num (h.entry k (ltb→lt k 8 q.0)) in
      record { keeps = sized x q.1; number = x }
  kept (a ⊕ b) t =
      let q = and_yes (fits size a && fits size b) (below (size_of size (a ⊕ b))) t in
      let p = and_yes (fits size a) (fits size b) q.0 in
      let u = kept a p.0 in
      let w = kept b p.1 in
      record { keeps = (u.keeps, w.keeps, sized (u.number ⊞ w.number) q.1); number = u.number ⊞ w.number }
  kept (a ⊖ b) t =
      let q = and_yes (fits size a && fits size b) (below (size_of size (a ⊖ b))) t in
      let p = and_yes (fits size a) (fits size b) q.0 in
      let u = kept a p.0 in
      let w = kept b p.1 in
      record { keeps = (u.keeps, w.keeps, sized (u.number ⊟ w.number) q.1); number = u.number ⊟ w.number }
  kept (neg a) t =
      let q = and_yes (fits size a) (below (size_of size (neg a))) t in
      let u = kept a q.0 in
      record { keeps = (u.keeps, sized (negate u.number) q.1); number = negate u.number }
  kept (a ⊗ n) t =
      let q = and_yes (fits size a) (below (size_of size (a ⊗ n))) t in
      let u = kept a q.0 in
      record { keeps = (u.keeps, sized (u.number ⊠ con n) q.1); number = u.number ⊠ con n }
  kept (nearest a) t =
      let q = and_yes (fits size a && below (size_of size a + 128)) (below (size_of size (nearest a))) t in
      let p = and_yes (fits size a) (below (size_of size a + 128)) q.0 in
      let u = kept a p.0 in
      let sum = u.number ⊞ con 128 in
      record { keeps = (u.keeps, sized sum p.1, sized (shift-right 8 sum) q.1); number = shift-right 8 sum }

pub none-leaves : (l : List ℤ) → Bounded l → NoOverflow l
none-leaves l b = record {
  column = λ x k p q. (kept input_size (nth (lane l x 8)) (column-within l b x p) (output k) (Tables.at first outputs (input 0) tt k q)).keeps;
  row = λ y k p q.
      (kept input_size (nth (lane (columns l) (y * 8) 1)) (row_within (columns l) (middle l b) y p) (nearest (output k))
      (Tables.at second outputs (input 0) tt k q)).keeps;
}
  where
    first : ℕ → Expression → Bool
    first k e = fits input_size e

    second : ℕ → Expression → Bool
    second k e = fits input_size (nearest e)
