-- RULES 4.1: the eight-point step as expressions over its eight inputs, with the Rust's names. Value, sizes and exact form are functions of them.
use Rattle.std.specs.Prelude.{List, [], ◌∷◌, ℕ, ℤ, pos, neg_ℤ, ◌+ℤ◌, ◌-ℤ◌, ◌*ℤ◌, get_or}
use Rattle.std.specs.Int.Signed.{shr_z}

infixl 6 ◌⊕◌ ◌⊖◌
infixl 7 ◌⊗◌
pub data Expression : Type 0 where
  input : ℕ → Expression
  ◌⊕◌ ◌⊖◌ : Expression → Expression → Expression
  neg : Expression → Expression
  ◌⊗◌ : Expression → ℕ → Expression  -- times a constant
  nearest : Expression → Expression  -- over 256, to the nearest

-- (t + 128) >> 8: t over 256, to the nearest
abbrev pub over256 : ℤ → ℤ
over256 t = shr_z (t +ℤ pos 128) 256

-- its number, where input k is s k
abbrev pub value : (ℕ → ℤ) → Expression → ℤ
value s (input k) = s k
value s (a ⊕ b) = value s a +ℤ value s b
value s (a ⊖ b) = value s a -ℤ value s b
value s (neg a) = neg_ℤ (value s a)
value s (a ⊗ n) = value s a *ℤ pos n
value s (nearest a) = over256 (value s a)

-- RULES 4.1: the eight outputs
abbrev pub outputs : List Expression
outputs =
    let m0 = input 0 in
    let b1 = input 4 in
    let b3 = input 2 ⊕ input 6 in
    let b4 = input 5 ⊖ input 3 in
    let tmp1 = input 1 ⊕ input 7 in
    let tmp2 = input 3 ⊕ input 5 in
    let b6 = input 1 ⊖ input 7 in
    let b7 = tmp1 ⊕ tmp2 in
    let x4 = nearest (b6 ⊗ 473 ⊖ b4 ⊗ 196) ⊖ b7 in
    let x0 = x4 ⊖ nearest ((tmp1 ⊖ tmp2) ⊗ 362) in
    let x1 = m0 ⊖ b1 in
    let x2 = nearest ((input 2 ⊖ input 6) ⊗ 362) ⊖ b3 in
    let x3 = m0 ⊕ b1 in
    let y3 = x1 ⊕ x2 in
    let y4 = x3 ⊕ b3 in
    let y5 = x1 ⊖ x2 in
    let y6 = x3 ⊖ b3 in
    let y7 = neg x0 ⊖ nearest (b4 ⊗ 473 ⊕ b6 ⊗ 196) in
    (b7 ⊕ y4) ∷ (x4 ⊕ y3) ∷ (y5 ⊖ x0) ∷ (y6 ⊖ y7) ∷ (y6 ⊕ y7) ∷ (x0 ⊕ y5) ∷ (y3 ⊖ x4) ∷ (y4 ⊖ b7) ∷ []

-- output k
abbrev pub output : ℕ → Expression
output k = get_or outputs k (input 0)
