-- The steps of RULES 4.1 as the machine computes them, and that none leaves 32 bits.
use mathlib.Core.Path.{◌≡◌, refl, sym, ap, ◌∙◌, subst}
use mathlib.Core.Bool.{Bool, ◌&&◌}
use mathlib.Core.List.{List, [], ◌∷◌}
use Prim.Native.Nat.{ℕ, ◌≤◌, ◌<◌}
use native.Mathlib.Nat.{le_trans}
use lib.Dec.{T, leb, leb→le, lit<}
use lib.IntN.{ℤ, nat_abs}
use mir.Facts.{and_yes}
use mir.Syntax.{w32}
use Rattle.laws.proofs.Exprs.{Exp, var, cst, ◌⊹◌, ◌∸◌, ◌×̇◌, neg, shr, Input, signed, eval, bound, ok, within}
use Rattle.laws.proofs.Tables.{every, at}
use Rattle.transform.specs.declared.butterfly.Eight.{Eight}
use Rattle.transform.specs.Steps as S
use Rattle.transform.specs.Steps.{Expression, input, ◌⊕◌, ◌⊖◌, ◌⊗◌, nearest, outputs, output}
use Rattle.transform.specs.Butterfly.{eight, nth, butterfly}
use Rattle.laws.specs.Sizes.{AtMost}
use Rattle.transform.proofs.Eights.{nth-eight}

-- a sum before it is shifted, and the rounding
abbrev pub more : Exp → Exp
more e = e ⊹ cst 128

abbrev pub rnd : Exp → Exp
rnd e = shr 8 (more e)

-- what the code computes on the way to the outputs: its needs name these
abbrev pub b3 : Exp
b3 = var 2 ⊹ var 6

abbrev pub b4 : Exp
b4 = var 5 ∸ var 3

abbrev pub tmp1 : Exp
tmp1 = var 1 ⊹ var 7

abbrev pub tmp2 : Exp
tmp2 = var 3 ⊹ var 5

abbrev pub b6 : Exp
b6 = var 1 ∸ var 7

abbrev pub b7 : Exp
b7 = tmp1 ⊹ tmp2

abbrev pub x4 : Exp
x4 = rnd (b6 ×̇ cst 473 ∸ b4 ×̇ cst 196) ∸ b7

abbrev pub x0 : Exp
x0 = x4 ∸ rnd ((tmp1 ∸ tmp2) ×̇ cst 362)

abbrev pub x1 : Exp
x1 = var 0 ∸ var 4

abbrev pub x2 : Exp
x2 = rnd ((var 2 ∸ var 6) ×̇ cst 362) ∸ b3

abbrev pub x3 : Exp
x3 = var 0 ⊹ var 4

abbrev pub y3 : Exp
y3 = x1 ⊹ x2

abbrev pub y4 : Exp
y4 = x3 ⊹ b3

abbrev pub y5 : Exp
y5 = x1 ∸ x2

abbrev pub y6 : Exp
y6 = x3 ∸ b3

abbrev pub y7 : Exp
y7 = neg x0 ∸ rnd (b4 ×̇ cst 473 ⊹ b6 ×̇ cst 196)

-- an expression of the definition, as the code computes it
abbrev pub exp : Expression → Exp
exp (input k) = var k
exp (a ⊕ b) = exp a ⊹ exp b
exp (a ⊖ b) = exp a ∸ exp b
exp (S.neg a) = neg (exp a)
exp (a ⊗ n) = exp a ×̇ cst n
exp (nearest a) = rnd (exp a)

-- output k
abbrev pub out : ℕ → Exp
out k = exp (output k)

module _ (size : ℕ → ℕ) (a : Eight) (h : AtMost 8 size (nth a)) where
  abbrev pub inputs : List (Input w32)
  inputs =
      signed w32 a.v0 (size 0) (h.entry 0 (lit< tt))
      ∷ signed w32 a.v1 (size 1) (h.entry 1 (lit< tt))
      ∷ signed w32 a.v2 (size 2) (h.entry 2 (lit< tt))
      ∷ signed w32 a.v3 (size 3) (h.entry 3 (lit< tt))
      ∷ signed w32 a.v4 (size 4) (h.entry 4 (lit< tt))
      ∷ signed w32 a.v5 (size 5) (h.entry 5 (lit< tt))
      ∷ signed w32 a.v6 (size 6) (h.entry 6 (lit< tt))
      ∷ signed w32 a.v7 (size 7) (h.entry 7 (lit< tt))
      ∷ []

  -- the outputs by the rule are the numbers of these expressions
  pub step_is : butterfly a ≡ eight (λ k. eval inputs (out k))
  unfolding butterfly
  step_is = refl

  -- no step on the way to an output leaves 32 bits, and the output is at most M in size
  abbrev pub good : ℕ → ℕ → Expression → Bool
  good M k e = ok inputs (exp e) && leb (bound inputs (exp e)) M

  pub outs-within : (M : ℕ) → T (every (good M) 0 outputs) → (k : ℕ) → k < 8 → nat_abs (nth (butterfly a) k) ≤ M
  outs-within M t k q =
      let p = and_yes (ok inputs (out k)) (leb (bound inputs (out k)) M) (at (good M) outputs (input 0) t k q) in
      subst (λ (z : ℤ). nat_abs z ≤ M) (sym (ap (λ (e : Eight). nth e k) step_is ∙ nth-eight (λ j. eval inputs (out j)) k q))
      (le_trans (within inputs (out k) p.0) (leb→le (bound inputs (out k)) M p.1))
