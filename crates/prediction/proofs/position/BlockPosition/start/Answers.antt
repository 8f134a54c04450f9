-- No step leaves 32 bits: the value of an expression of inputs that are bounded.
use Rattle.std.proofs.Common.{◌≡◌, ◌*◌, ◌≤◌, nat_abs, ℕ, List, [], ◌∷◌, w32, ℤ, pos, ◌+ℤ◌, ◌*ℤ◌, ap, ◌∙◌, arith}
use lib.Signed.{shr_z}
use Rattle.laws.proofs.Exprs.{Exp, var, shr, ◌⊹◌, ◌×̇◌, Input, natural, signed, need, value}
use Rattle.prediction.specs.declared.position.BlockPosition.{BlockPosition}
use Rattle.prediction.specs.Predict.{BlockInPlane, width}
use Rattle.prediction.proofs.Places.{width-most, height-most, row_in, column_in}
use Rattle.prediction.proofs.position.BlockPosition.start.Goals as goal

-- what the code adds up, in its order
abbrev product : Exp
product = (var 0 ⊹ shr 1 (var 1)) ×̇ var 2

abbrev sum : Exp
sum = product ⊹ var 3 ⊹ shr 1 (var 4)

-- the row, v, the width, the column and h
abbrev inputs : {p : BlockPosition} → BlockInPlane p → (h v : ℤ) → (nat_abs h ≤ 2048) × (nat_abs v ≤ 2048) → (w : ℕ) → w ≡ width p → List (Input w32)
inputs {p} k h v small w is =
    natural w32 (p.row * p.size) 4096 (omega (arith, row_in k, height-most k))
    ∷ signed w32 v 2048 small.1
    ∷ natural w32 w 4096 (omega (arith, is, width-most k))
    ∷ natural w32 (p.column * p.size) 4096 (omega (arith, column_in k, width-most k))
    ∷ signed w32 h 2048 small.0
    ∷ []

pub overflow_mul-result : goal.overflow_mul-result
overflow_mul-result c = need (inputs c.requires.block_in_plane c.args.vector.h c.args.vector.v c.args.vector.in_reach _ c.width-dw.ensures) product tt

pub overflow_add-result-2 : goal.overflow_add-result-2
overflow_add-result-2 c =
    need (inputs c.requires.block_in_plane c.args.vector.h c.args.vector.v c.args.vector.in_reach _ c.width-dw.ensures) (product ⊹ var 3) tt

pub overflow_add-result-3 : goal.overflow_add-result-3
overflow_add-result-3 c = need (inputs c.requires.block_in_plane c.args.vector.h c.args.vector.v c.args.vector.in_reach _ c.width-dw.ensures) sum tt

pub returns : goal.returns
returns c =
    let a = c.args in
    value (inputs c.requires.block_in_plane a.vector.h a.vector.v c.args.vector.in_reach _ c.width-dw.ensures) sum tt
    ∙ ap (λ (w : ℕ). (pos (a.self.row * a.self.size) +ℤ shr_z a.vector.v 2) *ℤ pos w +ℤ pos (a.self.column * a.self.size) +ℤ shr_z a.vector.h 2)
    c.width-dw.ensures
