-- No step leaves its width: `need` of its expression, at inputs of these sizes.
use mathlib.Core.List.{List}
use mir.Syntax.{w32}
use Rattle.laws.proofs.Exprs.{var, cst, ◌⊹◌, ◌∸◌, ◌×̇◌, neg, Input, need, value}
use Rattle.laws.specs.Sizes.{AtMost}
use Rattle.transform.specs.declared.butterfly.Eight.{Eight}
use Rattle.transform.specs.Bounds.{input_size}
use Rattle.transform.specs.Butterfly.{nth}
use Rattle.transform.proofs.Steps.{more, b3, b4, tmp1, tmp2, b6, b7, x4, x0, x1, x2, x3, y3, y4, y5, y6, y7, out, inputs, step_is}
use Rattle.transform.proofs.butterfly.butterfly.Goals as goal

abbrev ins : (a : Eight) → AtMost 8 input_size (nth a) → List (Input w32)
ins a h = inputs input_size a h

pub overflow_add-b3 : goal.overflow_add-b3
overflow_add-b3 c = need (ins c.args.a c.requires) b3 tt

pub overflow_sub-b4 : goal.overflow_sub-b4
overflow_sub-b4 c = need (ins c.args.a c.requires) b4 tt

pub overflow_add-tmp1 : goal.overflow_add-tmp1
overflow_add-tmp1 c = need (ins c.args.a c.requires) tmp1 tt

pub overflow_add-tmp2 : goal.overflow_add-tmp2
overflow_add-tmp2 c = need (ins c.args.a c.requires) tmp2 tt

pub overflow_sub-b6 : goal.overflow_sub-b6
overflow_sub-b6 c = need (ins c.args.a c.requires) b6 tt

pub overflow_add-b7 : goal.overflow_add-b7
overflow_add-b7 c = need (ins c.args.a c.requires) b7 tt

pub overflow_mul-x4 : goal.overflow_mul-x4
overflow_mul-x4 c = need (ins c.args.a c.requires) (b6 ×̇ cst 473) tt

pub overflow_mul-x4-2 : goal.overflow_mul-x4-2
overflow_mul-x4-2 c = need (ins c.args.a c.requires) (b4 ×̇ cst 196) tt

pub overflow_sub-x4 : goal.overflow_sub-x4
overflow_sub-x4 c = need (ins c.args.a c.requires) (b6 ×̇ cst 473 ∸ b4 ×̇ cst 196) tt

pub overflow_add-x4 : goal.overflow_add-x4
overflow_add-x4 c = need (ins c.args.a c.requires) (more (b6 ×̇ cst 473 ∸ b4 ×̇ cst 196)) tt

pub overflow_sub-x4-2 : goal.overflow_sub-x4-2
overflow_sub-x4-2 c = need (ins c.args.a c.requires) x4 tt

pub overflow_sub-x0 : goal.overflow_sub-x0
overflow_sub-x0 c = need (ins c.args.a c.requires) (tmp1 ∸ tmp2) tt

pub overflow_mul-x0 : goal.overflow_mul-x0
overflow_mul-x0 c = need (ins c.args.a c.requires) ((tmp1 ∸ tmp2) ×̇ cst 362) tt

pub overflow_add-x0 : goal.overflow_add-x0
overflow_add-x0 c = need (ins c.args.a c.requires) (more ((tmp1 ∸ tmp2) ×̇ cst 362)) tt

pub overflow_sub-x0-2 : goal.overflow_sub-x0-2
overflow_sub-x0-2 c = need (ins c.args.a c.requires) x0 tt

pub overflow_sub-x1 : goal.overflow_sub-x1
overflow_sub-x1 c = need (ins c.args.a c.requires) x1 tt

pub overflow_sub-x2 : goal.overflow_sub-x2
overflow_sub-x2 c = need (ins c.args.a c.requires) (var 2 ∸ var 6) tt

pub overflow_mul-x2 : goal.overflow_mul-x2
overflow_mul-x2 c = need (ins c.args.a c.requires) ((var 2 ∸ var 6) ×̇ cst 362) tt

pub overflow_add-x2 : goal.overflow_add-x2
overflow_add-x2 c = need (ins c.args.a c.requires) (more ((var 2 ∸ var 6) ×̇ cst 362)) tt

pub overflow_sub-x2-2 : goal.overflow_sub-x2-2
overflow_sub-x2-2 c = need (ins c.args.a c.requires) x2 tt

pub overflow_add-x3 : goal.overflow_add-x3
overflow_add-x3 c = need (ins c.args.a c.requires) x3 tt

pub overflow_add-y3 : goal.overflow_add-y3
overflow_add-y3 c = need (ins c.args.a c.requires) y3 tt

pub overflow_add-y4 : goal.overflow_add-y4
overflow_add-y4 c = need (ins c.args.a c.requires) y4 tt

pub overflow_sub-y5 : goal.overflow_sub-y5
overflow_sub-y5 c = need (ins c.args.a c.requires) y5 tt

pub overflow_sub-y6 : goal.overflow_sub-y6
overflow_sub-y6 c = need (ins c.args.a c.requires) y6 tt

pub overflow_sub-y7 : goal.overflow_sub-y7
overflow_sub-y7 c = need (ins c.args.a c.requires) (neg x0) tt

pub overflow_mul-y7 : goal.overflow_mul-y7
overflow_mul-y7 c = need (ins c.args.a c.requires) (b4 ×̇ cst 473) tt

pub overflow_mul-y7-2 : goal.overflow_mul-y7-2
overflow_mul-y7-2 c = need (ins c.args.a c.requires) (b6 ×̇ cst 196) tt

pub overflow_add-y7 : goal.overflow_add-y7
overflow_add-y7 c = need (ins c.args.a c.requires) (b4 ×̇ cst 473 ⊹ b6 ×̇ cst 196) tt

pub overflow_add-y7-2 : goal.overflow_add-y7-2
overflow_add-y7-2 c = need (ins c.args.a c.requires) (more (b4 ×̇ cst 473 ⊹ b6 ×̇ cst 196)) tt

pub overflow_sub-y7-2 : goal.overflow_sub-y7-2
overflow_sub-y7-2 c = need (ins c.args.a c.requires) y7 tt

pub overflow_add-result : goal.overflow_add-result
overflow_add-result c = need (ins c.args.a c.requires) (out 0) tt

pub overflow_add-result-2 : goal.overflow_add-result-2
overflow_add-result-2 c = need (ins c.args.a c.requires) (out 1) tt

pub overflow_sub-result : goal.overflow_sub-result
overflow_sub-result c = need (ins c.args.a c.requires) (out 2) tt

pub overflow_sub-result-2 : goal.overflow_sub-result-2
overflow_sub-result-2 c = need (ins c.args.a c.requires) (out 3) tt

pub overflow_add-result-3 : goal.overflow_add-result-3
overflow_add-result-3 c = need (ins c.args.a c.requires) (out 4) tt

pub overflow_add-result-4 : goal.overflow_add-result-4
overflow_add-result-4 c = need (ins c.args.a c.requires) (out 5) tt

pub overflow_sub-result-3 : goal.overflow_sub-result-3
overflow_sub-result-3 c = need (ins c.args.a c.requires) (out 6) tt

pub overflow_sub-result-4 : goal.overflow_sub-result-4
overflow_sub-result-4 c = need (ins c.args.a c.requires) (out 7) tt

pub returns : goal.returns
returns c =
    let i = ins c.args.a c.requires in
    rw (step_is input_size c.args.a c.requires)
    (λ j. record {
      v0 = value i (out 0) tt j;
      v1 = value i (out 1) tt j;
      v2 = value i (out 2) tt j;
      v3 = value i (out 3) tt j;
      v4 = value i (out 4) tt j;
      v5 = value i (out 5) tt j;
      v6 = value i (out 6) tt j;
      v7 = value i (out 7) tt j;
    })
