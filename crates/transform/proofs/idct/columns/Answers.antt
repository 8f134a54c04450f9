-- A column goes through the step, and back to its place.
use Rattle.std.proofs.Common.{ap, ◌∙◌, arith}
use Rattle.laws.specs.Sizes.{AtMost}
use Rattle.transform.specs.Bounds.{input_size}
use Rattle.transform.specs.Butterfly.{nth, butterfly}
use Rattle.transform.proofs.Passes.{start_pass, kept, step_pass, by-columns, end-columns}
use Rattle.transform.proofs.Sizes.{column-within}
use Rattle.transform.proofs.idct.columns.Goals as goal

pub loop-i-init : goal.loop-i-init
loop-i-init c = start_pass by-columns butterfly c.args.block.now (omega arith)

pub butterfly-o-requires : goal.butterfly-o-requires
butterfly-o-requires c =
    let l = c.args.block.now in
    kept by-columns butterfly l c.loop-i.invariant c.loop-i-test.true (λ e. AtMost 8 input_size (nth e)) c.lane-a.ensures
    (column-within l c.requires c.loop-i.i c.loop-i-test.true)

pub loop-i-preserved : goal.loop-i-preserved
loop-i-preserved c =
    step_pass by-columns butterfly c.args.block.now c.loop-i.invariant c.loop-i-test.true c.butterfly-o.result c.put_lane.new.block
    (c.butterfly-o.ensures ∙ ap butterfly c.lane-a.ensures) c.put_lane.ensures

pub returns : goal.returns
returns c = end-columns c.args.block.now c.loop-i.block c.loop-i-test.false c.loop-i.invariant
