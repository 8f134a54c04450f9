-- A row goes through the step, is rounded, and goes back to its place.
use Rattle.std.proofs.Common.{sym, ap, subst, ◌∙◌, arith}
use Rattle.laws.specs.Sizes.{AtMost}
use Rattle.transform.specs.declared.butterfly.Eight.{Eight}
use Rattle.transform.specs.Bounds.{input_size, output_size}
use Rattle.transform.specs.Butterfly.{eight, nth, butterfly}
use Rattle.transform.specs.Steps.{over256}
use Rattle.transform.proofs.Passes.{start_pass, kept, step_pass, by_rows, row_step, end-rows}
use Rattle.transform.proofs.Sizes.{row_within, outputs-within}
use Rattle.transform.proofs.idct.rows.Goals as goal

pub loop-i-init : goal.loop-i-init
loop-i-init c = start_pass by_rows row_step c.args.block.now (omega arith)

pub butterfly-requires : goal.butterfly-requires
butterfly-requires c =
    let l = c.args.block.now in
    kept by_rows row_step l c.loop-i.invariant c.loop-i-test.true (λ e. AtMost 8 input_size (nth e)) c.lane-a.ensures
    (row_within l c.requires c.loop-i.i c.loop-i-test.true)

pub rounded-o-requires : goal.rounded-o-requires
rounded-o-requires c =
    let l = c.args.block.now in
    let within = kept by_rows row_step l c.loop-i.invariant c.loop-i-test.true (λ e. AtMost 8 input_size (nth e)) c.lane-a.ensures
    (row_within l c.requires c.loop-i.i c.loop-i-test.true) in
    subst (λ (e : Eight). AtMost 8 output_size (nth e)) (sym c.butterfly.ensures) (outputs-within c.lane-a.result within)

pub loop-i-preserved : goal.loop-i-preserved
loop-i-preserved c =
    step_pass by_rows row_step c.args.block.now c.loop-i.invariant c.loop-i-test.true c.rounded-o.result c.put_lane.new.block
    (c.rounded-o.ensures ∙ ap (λ (e : Eight). eight (λ k. over256 (nth e k))) (c.butterfly.ensures ∙ ap butterfly c.lane-a.ensures)) c.put_lane.ensures

pub returns : goal.returns
returns c = end-rows c.args.block.now c.loop-i.block c.loop-i-test.false c.loop-i.invariant
