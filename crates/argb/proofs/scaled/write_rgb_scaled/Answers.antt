-- One row more, in one of three ways.
use Rattle.std.proofs.Common.{◌≡◌, ◌*◌, ◌/◌, length, refl, sym, ap, ◌∙◌, inl, arith}
use Rattle.laws.specs.Stores.{store_row}
use Rattle.argb.specs.Planes.{picture_of}
use Rattle.argb.specs.Scaled.{Picture, sample_pixel, output_pixel}
use Rattle.argb.proofs.Places.{product-most}
use Rattle.argb.proofs.Pointwise.{scaled-none}
use Rattle.argb.proofs.Rows.{none_written, written_on, all-written, still-long, row_made, row_spread, row-again}
use Rattle.argb.proofs.scaled.write_rgb_scaled.Goals as goal
use Rattle.argb.proofs.scaled.write_rgb_scaled.Goals.{then-sy-shown, else-sy-shown+then-width-dst_w, else-sy-shown+else-width-dst_w}

pub returns-then-dst_w-eq0 : goal.returns-then-dst_w-eq0
returns-then-dst_w-eq0 c =
    let a = c.args in
    sym (scaled-none (picture_of a.planes.now) a.dst_w a.dst_h a.dst.now (inl c.if-dst_w-eq0.true))

pub loop-ty-init : goal.loop-ty-init
loop-ty-init c = none_written refl

pub overflow_mul-sy : goal.overflow_mul-sy
overflow_mul-sy c = omega (arith, product-most c.loop-ty.ty c.args.planes.now.height (omega arith) (omega arith))

pub overflow_mul-to : goal.overflow_mul-to
overflow_mul-to c = omega (arith, product-most c.loop-ty.ty c.args.dst_w (omega arith) (omega arith))

pub loop-ty-preserved : goal.loop-ty-preserved
loop-ty-preserved c =
    let a = c.args in
    let p : Picture = picture_of a.planes.now in
    let whole = c.args.planes.now.fit in
    let i = c.loop-ty.invariant in
    let y = c.loop-ty.ty in
    let before = c.loop-ty.dst in
    let row = c.loop-ty.row in
    let made : c.if-sy-shown.dst ≡ store_row before (y * a.dst_w) (output_pixel p a.dst_w a.dst_h y) a.dst_w =
    elim c.if-sy-shown.branch [
      | then-sy-shown w ↦
          row-again whole a.dst_w a.dst_h y i c.loop-ty-test.true w.if-sy-shown.true c.requires.dst_h_in_bounds
          (w.dst-is ∙ w.copy_row.ensures)
      | else-sy-shown+then-width-dst_w w ↦
          row_spread whole a.dst_w a.dst_h y row before i.colours w.colour_row.ensures (w.dst-is ∙ w.spread_row.ensures)
      | else-sy-shown+else-width-dst_w w ↦ row_made p a.dst_w a.dst_h y before (w.dst-is ∙ w.write_row.ensures)
    ] in
    let long : length c.if-sy-shown.row ≡ 4096 =
    elim c.if-sy-shown.branch [
      | then-sy-shown w ↦ ap length w.row-is ∙ i.colours
      | else-sy-shown+then-width-dst_w w ↦
          ap length w.row-is
          ∙ still-long row (λ x. sample_pixel p x (y * p.height / a.dst_h)) p.luma_width w.colour_row.ensures i.colours
      | else-sy-shown+else-width-dst_w w ↦ ap length w.row-is ∙ i.colours
    ] in
    written_on i c.loop-ty-test.true made long

pub returns : goal.returns
returns c = all-written c.loop-ty.invariant c.loop-ty-test.false
