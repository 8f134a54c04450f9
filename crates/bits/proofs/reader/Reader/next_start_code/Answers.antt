-- The prefix at b ends the search; where none is left it ends at `end`, or at the boundary where that is further on.
use Rattle.std.proofs.Common.{◌≡◌, ◌*◌, arith, sym, ◌∙◌, ◌+◌, get_or, w32}
use mir.ValLaws.{to_z_pos}
use Rattle.bits.proofs.Rules.{is-start, reading}
use Rattle.bits.proofs.Start.{found-by, found_here, found-end, found-on-by-one}
use Rattle.bits.proofs.reader.Reader.next_start_code.Goals as goal

pub loop-b-preserved : goal.loop-b-preserved
loop-b-preserved c =
    record {
      within = omega arith;
      same = c.loop-b.invariant.same ∙ found-on-by-one c.args.s.now c.loop-b.b (omega arith) (sym c.has_prefix.ensures ∙ c.if-has_prefix.false);
    }

pub returns-then-has_prefix-clause-runs_in_bounds : goal.returns-then-has_prefix-clause-runs_in_bounds
returns-then-has_prefix-clause-runs_in_bounds c =
    let s = c.args.s.now in
    let b = c.loop-b.b in
    let here = found_here s b (omega arith) (sym c.has_prefix.ensures ∙ c.if-has_prefix.true) in
    rw (c.from.ensures, to_z_pos w32 (get_or s (b + 3) 0) (omega (arith, c.type_inv.s (b + 3))))
    (reading c.requires (is-start (rw c.bit_of.ensures (found-by s c.args.self.at.0 _ b (omega arith) c.loop-b.invariant.same here))))

pub returns-clause-runs_in_bounds : goal.returns-clause-runs_in_bounds
returns-clause-runs_in_bounds c =
    let s = c.args.s.now in
    let b = c.loop-b.b in
    let at : c.bit_of-2.result.0 ≡ b * 8 = omega arith in
    reading c.requires (is-start (rw at (found-by s c.args.self.at.0 _ b (omega arith) c.loop-b.invariant.same (found-end s b (omega arith)))))
