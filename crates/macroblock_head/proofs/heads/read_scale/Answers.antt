use Rattle.std.proofs.Common.{sym, ◌∙◌, arith}
use Rattle.bits.proofs.Rules.{r-call, r-yes, r-no, r-done, r-reads}
use Rattle.macroblock_head.specs.Heads.{scale}
use Rattle.macroblock_head.proofs.heads.read_scale.Goals as goal

pub returns-then-has_scale : goal.returns-then-has_scale
unfolding scale
returns-then-has_scale c =
    let r = c.read-q.ensures in
    record { runs = r-yes _ (sym c.has_scale.ensures ∙ c.if-has_scale.true) (r-call _ (r-reads 5 (omega arith) r.runs) r-done); inside = r.inside }

pub returns : goal.returns
unfolding scale
returns c = record { runs = r-no _ (sym c.has_scale.ensures ∙ c.if-has_scale.false) r-done; inside = c.requires }
