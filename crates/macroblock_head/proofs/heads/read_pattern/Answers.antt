use Rattle.std.proofs.Common.{sym, ◌∙◌}
use Rattle.bits.proofs.Rules.{r-yes, r-no, r-done}
use Rattle.macroblock_head.specs.Heads.{pattern}
use Rattle.macroblock_head.proofs.heads.read_pattern.Goals as goal

pub returns-then-has_pattern : goal.returns-then-has_pattern
unfolding pattern
returns-then-has_pattern c =
    let r = c.read_code_block_pattern.ensures in
    record { runs = r-yes _ (sym c.has_pattern.ensures ∙ c.if-has_pattern.true) r.runs; inside = r.inside }

pub returns-then-is_intra : goal.returns-then-is_intra
unfolding pattern
returns-then-is_intra c =
    record {
      runs = r-no _ (sym c.has_pattern.ensures ∙ c.if-has_pattern.false) (r-yes _ (sym c.is_intra.ensures ∙ c.if-is_intra.true) r-done);
      inside = c.requires.reader_in_bounds;
    }

pub returns : goal.returns
unfolding pattern
returns c =
    record {
      runs = r-no _ (sym c.has_pattern.ensures ∙ c.if-has_pattern.false) (r-no _ (sym c.is_intra.ensures ∙ c.if-is_intra.false) r-done);
      inside = c.requires.reader_in_bounds;
    }
