use Rattle.bits.proofs.Rules.{r-yes, r-no, reading}
use Rattle.coefficients.specs.Dcs.{dc_size}
use Rattle.coefficients.proofs.dc.read_dc_size.Goals as goal

pub returns-then-luminance : goal.returns-then-luminance
unfolding dc_size
returns-then-luminance c = reading c.requires.reader_in_bounds (r-yes _ c.if-luminance.true c.read_dct_size_luminance.ensures.runs)

pub returns : goal.returns
unfolding dc_size
returns c = reading c.requires.reader_in_bounds (r-no _ c.if-luminance.false c.read_dct_size_chrominance.ensures.runs)
