-- What the internal functions ask of a record and give back: bounds that follow from question 2 (RULES Q2).
use Rattle.std.specs.Prelude.{◌≤◌}
use Rattle.playback.specs.Fit.{FitState}
use Rattle.decoder.specs.declared.record.Decoder.{Decoder}

-- with no header the sizes are 0
pub record Fit (d : Decoder) : Type 0 where
  pub wide : d.sequence.width ≤ 4095
  pub high : d.sequence.height ≤ 4095
  pub state : FitState d.sequence.sizes d.state d.block_data
