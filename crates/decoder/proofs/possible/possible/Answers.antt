use Rattle.decoder.proofs.Fits.{possible-by}
use Rattle.decoder.proofs.possible.possible.Goals as goal

pub returns : goal.returns
returns c =
    possible-by _ c.possible_numbers.ensures c.possible_display.ensures c.possible_sequence.ensures c.possible_picture.ensures c.bounded-left.ensures
