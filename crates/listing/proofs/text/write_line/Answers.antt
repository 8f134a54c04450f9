use Rattle.listing.specs.Text.{line_text}
use Rattle.listing.proofs.Writing.{wrote_on}
use Rattle.listing.proofs.text.write_line.Goals as goal

pub returns-clause-wrote : goal.returns-clause-wrote
unfolding line_text
returns-clause-wrote c =
    wrote_on c.write_field-first.ensures.wrote
    (wrote_on c.write_field-second.ensures.wrote (wrote_on c.write_field-third.ensures.wrote c.write_field.ensures.wrote))
