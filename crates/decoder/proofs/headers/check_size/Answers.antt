use Rattle.bits.proofs.Rules.{from_reader}
use Rattle.decoder.proofs.Checking.{size-no, size-yes}
use Rattle.decoder.proofs.Fits.{fit-sized, fit-accepted}
use Rattle.decoder.proofs.headers.check_size.Goals as goal

pub returns-then-size-clause-decoder_value : goal.returns-then-size-clause-decoder_value
returns-then-size-clause-decoder_value c =
    rw c.position-d.ensures (size-no c.args.d (from_reader c.from_position.ensures c.read_size-size.ensures.runs_in_bounds.runs) c.if-size.true)

pub returns-clause-decoder_value : goal.returns-clause-decoder_value
returns-clause-decoder_value c =
    rw (c.accepted.ensures, c.position-d.ensures)
    (size-yes c.args.d (from_reader c.from_position.ensures c.read_size-size.ensures.runs_in_bounds.runs) c.if-size.false
    c.read_rest-rest.ensures.runs_in_bounds.runs)

pub returns-clause-fit_2 : goal.returns-clause-fit_2
returns-clause-fit_2 c =
    let z = c.read_size-size.ensures in
    rw (c.accepted.ensures, c.position-d.ensures)
    (fit-accepted _ (fit-sized _ c.requires.fit z.runs_in_bounds.inside.position z.width_bound.0 z.width_bound.1)
    c.read_rest-rest.ensures.runs_in_bounds.inside.position)
