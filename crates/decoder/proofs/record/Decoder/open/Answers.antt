-- The questions 1 and 3 to 6, and the store behind them.
use Rattle.std.proofs.Common.{refl}
use Rattle.decoder.proofs.Fits.{fit-fresh}
use Rattle.decoder.proofs.Openings.{open-1, open_no, open-yes}
use Rattle.decoder.proofs.record.Decoder.open.Goals as goal

pub returns-then-stream-gt-LONGEST_STREAM : goal.returns-then-stream-gt-LONGEST_STREAM
returns-then-stream-gt-LONGEST_STREAM c = rw c.fresh-d.ensures (open-1 _ _ c.if-stream-gt-LONGEST_STREAM.true)

pub check_header-requires-clause-fit : goal.check_header-requires-clause-fit
check_header-requires-clause-fit c = rw c.fresh-d.ensures fit-fresh

pub returns-in-Some : goal.returns-in-Some
returns-in-Some c =
    let asks = rw (c.check_header.ensures.decoder_value, c.fresh-d.ensures) at (c.check_store-checked.ensures.is c.args.store.now refl) in
    rw c.number.ensures (open_no _ _ c.if-stream-gt-LONGEST_STREAM.false c.check_store-checked.result.decoder _ (rw c.in-Some.is at asks))

pub returns : goal.returns
returns c =
    let asks = rw (c.check_header.ensures.decoder_value, c.fresh-d.ensures) at (c.check_store-checked.ensures.is c.args.store.now refl) in
    rw (c.clear.ensures, c.store_bytes.ensures)
    (open-yes _ _ c.if-stream-gt-LONGEST_STREAM.false c.check_store-checked.result.decoder (rw c.in_default.is at asks))
