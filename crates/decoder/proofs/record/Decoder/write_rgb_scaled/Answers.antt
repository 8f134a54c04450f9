use Rattle.std.proofs.Common.{sym, ◌∙◌, leb}
use Rattle.laws.proofs.Tests.{both}
use Rattle.decoder.proofs.Fits.{fit_of}
use Rattle.decoder.proofs.Converting.{headed, convert-2, convert-6, convert-10, convert-11, convert-yes}
use Rattle.decoder.proofs.record.Decoder.write_rgb_scaled.Goals as goal

pub returns-then-not-possible : goal.returns-then-not-possible
returns-then-not-possible c = convert-2 c.args.self _ _ _ _ _ (sym c.possible.ensures ∙ c.if-not-possible.true)

pub store_bytes-requires : goal.store_bytes-requires
store_bytes-requires c = fit_of (sym c.possible.ensures ∙ c.if-not-possible.false)

pub returns-then-store-store_bytes : goal.returns-then-store-store_bytes
returns-then-store-store_bytes c =
    convert-6 c.args.self _ _ _ _ _ (sym c.possible.ensures ∙ c.if-not-possible.false) (rw c.store_bytes.ensures at c.if-store-store_bytes.true)

pub returns-then-not-self-index : goal.returns-then-not-self-index
returns-then-not-self-index c =
    convert-10 c.args.self _ _ _ _ _ (sym c.possible.ensures ∙ c.if-not-possible.false) (rw c.store_bytes.ensures at c.if-store-store_bytes.false)
    c.if-not-self-index.true

pub returns-then-not-fits : goal.returns-then-not-fits
returns-then-not-fits c =
    convert-11 c.args.self _ _ _ _ _ (sym c.possible.ensures ∙ c.if-not-possible.false) (rw c.store_bytes.ensures at c.if-store-store_bytes.false)
    c.if-not-self-index.false (sym c.fits.ensures ∙ c.if-not-fits.true)

pub write_picture-requires-clause-has_header : goal.write_picture-requires-clause-has_header
write_picture-requires-clause-has_header c =
    headed c.args.self (sym c.possible.ensures ∙ c.if-not-possible.false)
    (both c.args.self.sequence.has_sequence_header (leb c.args.index 2) c.if-not-self-index.false).0

pub returns : goal.returns
returns c =
    convert-yes c.args.self _ _ _ _ _ (sym c.possible.ensures ∙ c.if-not-possible.false) (rw c.store_bytes.ensures at c.if-store-store_bytes.false)
    c.if-not-self-index.false (sym c.fits.ensures ∙ c.if-not-fits.false) c.write_picture.ensures
