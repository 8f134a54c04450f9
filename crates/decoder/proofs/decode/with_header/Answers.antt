-- The questions 3 to 6, and the pictures behind them.
use Rattle.std.proofs.Common.{refl, ◌∙◌}
use Rattle.decoder.proofs.Decoding.{begun-new, played, first-new, go-no, go_on}
use Rattle.decoder.proofs.decode.with_header.Goals as goal

pub returns-in-Some : goal.returns-in-Some
returns-in-Some c =
    let a = c.args in
    let l = a.store.now in
    let k = c.check_store-checked in
    let asks = k.ensures.is l refl ∙ first-new a.s.now a.before l c.requires.has_sequence_header_value c.check_header.ensures.decoder_value in
    rw c.number.ensures at (c.refused.ensures l) ∙ go-no a.s.now a.before l k.result.decoder _ (rw c.in-Some.is at asks)

pub returns : goal.returns
returns c =
    let a = c.args in
    let l = a.store.now in
    let k = c.check_store-checked in
    let h = c.requires.has_sequence_header_value in
    let asks = k.ensures.is l refl ∙ first-new a.s.now a.before l h c.check_header.ensures.decoder_value in
    go_on a.s.now a.before l k.result.decoder (rw c.in_default.is at asks)
    (c.call_result_of.ensures c.pictures-t.new.store
    ∙ played a.s.now a.before k.result.decoder l c.pictures-t.ensures (begun-new a.before k.result.decoder l h c.clear.ensures c.store_bytes.ensures))
