-- At each "no", and behind all questions.
use Rattle.std.proofs.Common.{sym, ◌∙◌}
use Rattle.decoder.proofs.Checking.{room-yes, room-no}
use Rattle.decoder.proofs.Fits.{fit_of}
use Rattle.decoder.proofs.Decoding.{begun_had, played, first_had, go-no, go_on, after-decode-1, after-decode-2, decode-mark, decode-on}
use Rattle.decoder.proofs.record.Decoder.decode.Goals as goal

pub returns-then-stream-gt-LONGEST_STREAM : goal.returns-then-stream-gt-LONGEST_STREAM
returns-then-stream-gt-LONGEST_STREAM c =
    let a = c.args in
    c.refused.ensures a.store.now ∙ after-decode-1 a.stream.now a.self a.store.now c.if-stream-gt-LONGEST_STREAM.true

pub returns-then-not-possible_with : goal.returns-then-not-possible_with
returns-then-not-possible_with c =
    let a = c.args in
    c.refused-then-not-possible_with.ensures a.store.now
    ∙ after-decode-2 a.stream.now a.self a.store.now c.if-stream-gt-LONGEST_STREAM.false (sym c.possible_with.ensures ∙ c.if-not-possible_with.true)

pub returns-then-mark-ne0 : goal.returns-then-mark-ne0
returns-then-mark-ne0 c =
    let a = c.args in
    c.refused-then-mark-ne0.ensures a.store.now
    ∙ decode-mark a.stream.now a.self a.store.now c.if-stream-gt-LONGEST_STREAM.false (sym c.possible_with.ensures ∙ c.if-not-possible_with.false)
    c.if-mark-ne0.true

pub with_header-requires-clause-fit : goal.with_header-requires-clause-fit
with_header-requires-clause-fit c = fit_of (sym c.possible_with.ensures ∙ c.if-not-possible_with.false)

pub returns-then-not-self : goal.returns-then-not-self
returns-then-not-self c =
    let a = c.args in
    c.with_header.ensures
    ∙ decode-on a.stream.now a.self a.store.now c.if-stream-gt-LONGEST_STREAM.false (sym c.possible_with.ensures ∙ c.if-not-possible_with.false)
    c.if-mark-ne0.false

pub store_bytes-requires : goal.store_bytes-requires
store_bytes-requires c = fit_of (sym c.possible_with.ensures ∙ c.if-not-possible_with.false)

pub returns-then-store-store_bytes : goal.returns-then-store-store_bytes
returns-then-store-store_bytes c =
    let a = c.args in
    let l = a.store.now in
    c.refused-then-store-store_bytes.ensures l
    ∙ go-no a.stream.now a.self l a.self 6
    (room-no a.self l a.self (rw c.store_bytes.ensures at c.if-store-store_bytes.true) ∙ first_had a.stream.now a.self l c.if-not-self.false)
    ∙ decode-on a.stream.now a.self l c.if-stream-gt-LONGEST_STREAM.false (sym c.possible_with.ensures ∙ c.if-not-possible_with.false)
    c.if-mark-ne0.false

pub pictures-t-requires-clause-fit_state : goal.pictures-t-requires-clause-fit_state
pictures-t-requires-clause-fit_state c = (fit_of (sym c.possible_with.ensures ∙ c.if-not-possible_with.false)).state

pub returns : goal.returns
returns c =
    let a = c.args in
    let d = a.self in
    let l = a.store.now in
    let h = c.if-not-self.false in
    go_on a.stream.now d l d
    (room-yes d l d (rw c.store_bytes.ensures at c.if-store-store_bytes.false) ∙ first_had a.stream.now d l h)
    (c.call_result_of.ensures c.pictures-t.new.store ∙ played a.stream.now d d l c.pictures-t.ensures (begun_had d l h))
    ∙ decode-on a.stream.now a.self l c.if-stream-gt-LONGEST_STREAM.false (sym c.possible_with.ensures ∙ c.if-not-possible_with.false)
    c.if-mark-ne0.false
