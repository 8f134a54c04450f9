use Rattle.std.proofs.Common.{sym, ◌∙◌}
use Rattle.decoder.proofs.Checking.{store-told, store-asked, store-refused}
use Rattle.decoder.proofs.headers.check_store.Goals as goal

pub returns-then-is_some : goal.returns-then-is_some
returns-then-is_some c = store-told _ _ (sym c.is_some.ensures ∙ c.if-is_some.true)

pub returns-then-store_bytes-room : goal.returns-then-store_bytes-room
returns-then-store_bytes-room c =
    store-asked _ _ c.requires (sym c.is_some.ensures ∙ c.if-is_some.false) (rw c.store_bytes.ensures at c.if-store_bytes-room.true)

pub returns : goal.returns
returns c = store-refused _ _ (sym c.is_some.ensures ∙ c.if-is_some.false) (rw c.store_bytes.ensures at c.if-store_bytes-room.false)
