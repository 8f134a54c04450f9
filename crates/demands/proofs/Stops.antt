-- RULES Q8, Q9, QB: a hand-out that leaves with 8 or 9 has come to the value outside that its cause names, and to none before it. Assumes nothing.
use mathlib.Core.List.{List}
use Prim.Native.Nat.{ℕ}
use Rattle.picture_state.specs.Stop.{Stop, stop}
use Rattle.picture.specs.Stops.{PictureStop}
use Rattle.picture.proofs.Stops.{picture-stopped}
use Rattle.playback.specs.State.{position}
use Rattle.playback.specs.Steps.{DecodingState, picture_state_of, after_picture_search}
use Rattle.decoder.specs.declared.record.Decoder.{Decoder}
use Rattle.demands.specs.Checks.{with_header_if_missing}
use Rattle.demands.specs.AfterErrors.{AfterError8Or9}

-- the picture that a turn decodes stops so
abbrev pub PictureStopIn : Decoder → List ℕ → DecodingState → Stop → Type 0
PictureStopIn d s y e =
    let q = (with_header_if_missing s d).sequence in
    let x = after_picture_search s y in
    PictureStop q.sizes q.matrices (picture_state_of x) s (position x.state) e

pub decode-stops : {d : Decoder} {s l : List ℕ} {n : ℕ} {x : Decoder} {m : List ℕ} (r : AfterError8Or9 d s l n x m)
    → PictureStopIn d s r.given (stop r.cause m)
decode-stops r = picture-stopped _ _ _ _ _ r.left
