-- RULES R: a run of calls of `decode`, by its contract, and what they gave.
use Rattle.std.specs.Prelude.{◌≡◌, List, [], ◌∷◌, ℕ, ◌+◌}
use Rattle.decoder.specs.declared.answers.DecodeResult.{DecodeResult}
use Rattle.playback.specs.declared.outcome.Outcome.TheVariants as H
use Rattle.decoder.specs.Calls.{Decodes}
use Rattle.decoder.specs.Run.{CallState, call_state, pictures_of_outcome}

-- RULES R: calls with one stream, each given the record and the store that the one before it left; what they gave, and what the last one left
pub data Calls (s : List ℕ) : CallState → List DecodeResult → CallState → Type 0 where
  none : {x : CallState} → Calls s x [] x
  and_then : {x : CallState} {r : DecodeResult} {m : List ℕ} {rs : List DecodeResult} {y : CallState} → Decodes x.decoder s x.store r m
      → Calls s (call_state r.decoder m) rs y → Calls s x (r ∷ rs) y

-- RULES R.1: how many pictures they gave
unfoldable pub pictures_in : List DecodeResult → ℕ
pictures_in [] = 0
pictures_in (r ∷ rs) = pictures_of_outcome r.outcome + pictures_in rs

-- RULES R.2: all of them answered 7; and: behind a 7 all did
abbrev pub AllWithoutPicture : List DecodeResult → Type 0
AllWithoutPicture [] = Unit {0}
AllWithoutPicture (r ∷ rs) = (r.outcome ≡ H.Refused 7) × AllWithoutPicture rs

abbrev pub NoPictureStays : List DecodeResult → Type 0
NoPictureStays [] = Unit {0}
NoPictureStays (r ∷ rs) = (r.outcome ≡ H.Refused 7 → AllWithoutPicture rs) × NoPictureStays rs
