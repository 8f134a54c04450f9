-- RULES L.2, L.3: the form of a listing below its line of names.
use Rattle.std.specs.Prelude.{List, [], ◌∷◌, ℕ, ◌+◌, ◌≤◌}
use Rattle.decoder.specs.Listing.{Line, line}

-- with n pictures so far: a line for each picture, with the answer 0, and then one with the number that ended the calls
pub data ListingForm : ℕ → List Line → Type 0 where
  picture-line : {n : ℕ} (store type : ℕ) {xs : List Line} → ListingForm (n + 1) xs → ListingForm n (line (n + 1) store type 0 ∷ xs)
  last_line : {n : ℕ} (answer : ℕ) → 1 ≤ answer → ListingForm n (line n 0 0 answer ∷ [])
