-- RULES L: the listing as text, in bytes.
use Rattle.std.specs.Prelude.{List, [], ◌∷◌, ◌++◌, ◌≡◌, cond, ℕ, zero, suc, ◌+◌, ◌/◌, ◌%◌, ltb, length, replicate}
use Rattle.std.proofs.lemmas.List.Edits.{sets}
use Rattle.decoder.specs.declared.record.Decoder.{Decoder}
use Rattle.decoder.specs.declared.answers.Opening.TheVariants as O
use Rattle.decoder.specs.Calls as Calls
use Rattle.decoder.specs.Listing.{Line, listing}

-- a number in decimal digits, with no 0 in front, where n digits are enough
unfoldable pub decimal_in : ℕ → ℕ → List ℕ
decimal_in zero x = []
decimal_in (suc n) x = cond (ltb x 10) ((48 + x) ∷ []) (decimal_in n (x / 10) ++ ((48 + x % 10) ∷ []))

-- a number of up to 64 bits, and the byte behind it
unfoldable pub field : ℕ → ℕ → List ℕ
field x end = decimal_in 20 x ++ (end ∷ [])

-- RULES L.2: four numbers with spaces between them and an end of line
unfoldable pub line_text : Line → List ℕ
line_text x = field x.handed 0x20 ++ (field x.store 0x20 ++ (field x.type 0x20 ++ field x.answer 0x0a))

unfoldable pub lines_text : List Line → List ℕ
lines_text [] = []
lines_text (x ∷ xs) = line_text x ++ lines_text xs

-- RULES L.5: "handed store type answer" and an end of line
unfoldable pub names : List ℕ
names =
    0x68 ∷ 0x61 ∷ 0x6e ∷ 0x64 ∷ 0x65 ∷ 0x64 ∷ 0x20 ∷ 0x73 ∷ 0x74 ∷ 0x6f ∷ 0x72 ∷ 0x65 ∷ 0x20 ∷ 0x74 ∷ 0x79 ∷ 0x70 ∷ 0x65 ∷ 0x20 ∷ 0x61 ∷ 0x6e ∷ 0x73 ∷
    0x77 ∷ 0x65 ∷ 0x72 ∷ 0x0a ∷ []

-- RULES L: what the program prints of the stream s
unfoldable pub listing_text : List ℕ → List ℕ
listing_text s = names ++ lines_text (listing s)

-- RULES L.1: opening the stream s over an empty store leaves the record d and the store l
abbrev pub Opens : List ℕ → Decoder → List ℕ → Type 0
Opens s d l = Calls.Opens s (replicate 55296 0) (record { decoder = d; answer = O.Ready }) l

-- the text t is written to the page from the place at on: every byte of the page, and the place behind t
pub record Wrote (page : List ℕ) (at : ℕ) (t after : List ℕ) (next : ℕ) : Type 0 where
  pub bytes : after ≡ sets page at t
  pub position : next ≡ at + length t
