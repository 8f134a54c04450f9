-- RULES 1.9 to 1.11: the start codes that a search meets, and where it ends.
use Rattle.std.specs.Prelude.{◌≡◌, true, false, List, ℕ, max, ◌+◌, ◌-◌, ◌*◌, ◌≤◌, ◌<◌, length, get_or}
use Rattle.bits.specs.Bits.{boundary, code_prefix}

-- RULES 1.9: the first start code from the byte f on begins at the byte b, and has a byte behind it
pub record FirstCode (s : List ℕ) (f b : ℕ) : Type 0 where
  pub from : f ≤ b
  pub followed : b + 5 ≤ length s
  pub here : code_prefix s b ≡ true
  pub none_before : (j : ℕ) → f ≤ j → j < b → code_prefix s j ≡ false

-- RULES 1.10: from the byte f on there is none
abbrev pub NoCode : List ℕ → ℕ → Type 0
NoCode s f = (j : ℕ) → f ≤ j → j + 5 ≤ length s → code_prefix s j ≡ false

-- the last byte of the start code at the byte b
abbrev pub code_at : List ℕ → ℕ → ℕ
code_at s b = get_or s (b + 3) 0

-- RULES 1.11: a search for the code c from the byte f on has met other codes only, each the first behind the one before it, and goes on from the byte g: the
-- one behind the last of them, or f. A code that begins inside another is not met (DIFFERENCES B.17)
pub data Passes (s : List ℕ) (c : ℕ) : ℕ → ℕ → Type 0 where
  none_yet : {f : ℕ} → Passes s c f f
  another : {f b g : ℕ} → FirstCode s f b → (code_at s b ≡ c → ⊥) → Passes s c (b + 4) g → Passes s c f g

-- RULES 1.11: a search from the place a on found the code c, the first that is met, and ended right behind it
pub data StartCodeFound (s : List ℕ) (c a : ℕ) : ℕ → Type 0 where
  found_at : {g b : ℕ} → Passes s c (boundary a) g → FirstCode s g b → code_at s b ≡ c → StartCodeFound s c a ((b + 4) * 8)

-- RULES 1.10: a search from the place a on met no code c; it ended four bytes before the end of the stream, or at the byte from which it went on last
pub data NoneFound (s : List ℕ) (c a : ℕ) : ℕ → Type 0 where
  none_from : {g : ℕ} → Passes s c (boundary a) g → NoCode s g → NoneFound s c a (max g (length s - 4) * 8)

-- RULES 8.3: a picture start code is found from the place a on
pub data PictureAhead (s : List ℕ) (a : ℕ) : Type 0 where
  picture-at : {e : ℕ} → StartCodeFound s 0 a e → PictureAhead s a

-- RULES H: the first start code from the place a on is a sequence start code, at the byte b
pub record SequenceAt (s : List ℕ) (a b : ℕ) : Type 0 where
  pub first : FirstCode s (boundary a) b
  pub code : code_at s b ≡ 0xb3
