-- RULES 6.12, 6.13: the results of a block written at its place.
use Rattle.std.specs.Prelude.{◌≡◌, ◌<◌, cond, List, ℕ, ◌+◌, ◌*◌, ◌/◌, ◌%◌, ltb, ℤ, pos, ◌+ℤ◌, get_or}
use Rattle.laws.specs.Signed.{clamp255}
use Rattle.laws.specs.Stores.{store_rows}
use Rattle.prediction.specs.declared.position.Macroblock.{Macroblock}
use Rattle.prediction.specs.Planes.{block_size, plane_of}

-- what a function may give of an old byte and of a number below 64 is what g gives
abbrev pub Gives : (ℕ → ℕ → ℕ → Type 0) → (ℕ → ℕ → ℕ) → Type 0
Gives post g = (old k r : ℕ) → old < 256 → k < 64 → post old k r → r ≡ g old k

-- eight rows of eight, made by g of what stood at each place, and of its number in the block
abbrev pub made_block : (ℕ → ℕ → ℕ) → List ℕ → ℕ → ℕ → List ℕ
made_block g d di dw = store_rows d di dw 8 (λ y x. g (get_or d (di + y * dw + x) 0) (y * 8 + x)) 8

-- one byte everywhere
unfoldable pub set_const : List ℕ → ℕ → ℕ → ℕ → List ℕ
set_const d di dw value = store_rows d di dw 8 (λ y x. value) 8

-- the 64 results, clamped
unfoldable pub overwrite : List ℕ → ℕ → ℕ → List ℤ → List ℕ
overwrite d di dw s = store_rows d di dw 8 (λ y x. clamp255 (get_or s (y * 8 + x) (pos 0))) 8

-- one number added to what is there
unfoldable pub add_const : List ℕ → ℕ → ℕ → ℤ → List ℕ
add_const d di dw value = store_rows d di dw 8 (λ y x. clamp255 (pos (get_or d (di + y * dw + x) 0) +ℤ value)) 8

-- the 64 results added to what is there
unfoldable pub add_block : List ℕ → ℕ → ℕ → List ℤ → List ℕ
add_block d di dw s = store_rows d di dw 8 (λ y x. clamp255 (pos (get_or d (di + y * dw + x) 0) +ℤ get_or s (y * 8 + x) (pos 0))) 8

-- the place of block 0 to 3 in the plane Y of width dw, for the macroblock at row and column
abbrev pub luma_address : ℕ → ℕ → ℕ → ℕ → ℕ
luma_address dw row column block = (row * 16 + block / 2 % 2 * 8) * dw + column * 16 + block % 2 * 8

-- the place of block 4 or 5 in its plane, of width dw
abbrev pub chroma_address : ℕ → ℕ → ℕ → ℕ
chroma_address dw row column = row * 8 * dw + column * 8

-- RULES 3.1: the width of the plane of block 0 to 5
abbrev pub block_width : Macroblock → ℕ → ℕ
block_width m number = m.across * block_size (plane_of number)

-- RULES 6.12: the place of block 0 to 5 in its plane
unfoldable pub block_address : Macroblock → ℕ → ℕ
block_address m number =
    cond (ltb number 4) (luma_address (block_width m number) m.row m.column number) (chroma_address (block_width m number) m.row m.column)
