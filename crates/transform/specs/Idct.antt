-- RULES 4.2, 4.3: the transform of a block, which is 64 numbers, row by row.
use Rattle.std.specs.Prelude.{ℕ, ◌+◌, ◌*◌, List, ℤ, pos, get_or, replicate}
use Rattle.laws.specs.Stores.{store_rows}
use Rattle.transform.specs.declared.butterfly.Eight.{Eight}
use Rattle.transform.specs.Butterfly.{eight, nth, butterfly}
use Rattle.transform.specs.Steps.{over256}

-- number k of a block
abbrev pub at : List ℤ → ℕ → ℤ
at l k = get_or l k (pos 0)

-- the eight numbers from start on, step apart: column x starts at x with step 8, row y at 8 y with step 1
abbrev pub lane : List ℤ → ℕ → ℕ → Eight
lane l start step = eight (λ k. at l (start + k * step))

-- the block that has f y x in row y, column x
abbrev pub block : (ℕ → ℕ → ℤ) → List ℤ
block f = store_rows (replicate 64 (pos 0)) 0 8 8 f 8

-- RULES 4.2, the first pass: output y of the step on column x goes to row y of that column
unfoldable pub columns : List ℤ → List ℤ
columns l = block (λ y x. nth (butterfly (lane l x 8)) y)

-- RULES 4.2, the second pass: output x of the step on row y goes, rounded, to column x of that row
unfoldable pub rows : List ℤ → List ℤ
rows l = block (λ y x. over256 (nth (butterfly (lane l (y * 8) 1)) x))

-- RULES 4.2: the transform
unfoldable pub idct : List ℤ → List ℤ
idct l = rows (columns l)

-- RULES 4.3: each result of a block that has no coefficient but c at place 0
unfoldable pub dc_only : ℤ → ℤ
dc_only c = over256 c
