-- Which places of a plane lie in a block.
use Rattle.std.specs.Prelude.{Bool, ◌&&◌, ℕ, ◌-◌, ◌/◌, ◌%◌, leb, ltb}

-- row and column of the place k, counted from the place `at` in rows of dw
abbrev pub row_of : ℕ → ℕ → ℕ → ℕ
row_of at dw k = (k - at) / dw

abbrev pub column_of : ℕ → ℕ → ℕ → ℕ
column_of at dw k = (k - at) % dw

-- does k lie in the block of b rows of b that begins at `at`?
abbrev pub in_block : ℕ → ℕ → ℕ → ℕ → Bool
in_block at dw b k = leb at k && (ltb (row_of at dw k) b && ltb (column_of at dw k) b)
