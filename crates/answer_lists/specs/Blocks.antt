-- Blocks of 64 numbers and of 64 bytes, as a list of the Rust's answers holds them.
use Rattle.std.specs.Prelude.{ℕ, ◌*◌, List, ℤ, pos, get_or, replicate}
use Rattle.std.specs.Int.{w32}
use Rattle.std.proofs.Common.{to_z}
use Rattle.laws.specs.Stores.{store_row}
use Rattle.answer_lists.specs.Numbers.{number_at}

unfoldable pub blank : List ℤ
blank = replicate 64 (pos 0)

-- the block that a list holds
unfoldable pub block_of : List ℕ → List ℤ
block_of l = store_row blank 0 (λ k. to_z w32 (number_at l (4 * k))) 64

-- the 64 bytes that a list begins with
unfoldable pub matrix_of : List ℕ → List ℕ
matrix_of l = store_row (replicate 64 0) 0 (λ k. get_or l k 0) 64
