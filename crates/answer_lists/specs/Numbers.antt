-- Numbers of a list of the Rust's answers.
use Rattle.std.specs.Prelude.{ℕ, ◌+◌, ◌*◌, List, get_or}

-- the number at the byte i: 32 bits, highest byte first, where a byte past the end counts as 0
unfoldable pub number_at : List ℕ → ℕ → ℕ
number_at l i = get_or l i 0 * 16777216 + get_or l (i + 1) 0 * 65536 + get_or l (i + 2) 0 * 256 + get_or l (i + 3) 0
