-- Bytes of a list of the Rust's answers.
use Rattle.std.specs.Prelude.{ℕ, Bool, ◌&&◌, List, eqb, length, get_or, take, drop}
use Rattle.laws.specs.Each.{all_below}

-- n bytes from i on, or as many as there are
unfoldable pub part : List ℕ → ℕ → ℕ → List ℕ
part l i n = take n (drop i l)

-- two runs have the same byte at the place k, and are the same
abbrev pub same_byte : List ℕ → List ℕ → ℕ → Bool
same_byte s t k = eqb (get_or s k 0) (get_or t k 0)

unfoldable pub same_bytes : List ℕ → List ℕ → Bool
same_bytes s t = eqb (length s) (length t) && all_below (length s) (same_byte s t)
