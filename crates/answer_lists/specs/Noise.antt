-- Bytes that memory has before a call, by a rule.
use Rattle.std.specs.Prelude.{ℕ, ◌+◌, ◌*◌, ◌/◌, ◌%◌}

-- the byte i, as the maker of the Rust's answers computes it
unfoldable pub noise : ℕ → ℕ → ℕ
noise seed i =
    let x = i % 65536 + seed % 65536 in
    x * x * 40503 / 4096 % 256
