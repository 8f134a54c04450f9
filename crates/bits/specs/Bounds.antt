-- How long a stream may be, and the places in it.
use Rattle.std.specs.Prelude.{ℕ}

-- RULES Q1: the longest stream, in bytes
abbrev pub longest_stream : ℕ
longest_stream = 16777216

-- RULES Q2: the last place, in bits: the end of the longest stream
abbrev pub last_position : ℕ
last_position = 134217728
