-- Floats of a record: fractions in a file, bits in a sum.
use Rattle.std.specs.Prelude.{cond, ℕ, Float, pos}
use Rattle.std.specs.Float.{binary64}
use Rattle.std.specs.Float.Ieee.{div, eq, of_int, to_bits}

-- the bits of a float; there is one NaN, which is no number equal to itself
unfoldable pub bits : Float → ℕ
bits x = cond (eq x x) (to_bits binary64 x) 9221120237041090560

-- 0 / 0 is a NaN, and 1 / 0 infinity
unfoldable pub fraction : ℕ → ℕ → Float
fraction n d = div binary64 (of_int binary64 (pos n)) (of_int binary64 (pos d))
