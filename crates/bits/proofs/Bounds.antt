-- How the bounds of a stream and of the places in it belong together. Assumes nothing.
use mathlib.Core.Path.{◌≡◌, refl}
use Prim.Native.Nat.{suc, ◌*◌}
use Rattle.bits.specs.Bounds.{longest_stream, last_position}
use Rattle.bits.specs.Programs.{stream_fuel}

-- the last place is the end of the longest stream
pub position-end : last_position ≡ longest_stream * 8
position-end = refl

-- a loop that reads a bit or more a turn has fuel for all of it
pub fuel-for-all : stream_fuel ≡ suc last_position
fuel-for-all = refl
