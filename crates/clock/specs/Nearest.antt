-- What it is that a value of a format is the one nearest to a fraction a / c (IEEE 754), said with natural numbers alone.
-- `num x` / `den x` is the size of a finite x (lib.Ieee.Positive).
use Rattle.std.specs.Prelude.{◌≡◌, true, false, ℕ, ◌+◌, ◌-◌, ◌*◌, ◌%◌, ◌≤◌, T}
use lib.Ieee.{Float, nan, inf, fin, Format, up, down, fits, to_bits}
use Rattle.std.specs.Float.Ieee.Positive.{den}
use Rattle.std.specs.Float.Ieee.Scale.{finite}

-- |a - b|
abbrev pub distance : ℕ → ℕ → ℕ
distance a b = (a - b) + (b - a)

-- |x - a / c|, times c and `den x`, of a finite x
abbrev pub error : Float → ℕ → ℕ → ℕ
error nan a c = 0
error (inf s) a c = 0
error (fin false m e) a c = distance (m * up e * c) (a * down e)
error (fin true m e) a c = m * up e * c + a * down e

-- roundTiesToEven: x is a value of the format, none is nearer to a / c, and where another is as near, the last bit of x is 0
pub record Nearest (f : Format) (x : Float) (a c : ℕ) : Type 0 where
  pub holds : T (fits f x)
  pub is_finite : T (finite x)
  pub near : (y : Float) → T (fits f y) → T (finite y) → error x a c * den y ≤ error y a c * den x
  pub even : (y : Float) → T (fits f y) → T (finite y) → error x a c * den y ≡ error y a c * den x → (y ≡ x → ⊥) → to_bits f x % 2 ≡ 0
