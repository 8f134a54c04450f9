-- RULES 4.1: the eight-point step on eight numbers.
use Rattle.std.specs.Prelude.{ℕ, zero, suc, ℤ}
use Rattle.transform.specs.declared.butterfly.Eight.{Eight}
use Rattle.transform.specs.Steps.{value, output}

-- the eight numbers f 0 .. f 7
abbrev pub eight : (ℕ → ℤ) → Eight
eight f = record { v0 = f 0; v1 = f 1; v2 = f 2; v3 = f 3; v4 = f 4; v5 = f 5; v6 = f 6; v7 = f 7 }

-- number k of the eight
abbrev pub nth : Eight → ℕ → ℤ
nth e zero = e.v0
nth e (suc zero) = e.v1
nth e (suc (suc zero)) = e.v2
nth e (suc (suc (suc zero))) = e.v3
nth e (suc (suc (suc (suc zero)))) = e.v4
nth e (suc (suc (suc (suc (suc zero))))) = e.v5
nth e (suc (suc (suc (suc (suc (suc zero)))))) = e.v6
nth e (suc (suc (suc (suc (suc (suc (suc k))))))) = e.v7

-- RULES 4.1
unfoldable pub butterfly : Eight → Eight
butterfly a = eight (λ k. value (nth a) (output k))
