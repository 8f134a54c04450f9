-- RULES 3.8, steps 1 to 6: a level becomes a coefficient.
use Rattle.std.specs.Prelude.{Bool, cond, ℕ, ℤ, pos, neg_ℤ, ◌+ℤ◌, ◌-ℤ◌, ◌*ℤ◌}
use Rattle.std.specs.Int.Signed.{lt_z, shr_z}
use Rattle.laws.specs.Signed.{odd}
use Rattle.coefficients.specs.declared.quantiser.Quantiser.{Quantiser}

-- step 2: a non-intra level moves away from zero, 0 upward
abbrev pub doubled : Bool → ℤ → ℤ
doubled intra level =
    cond intra (level *ℤ pos 2) (cond (lt_z (level *ℤ pos 2) (pos 0)) (level *ℤ pos 2 -ℤ pos 1) (level *ℤ pos 2 +ℤ pos 1))

-- step 5: an even number moves one toward zero, and 0 becomes 1
abbrev pub made_odd : ℤ → ℤ
made_odd x = cond (odd x) x (cond (lt_z (pos 0) x) (x -ℤ pos 1) (x +ℤ pos 1))

-- step 6
abbrev pub clipped : ℤ → ℤ
clipped x = cond (lt_z x (neg_ℤ (pos 2048))) (neg_ℤ (pos 2048)) (cond (lt_z (pos 2047) x) (pos 2047) x)

abbrev pub quantiser : Bool → ℕ → Quantiser
quantiser intra scale = record { intra = intra; scale = scale }

-- doubled, times scale times matrix entry, divided by 16 rounded down, made odd, clipped
unfoldable pub dequantised : Quantiser → ℤ → ℕ → ℤ
dequantised q level entry = clipped (made_odd (shr_z (doubled q.intra level *ℤ pos q.scale *ℤ pos entry) 16))
