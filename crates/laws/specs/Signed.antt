-- Rules on signed numbers.
use Rattle.std.specs.Prelude.{Bool, ℕ, suc, min, ◌/◌, ◌%◌, eqb, ℤ, pos, negsuc, neg_ℤ, nat_abs}

-- RULES 6.13, 9.3: brought into 0 .. 255, as the Rust's clamp_u8 does
unfoldable pub clamp255 : ℤ → ℕ
clamp255 (pos n) = min n 255
clamp255 (negsuc n) = 0

-- half, rounded toward zero, as chroma vectors are halved (RULES 6.2): -3 gives -1
unfoldable pub half_toward_zero : ℤ → ℤ
half_toward_zero (pos n) = pos (n / 2)
half_toward_zero (negsuc n) = neg_ℤ (pos (suc n / 2))

-- is it odd? An odd vector component asks for a half-sample average (RULES 6.3)
unfoldable pub odd : ℤ → Bool
odd z = eqb (nat_abs z % 2) 1
