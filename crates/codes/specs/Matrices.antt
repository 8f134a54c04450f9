-- The order of coefficients and the matrices, each as 64 numbers, row by row.
use Rattle.std.specs.Prelude.{ℕ, zero, suc, min, ◌+◌, ◌-◌, ◌*◌, ◌%◌, ◌≤◌, ◌<◌, Bool, cond}
use Rattle.std.specs.Prelude.{List, [], ◌∷◌, ◌++◌, reverse, eqb, leb, ℤ, pos, nat_abs, get_or, replicate}
use Rattle.laws.specs.Each.{all_below}

-- n places of the diagonal d, on which row + column = d, from the row r down
unfoldable pub down_from : ℕ → ℕ → ℕ → List ℕ
down_from d r zero = []
down_from d r (suc n) = (r * 8 + (d - r)) ∷ down_from d (r + 1) n

-- the diagonal d of an 8x8 block: an odd one is taken downward, an even one upward
abbrev pub diagonal : ℕ → List ℕ
diagonal d = cond (eqb (d % 2) 1) (down_from d (d - 7) (min d 7 + 1 - (d - 7))) (reverse (down_from d (d - 7) (min d 7 + 1 - (d - 7))))

unfoldable pub diagonals : ℕ → ℕ → List ℕ
diagonals d zero = []
diagonals d (suc n) = diagonal d ++ diagonals (d + 1) n

-- RULES 2.7 (11172-2, 2.4.4.1, scan): the places in zig-zag order, by their rule: the fifteen diagonals one after the other
unfoldable pub zig_zag : List ℕ
zig_zag = diagonals 0 15

-- RULES 2.7 (11172-2, 2.4.3.2, intra_quantizer_matrix): the default matrix of intra blocks, as printed
unfoldable pub intra_quant_matrix : List ℕ
intra_quant_matrix =
    8 ∷ 16 ∷ 19 ∷ 22 ∷ 26 ∷ 27 ∷ 29 ∷ 34 ∷
    16 ∷ 16 ∷ 22 ∷ 24 ∷ 27 ∷ 29 ∷ 34 ∷ 37 ∷
    19 ∷ 22 ∷ 26 ∷ 27 ∷ 29 ∷ 34 ∷ 34 ∷ 38 ∷
    22 ∷ 22 ∷ 26 ∷ 27 ∷ 29 ∷ 34 ∷ 37 ∷ 40 ∷
    22 ∷ 26 ∷ 27 ∷ 29 ∷ 32 ∷ 35 ∷ 40 ∷ 48 ∷
    26 ∷ 27 ∷ 29 ∷ 32 ∷ 35 ∷ 40 ∷ 48 ∷ 58 ∷
    26 ∷ 27 ∷ 29 ∷ 34 ∷ 38 ∷ 46 ∷ 56 ∷ 69 ∷
    27 ∷ 29 ∷ 35 ∷ 38 ∷ 46 ∷ 56 ∷ 69 ∷ 83 ∷ []

-- RULES 2.7 (11172-2, 2.4.3.2, non_intra_quantizer_matrix): the default matrix of non-intra blocks
unfoldable pub non_intra_quant_matrix : List ℕ
non_intra_quant_matrix = replicate 64 16

-- RULES 2.7: the premultiplier, which the Rust's transform needs
unfoldable pub premultiplier_matrix : List ℤ
premultiplier_matrix =
    pos 32 ∷ pos 44 ∷ pos 42 ∷ pos 38 ∷ pos 32 ∷ pos 25 ∷ pos 17 ∷ pos 9 ∷
    pos 44 ∷ pos 62 ∷ pos 58 ∷ pos 52 ∷ pos 44 ∷ pos 35 ∷ pos 24 ∷ pos 12 ∷
    pos 42 ∷ pos 58 ∷ pos 55 ∷ pos 49 ∷ pos 42 ∷ pos 33 ∷ pos 23 ∷ pos 12 ∷
    pos 38 ∷ pos 52 ∷ pos 49 ∷ pos 44 ∷ pos 38 ∷ pos 30 ∷ pos 20 ∷ pos 10 ∷
    pos 32 ∷ pos 44 ∷ pos 42 ∷ pos 38 ∷ pos 32 ∷ pos 25 ∷ pos 17 ∷ pos 9 ∷
    pos 25 ∷ pos 35 ∷ pos 33 ∷ pos 30 ∷ pos 25 ∷ pos 20 ∷ pos 14 ∷ pos 7 ∷
    pos 17 ∷ pos 24 ∷ pos 23 ∷ pos 20 ∷ pos 17 ∷ pos 14 ∷ pos 9 ∷ pos 5 ∷
    pos 9 ∷ pos 12 ∷ pos 12 ∷ pos 10 ∷ pos 9 ∷ pos 7 ∷ pos 5 ∷ pos 2 ∷ []

-- RULES 4.4: coefficients as dequantisation gives them: each at most 2048 × the premultiplier at its place, in size
pub record Bounded (coefficients : List ℤ) : Type 0 where
  pub each : (k : ℕ) → k < 64 → nat_abs (get_or coefficients k (pos 0)) ≤ 2048 * nat_abs (get_or premultiplier_matrix k (pos 0))

-- RULES 4.4, Q2: Bounded as a test
unfoldable pub bounded : List ℤ → Bool
bounded c = all_below 64 (λ k. leb (nat_abs (get_or c k (pos 0))) (2048 * nat_abs (get_or premultiplier_matrix k (pos 0))))
