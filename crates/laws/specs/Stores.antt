-- Stores into a list, in the order of the loops that make them.
use Rattle.std.specs.Prelude.{List, ℕ, zero, suc, ◌+◌, ◌*◌, set}

-- f 0, f 1 .. f (n - 1), from the place at on
unfoldable pub store_row : {A : Type 0} → List A → ℕ → (ℕ → A) → ℕ → List A
store_row l at f zero = l
store_row l at f (suc n) = set (store_row l at f n) (at + n) (f n)

-- rows of b elements, the first from the place at on and each next one dw further; f y x stands in row y at x
unfoldable pub store_rows : {A : Type 0} → List A → ℕ → ℕ → ℕ → (ℕ → ℕ → A) → ℕ → List A
store_rows l at dw b f zero = l
store_rows l at dw b f (suc y) = store_row (store_rows l at dw b f y) (at + y * dw) (f y) b
