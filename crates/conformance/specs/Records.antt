-- The record that a text holds, in the order of its memory: a number or an integer takes four bytes, and a float is a fraction of two numbers.
use Rattle.std.specs.Prelude.{List, ℕ, ◌+◌, ◌*◌, Float, ℤ, pos, get_or, replicate}
use Rattle.std.specs.Float.{binary64}
use Rattle.std.specs.Float.Ieee.{of_bits}
use Rattle.std.specs.Int.{w32}
use Rattle.std.proofs.Common.{to_z}
use Rattle.laws.specs.Stores.{store_row}
use Rattle.answer_lists.specs.Numbers.{number_at}
use Rattle.memory.specs.Fields.{number_count, integer_count, matrix_count, clock_count}
use Rattle.conformance.specs.Floats.{fraction}

unfoldable pub numbers_in : List ℕ → List ℕ
numbers_in l = store_row (replicate number_count 0) 0 (λ k. number_at l (4 * k)) number_count

-- behind the numbers
unfoldable pub integers_in : List ℕ → List ℤ
integers_in l = store_row (replicate integer_count (pos 0)) 0 (λ k. to_z w32 (number_at l (4 * (number_count + k)))) integer_count

-- behind them
abbrev pub matrices_at : ℕ
matrices_at = 4 * (number_count + integer_count)

unfoldable pub matrices_in : List ℕ → List ℕ
matrices_in l = store_row (replicate matrix_count 0) 0 (λ k. get_or l (matrices_at + k) 0) matrix_count

-- and the clock at the end
abbrev pub clock_at : ℕ
clock_at = matrices_at + matrix_count

abbrev pub float_at : List ℕ → ℕ → Float
float_at l k = fraction (number_at l (clock_at + 8 * k)) (number_at l (clock_at + 8 * k + 4))

unfoldable pub clock_in : List ℕ → List Float
clock_in l = store_row (replicate clock_count (of_bits binary64 0)) 0 (float_at l) clock_count
