-- RULES Q, D1.3, D1.4: the numbers of the library's calls, and their questions in the order asked: those of `decoder`, with question 2 of the memory.
use Rattle.std.specs.Prelude.{◌&&◌, List, ◌∷◌, ℕ, leb, length}
use Rattle.demands.specs.ErrorCodes.{opening_error_codes, decode_error_codes, conversion_error_codes}
use Rattle.demands.specs.Checks.{Check, check, check_stream_length, opening_checks, decode_checks, conversion_checks}
use Rattle.memory.specs.Memory.{Memory, record_of, has_room, is_record}
use Rattle.mpeg1.specs.Calls.{picture_count}

-- 0 to 6
abbrev pub host_opening_error_codes : List ℕ
host_opening_error_codes = 0 ∷ 2 ∷ opening_error_codes

-- 0 to 9
abbrev pub host_decode_error_codes : List ℕ
host_decode_error_codes = 0 ∷ decode_error_codes

-- 0, 2, 6, 10, 11
abbrev pub host_conversion_error_codes : List ℕ
host_conversion_error_codes = 0 ∷ conversion_error_codes

-- is there room for a record?
abbrev pub host_opening_checks : List ℕ → List ℕ → Memory → List Check
host_opening_checks s l x = check 2 (has_room x) ∷ opening_checks s l

-- question 1, then: does the memory hold a record, and is there room for a picture's numbers?
abbrev pub host_decode_checks : List ℕ → List ℕ → Memory → List ℕ → List Check
host_decode_checks s l x k = check_stream_length s ∷ check 2 (is_record x && leb picture_count (length k)) ∷ decode_checks (record_of x) s l

-- does the memory hold a record?
abbrev pub host_conversion_checks : List ℕ → Memory → ℕ → List ℕ → ℕ → ℕ → List Check
host_conversion_checks l x k a w h = check 2 (is_record x) ∷ conversion_checks (record_of x) l k a w h
