-- Codes that are read one behind the other, and the sum of their values.
use Rattle.std.specs.Prelude.{cond, List, ℕ, zero, suc, ◌+◌, ◌%◌, ◌^◌, leb, eqb, length}
use Rattle.bits.specs.Bounds.{longest_stream}
use Rattle.bits.specs.Programs.{Prog, done, run, ◌>>=◌, when◌then◌else◌}
use Rattle.codes.specs.Codes.{dct_coeff, macroblock_address_increment}

-- so many codes, and their values added to `sum` modulo 2 ^ 32
unfoldable pub summed : Prog ℕ → ℕ → ℕ → Prog ℕ
summed code zero sum = done sum
summed code (suc n) sum = do
  v ← code
  summed code n ((sum + v) % 2 ^ 32)

-- the code of a table: of coefficients for 0, of increments for any other number
abbrev pub code_of : ℕ → Prog ℕ
code_of table = when eqb table 0 then dct_coeff else macroblock_address_increment

-- `count` codes of a table, from the beginning of the stream on; RULES Q1: 0 for a stream that is too long
unfoldable pub code_sum : List ℕ → ℕ → ℕ → ℕ
code_sum s table count = cond (leb (length s) longest_stream) (run (summed (code_of table) count 0) s 0).value 0
