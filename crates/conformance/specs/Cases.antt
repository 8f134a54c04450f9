-- How the cases of a file are taken apart.
use Rattle.std.specs.Prelude.{cond, List, ℕ, ◌+◌, ltb, length}
use Rattle.answer_lists.specs.Bytes.{part}
use Rattle.answer_lists.specs.Numbers.{number_at}

-- the text at a place: a number, and as many bytes behind it
unfoldable pub text_at : List ℕ → ℕ → List ℕ
text_at l i = part l (i + 4) (number_at l i)

-- the place behind it; none is behind the end
abbrev pub after_text : List ℕ → ℕ → ℕ
after_text l i = cond (ltb i (length l)) (i + 4 + number_at l i) i
