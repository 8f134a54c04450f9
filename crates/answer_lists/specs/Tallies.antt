-- How many cases agree.
use Rattle.std.specs.Prelude.{ℕ, ◌+◌, Bool, cond, ltb, Some, None}
use Rattle.std.specs.Option.{option_or}
use Rattle.answer_lists.specs.declared.tally.Tally.{Tally}

-- one more; a counter stops at 2^32 - 1
unfoldable pub more : ℕ → ℕ
more n = cond (ltb n 4294967295) (n + 1) n

abbrev pub none : Tally
none = record { cases = 0; agreed = 0; first = None }

-- one case more, which agrees or not
abbrev pub counted : Tally → Bool → Tally
counted t b =
    record {
      cases = more t.cases;
      agreed = cond b (more t.agreed) t.agreed;
      first = cond b t.first (option_or t.first (Some (more t.cases)));
    }
