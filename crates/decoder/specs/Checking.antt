-- What the code's answers to the questions 3 to 6 say in the terms of specs/Headers.antt.
use Rattle.std.specs.Prelude.{◌≡◌, List, ℕ, ◌≤◌, length, Option, Some, None}
use Rattle.decoder.specs.declared.record.Decoder.{Decoder}
use Rattle.decoder.specs.declared.headers.CheckResult as Code
use Rattle.decoder.specs.declared.headers.HeaderRefusal.{HeaderRefusal}
use Rattle.decoder.specs.declared.headers.HeaderRefusal.TheVariants.{NoSequence, CutHeader, EmptySize, SmallStore}
use Rattle.decoder.specs.Record.{store_bytes}
use Rattle.decoder.specs.Headers.{CheckResult, refused, passed, check_store}
use Rattle.decoder.specs.Fit.{Fit}

-- RULES Q3 to Q6: the number of a "no" of the code
abbrev pub refusal_number : HeaderRefusal → ℕ
refusal_number NoSequence = 3
refusal_number CutHeader = 4
refusal_number EmptySize = 5
refusal_number SmallStore = 6

-- with none the call goes on
abbrev pub check_result : Option HeaderRefusal → Decoder → CheckResult
check_result None x = passed x
check_result (Some r) x = refused (refusal_number r) x

-- RULES Q6: the question of a store with this many bytes, whatever they are; and what the call can go on with
pub record RefinesCheckStore (d : Decoder) (room : ℕ) (before r : Code.CheckResult) : Type 0 where
  pub is : (l : List ℕ) → length l ≡ room → check_result r.refusal r.decoder ≡ check_store d l (check_result before.refusal before.decoder)
  pub fit : r.refusal ≡ None → Fit r.decoder
  pub enough : r.refusal ≡ None → store_bytes r.decoder ≤ room
