-- RULES O.2: the answers of opening, from those of the questions. Assumes nothing.
use mathlib.Core.Path.{◌≡◌}
use mathlib.Core.List.{List}
use Prim.Native.Nat.{ℕ, ◌≤◌, ◌<◌}
use lib.ListN.{length}
use borrow.Author.Tests.{le-leb, lt-leb}
use Rattle.header.specs.Store.{cleared}
use Rattle.decoder.specs.declared.record.Decoder.{Decoder}
use Rattle.decoder.specs.declared.answers.Opening.TheVariants.{Ready, Refused}
use Rattle.decoder.specs.Record.{fresh, call_result, store_bytes}
use Rattle.decoder.specs.Headers.{refused, passed, check_header, check_store}
use Rattle.decoder.specs.Opening.{opened, opening_from, opening}
use Rattle.bits.specs.Bounds.{longest_stream}

module _ (s l : List ℕ) where
  pub open-1 : longest_stream < length s → call_result (Refused 1) fresh l ≡ opening s l
  unfolding opening
  open-1 h = rw (lt-leb _ _ h)

  module _ (h : length s ≤ longest_stream) (x : Decoder) where
    pub open_no : (n : ℕ) → refused n x ≡ check_store fresh l (check_header s fresh) → call_result (Refused n) x l ≡ opening s l
    unfolding opening opening_from opened
    open_no n e = rw (le-leb _ _ h, ← e)

    pub open-yes : passed x ≡ check_store fresh l (check_header s fresh) → call_result Ready x (cleared (store_bytes x) l) ≡ opening s l
    unfolding opening opening_from opened
    open-yes e = rw (le-leb _ _ h, ← e)
