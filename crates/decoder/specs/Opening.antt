-- RULES O: opening. Its answer, the record and every byte of the store, for each stream and each store.
use Rattle.std.specs.Prelude.{List, ℕ, leb, length}
use Rattle.bits.specs.Bounds.{longest_stream}
use Rattle.bits.specs.Programs.{when◌then◌else◌}
use Rattle.header.specs.Store.{cleared}
use Rattle.decoder.specs.declared.record.Decoder.{Decoder}
use Rattle.decoder.specs.declared.answers.Opening.{Opening}
use Rattle.decoder.specs.declared.answers.Opening.TheVariants.{Ready, Refused}
use Rattle.decoder.specs.Record.{fresh, CallResult, call_result, store_bytes}
use Rattle.decoder.specs.Headers.{CheckResult, refused, passed, check_header, check_store}

-- the store becomes 0 where a header is accepted
unfoldable pub opened : List ℕ → CheckResult → CallResult Opening
opened l (refused n x) = call_result (Refused n) x l
opened l (passed x) = call_result Ready x (cleared (store_bytes x) l)

-- RULES O.2: the questions 3, 4, 5, 6, from the record d on
unfoldable pub opening_from : Decoder → List ℕ → List ℕ → CallResult Opening
opening_from d s l = opened l (check_store d l (check_header s d))

-- RULES O.1, O.2: question 1, then from the fresh record on
unfoldable pub opening : List ℕ → List ℕ → CallResult Opening
opening s l = when leb (length s) longest_stream then opening_from fresh s l else call_result (Refused 1) fresh l
