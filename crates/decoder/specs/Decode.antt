-- RULES part 8, Q: `decode` (RULES: the hand-out). Its answer, the record and every byte of the store, for each record, stream and store.
use Rattle.std.specs.Prelude.{not, List, ℕ, eqb, leb, length}
use Rattle.bits.specs.Bounds.{longest_stream}
use Rattle.bits.specs.Programs.{when◌then◌else◌}
use Rattle.header.specs.Store.{cleared}
use Rattle.decoder.specs.declared.record.Decoder.{Decoder}
use Rattle.playback.specs.declared.outcome.Outcome.{Outcome}
use Rattle.playback.specs.declared.outcome.Outcome.TheVariants.{Refused}
use Rattle.playback.specs.Steps.{DecodingState, LoopEnd, finished, aborted, pictures}
use Rattle.decoder.specs.Record.{with_stop, decoding_state_of, with_decoding_state, CallResult, call_result, store_bytes}
use Rattle.decoder.specs.Possible.{possible_with}
use Rattle.decoder.specs.Headers.{CheckResult, refused, passed, check_header, check_store}

-- RULES 8.14: the end of the turns, of a call that was given d and came to them with x; after 8 or 9 the record is d with the stop mark
unfoldable pub call_result_of : Decoder → Decoder → LoopEnd → CallResult Outcome
call_result_of d x (finished o y) = call_result o (with_decoding_state x y) y.store
call_result_of d x (aborted n l) = call_result (Refused n) (with_stop n d) l

-- RULES 8.1, Q: the questions 3, 4, 5 while no header is accepted, then 6
unfoldable pub check_header_and_store : List ℕ → Decoder → List ℕ → CheckResult
check_header_and_store s d l = check_store d l (when d.sequence.has_sequence_header then passed d else check_header s d)

-- RULES O.4: a header that this call has accepted sets the store to 0
unfoldable pub start_state : Decoder → Decoder → List ℕ → DecodingState
start_state d x l = decoding_state_of x (when d.sequence.has_sequence_header then l else cleared (store_bytes x) l)

-- RULES Q, part 8: a "no" ends the call and leaves the store; else the pictures follow
unfoldable pub after_checks : List ℕ → Decoder → List ℕ → CheckResult → CallResult Outcome
after_checks s d l (refused n x) = call_result (Refused n) x l
after_checks s d l (passed x) = call_result_of d x (pictures s x.sequence.sizes x.sequence.matrices (start_state d x l))

-- RULES Q, QA: the questions 1 and 2, the stop mark, and the others
unfoldable pub decode : Decoder → List ℕ → List ℕ → CallResult Outcome
decode d s l =
    when not (leb (length s) longest_stream) then call_result (Refused 1) d l
    else when not (possible_with s d) then call_result (Refused 2) d l
    else when not (eqb d.stop 0) then call_result (Refused d.stop) d l
    else after_checks s d l (check_header_and_store s d l)
