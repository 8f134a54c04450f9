-- An opening that accepts a header leaves a record from which the standard's pictures begin. Assumes nothing.
use mathlib.Core.Path.{◌≡◌, refl, subst}
use mathlib.Core.Bool.{false, cond, not, ◌||◌}
use mathlib.Core.List.{List}
use Prim.Native.Nat.{ℕ, ◌*◌, ◌≤◌}
use lib.Dec.{eqb, leb}
use lib.IntN.{ℤ, pos, negsuc}
use lib.ListN.{length}
use borrow.Author.Tests.{leb-true}
use Rattle.laws.proofs.Tests.{by-case}
use Rattle.bits.specs.Bounds.{longest_stream}
use Rattle.bits.specs.Bits.{has}
use Rattle.bits.specs.Programs.{RunResult, run, eq_z, find_start_code}
use Rattle.standard.specs.Standard.State.{zero-vector}
use Rattle.header.specs.Store.{cleared}
use Rattle.header.specs.Sequences.{size}
use Rattle.decoder.specs.declared.record.Decoder.{Decoder}
use Rattle.decoder.specs.declared.answers.Opening.{Opening}
use Rattle.decoder.specs.declared.answers.Opening.TheVariants as O
use Rattle.playback.specs.State.{fresh_state}
use Rattle.playback.specs.Search.{ensure_start_code}
use Rattle.decoder.specs.Record.{CallResult, fresh, decoding_state_of, position, with_search_result, store_bytes}
use Rattle.decoder.specs.Headers.{CheckResult, refused, passed, find_sequence, accepted, check_size, check_header, check_store}
use Rattle.decoder.specs.Opening.{opened, opening_from, opening}
use Rattle.playback.proofs.Searches.{Sought, hit, miss, sought}
use Rattle.demands.proofs.Keeps.{Keeps}
use Rattle.demands.proofs.RunCall.{accepted-keeps}
use Rattle.demands.proofs.Waiting.{Accepts, fresh-waits, header_accepts}
use Rattle.sequence.specs.Sequence.{initial_state}
use Rattle.sequence.proofs.Steps.{Waiting}

-- with the store l
abbrev pub Starting : Decoder → List ℕ → Type 0
Starting d l =
    Waiting (initial_state l) (position d) (decoding_state_of d l)
    × (d.sequence.sizes.mb_size ≡ d.sequence.sizes.mb_width * d.sequence.sizes.mb_height)

abbrev Checks : CheckResult → Type 0
Checks (refused n x) = Unit {0}
Checks (passed x) = (l : List ℕ) → Starting x l

size_checks : (s : List ℕ) (e : ℕ) → Checks (check_size s (with_search_result (pos 0xb3) e fresh))
unfolding check_size accepted fresh fresh_state
size_checks s e =
    let w = (run size s e).value.width in
    let v = (run size s e).value.height in
    by-case Checks (eqb w 0 || eqb v 0) (λ z. tt) (λ z l. (
      record {
        position = refl;
        code = refl;
        stores = refl;
        begun = record { for_set = false; back_set = false; for = zero-vector; back = zero-vector; forward = refl; backward = refl };
        left = refl;
        has_reference_frame = refl;
        pels = refl;
      },
      refl,
    ))

header-asks : (s : List ℕ) → length s ≤ longest_stream → Checks (check_header s fresh)
unfolding check_header find_sequence ensure_start_code fresh fresh_state
header-asks s h = go (run (find_start_code (pos 0xb3)) s 0) (sought (pos 0xb3) s 0 h)
  where
    go : (o : RunResult ℤ) → Sought (pos 0xb3) s 0 o
        → Checks (
        let x = with_search_result o.value o.at fresh in
        cond (eq_z o.value (negsuc 0)) (refused 3 x) (cond (not (has s o.at 1088)) (refused 4 x) (check_size s x)))
    go o (hit x y z) = rw x (by-case Checks (not (has s o.at 1088)) (λ e. tt) (λ e. size_checks s o.at))
    go o (miss x y) = rw x tt

-- what an opening that accepts a header leaves
pub record Readied (s : List ℕ) (d : Decoder) (l : List ℕ) : Type 0 where
  pub short : length s ≤ longest_stream
  pub keeps : Keeps s d l
  pub starting : Starting d l

abbrev IfReady : List ℕ → Opening → Decoder → List ℕ → Type 0
IfReady s o d l = elim o [ O.Ready ↦ Readied s d l | O.Refused n ↦ Unit {0} ]

abbrev Opens : List ℕ → CallResult Opening → Type 0
Opens s r = IfReady s r.answer r.decoder r.store

store-opens : (s l : List ℕ) (a : CheckResult) → length s ≤ longest_stream → Accepts s a → Checks a → Opens s (opened l (check_store fresh l a))
unfolding opened check_store
store-opens s l (refused n x) h j k = tt
store-opens s l (passed x) h j k =
    by-case (λ a. Opens s (opened l a)) (leb (store_bytes x) (length l))
    (λ e. record { short = h; keeps = accepted-keeps s h l j e; starting = k (cleared (store_bytes x) l) }) (λ e. tt)

opens : (s l : List ℕ) → Opens s (opening s l)
unfolding opening opening_from
opens s l =
    by-case (Opens s) (leb (length s) longest_stream)
    (λ e. let h = leb-true (length s) longest_stream e in store-opens s l (check_header s fresh) h
    (header_accepts (fresh-waits s) h) (header-asks s h)) (λ e. tt)

pub readied : (s l : List ℕ) → (opening s l).answer ≡ O.Ready → Readied s (opening s l).decoder (opening s l).store
readied s l e = subst (λ (o : Opening). IfReady s o (opening s l).decoder (opening s l).store) e (opens s l)
