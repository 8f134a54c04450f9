-- RULES O.4: accepting a header sets the first 1,152 × macroblocks bytes of the store to 0, and later ones stay.
use mathlib.Core.Path.{◌≡◌, refl, subst}
use mathlib.Core.Bool.{false}
use mathlib.Core.List.{List}
use Prim.Native.Nat.{ℕ, ◌≤◌}
use lib.Dec.{leb}
use lib.ListN.{length}
use borrow.Author.Tests.{leb-true}
use Rattle.laws.proofs.Tests.{by-case}
use Rattle.header.specs.Store.{cleared}
use Rattle.decoder.specs.declared.record.Decoder.{Decoder}
use Rattle.decoder.specs.declared.answers.Opening.{Opening}
use Rattle.decoder.specs.declared.answers.Opening.TheVariants as O
use Rattle.decoder.specs.Record.{CallResult, decoding_state_of, fresh, store_bytes}
use Rattle.decoder.specs.Headers.{CheckResult, refused, passed, check_header, check_store}
use Rattle.decoder.specs.Opening.{opened, opening_from, opening}
use Rattle.decoder.specs.Decode.{start_state}
use Rattle.bits.specs.Bounds.{longest_stream}

-- what a call that accepts a header leaves in the store
abbrev Clears : List ℕ → Decoder → List ℕ → Type 0
Clears l d m = (m ≡ cleared (store_bytes d) l) × (store_bytes d ≤ length l)

abbrev ReadyRow : List ℕ → Opening → Decoder → List ℕ → Type 0
ReadyRow l o d m = elim o [ O.Ready ↦ Clears l d m | O.Refused n ↦ Unit {0} ]

abbrev LeftRow : List ℕ → CallResult Opening → Type 0
LeftRow l r = ReadyRow l r.answer r.decoder r.store

store-row : (d : Decoder) (l : List ℕ) (a : CheckResult) → LeftRow l (opened l (check_store d l a))
unfolding opened check_store
store-row d l (refused n x) = tt
store-row d l (passed x) =
    by-case (λ a. LeftRow l (opened l a)) (leb (store_bytes x) (length l)) (λ e. (refl, leb-true (store_bytes x) (length l) e)) (λ e. tt)

-- whatever record opening begins with
from_row : (d : Decoder) (s l : List ℕ) → LeftRow l (opening_from d s l)
unfolding opening_from
from_row d s l = store-row d l (check_header s d)

ready-row : (s l : List ℕ) → LeftRow l (opening s l)
unfolding opening
ready-row s l = by-case (LeftRow l) (leb (length s) longest_stream) (λ e. from_row fresh s l) (λ e. tt)

-- an opening that accepts a header: the store is long enough and cleared
pub opening-clears : (s l : List ℕ) → (opening s l).answer ≡ O.Ready
    → ((opening s l).store ≡ cleared (store_bytes (opening s l).decoder) l) × (store_bytes (opening s l).decoder ≤ length l)
opening-clears s l e = subst (λ (o : Opening). ReadyRow l o (opening s l).decoder (opening s l).store) e (ready-row s l)

-- a hand-out that accepts one
pub begun-clears : (d x : Decoder) (l : List ℕ) → d.sequence.has_sequence_header ≡ false → start_state d x l ≡ decoding_state_of x (cleared (store_bytes x) l)
unfolding start_state
begun-clears d x l h = rw h refl
