-- What the views of a record are made of.
use mathlib.Core.Path.{◌≡◌, refl, ap, ◌∙◌}
use mathlib.Core.Bool.{true, false}
use mathlib.Core.List.{List}
use Prim.Native.Nat.{ℕ, ◌≤◌, ◌<◌}
use native.Mathlib.Nat.{mul-le-mul}
use native.Mathlib.Omega.{arith}
use borrow.Author.Tests.{le-leb, lt-leb}
use lib.Ieee.{binary64, of_bits, of_int}
use lib.ListN.{length, replicate}
use Rattle.header.specs.declared.state.Sequence.{Sequence}
use Rattle.header.specs.State.{zero_float, fresh_sequence}
use Rattle.header.specs.Possible.{possible_sequence}
use Rattle.header.proofs.Sizing.{possible-sized}
use Rattle.memory.specs.Fields.{number, number_count, clock_count}
use Rattle.mpeg1.specs.Calls.{zero_clock}
use Rattle.mpeg1.specs.Views.{MacroblockBounds, sequence_unchecked, seen}

-- the constant 0.0
pub zero_is : of_bits binary64 0 ≡ zero_float
unfolding of_bits of_int
zero_is = refl

pub still-is : replicate clock_count (of_bits binary64 0) ≡ zero_clock
still-is = ap (replicate clock_count) zero_is

-- ---- the sequence

pub few : {q : Sequence} → possible_sequence q ≡ true → MacroblockBounds q
few {q} e =
    let z = (possible-sized q e).2 in record { across = z.across; size = omega (arith, z.size, mul-le-mul z.across z.down) }

module _ (n : List ℕ) where
  -- a fresh sequence, and why it is the one seen
  pub none_seen : {q : Sequence} → q ≡ fresh_sequence → fresh_sequence ≡ seen n → (q ≡ seen n) × MacroblockBounds q
  none_seen e f = (e ∙ f, rw e (record { across = omega arith; size = omega arith }))

  pub seen-short : length n < number_count → fresh_sequence ≡ seen n
  unfolding seen
  seen-short h = rw (lt-leb number_count (length n) h)

  module _ (h : number_count ≤ length n) where
    pub seen-flag : 1 < number n 1 → fresh_sequence ≡ seen n
    unfolding seen
    seen-flag f = rw (le-leb number_count (length n) h, lt-leb (number n 1) 1 f)

    module _ (f : number n 1 ≤ 1) where
      pub seen-impossible : possible_sequence (sequence_unchecked n) ≡ false → fresh_sequence ≡ seen n
      unfolding seen
      seen-impossible e = rw (le-leb number_count (length n) h, le-leb (number n 1) 1 f, e)

      pub seen-is : possible_sequence (sequence_unchecked n) ≡ true → sequence_unchecked n ≡ seen n
      unfolding seen
      seen-is e = rw (le-leb number_count (length n) h, le-leb (number n 1) 1 f, e)
