-- The walk through a code table along a sequence of bits, as a function; and that the program's walk is the one along the bits of the stream, those past
-- its end being 0. Assumes nothing.
use mathlib.Core.Path.{◌≡◌, refl, ap, sym, subst, ◌∙◌}
use mathlib.Core.Bool.{Bool, true, false, cond}
use mathlib.Core.List.{List}
use Prim.Native.Nat.{ℕ, zero, suc, ◌+◌, ◌*◌, ◌/◌, ◌%◌, ◌≤◌, ◌<◌}
use native.Mathlib.Decide.{dec_lt}
use native.Mathlib.Nat.{zero-div}
use native.Mathlib.Omega.{arith}
use lib.ListN.{length, get_or, get_or-eq_default}
use lib.IntN.{ℤ, pos, nat_abs}
use lib.Signed.{le_z}
use Rattle.bits.specs.Bits.{bit_at, bits_at, read_at, after_read}
use Rattle.bits.specs.Programs.{bits, loop}
use Rattle.bits.specs.Runs.{RunsAt}
use Rattle.bits.proofs.Bits.{bit_lt}
use Rattle.bits.proofs.Rules.{at_bits, at_call, at-yes, at-no, at_done}
use Rattle.bits.proofs.Programs.{served-got, served-next, refused-got, refused-next}
use Rattle.codes.specs.Walk.{walk_step, walk, vlc}
use Rattle.codes.specs.Standard.{taken}

-- ---- sequences of bits

-- a sequence of bits, as the numbers that its beginnings make: f n is made by the first n bits, the highest first
pub record Bits (f : ℕ → ℕ) : Type 0 where
  pub empty : f 0 ≡ 0
  pub more : (n : ℕ) → f (suc n) / 2 ≡ f n

-- the bits of the stream s from the place a on
pub stream_bits : (s : List ℕ) (a : ℕ) → Bits (bits_at s a)
unfolding bits_at
stream_bits s a = record { empty = refl; more = λ n. omega (arith, bit_lt s (a + n)) }

-- ---- the walk

-- the entry at which a walk ends, and the number of bits that led there
pub record End : Type 0 where
  pub position : ℕ
  pub bits : ℕ

-- the walk from the pair of entries at `at` on, which the first n bits of f led to
abbrev pub follow : List ℤ → (ℕ → ℕ) → ℕ → ℕ → ℕ → End
follow ix f zero at n = record { position = 0; bits = n }
follow ix f (suc fuel) at n =
    let k = at + f (suc n) % 2 in
    cond (le_z (get_or ix k (pos 0)) (pos 0)) (record { position = k; bits = suc n }) (follow ix f fuel (nat_abs (get_or ix k (pos 0))) (suc n))

-- each turn takes a bit
module _ (ix : List ℤ) (f : ℕ → ℕ) where
  turned : (t : Bool) (k n : ℕ) (rest : End) → suc n ≤ rest.bits → suc n ≤ (cond t (record { position = k; bits = suc n }) rest).bits
  turned true k n rest h = omega arith
  turned false k n rest h = h

  pub follow-bits : (fuel at n : ℕ) → n ≤ (follow ix f fuel at n).bits
  follow-bits zero at n = omega arith
  follow-bits (suc fuel) at n =
      let k = at + f (suc n) % 2 in
      let z = get_or ix k (pos 0) in
      omega (arith, turned (le_z z (pos 0)) k n (follow ix f fuel (nat_abs z) (suc n)) (follow-bits fuel (nat_abs z) (suc n)))

  pub follow-some : (fuel at n : ℕ) → 0 < fuel → n < (follow ix f fuel at n).bits
  follow-some zero at n h = omega arith
  follow-some (suc fuel) at n h =
      let k = at + f (suc n) % 2 in
      let z = get_or ix k (pos 0) in
      turned (le_z z (pos 0)) k n (follow ix f fuel (nat_abs z) (suc n)) (follow-bits fuel (nat_abs z) (suc n))

-- ---- single bits of a stream

past-bit : (s : List ℕ) (k : ℕ) → length s * 8 ≤ k → bit_at s k ≡ 0
unfolding bit_at
past-bit s k h = rw (get_or-eq_default s 0 {n = k / 8} (omega arith), zero-div)

pub past-bits : (s : List ℕ) (a n : ℕ) → length s * 8 ≤ a → bits_at s a n ≡ 0
unfolding bits_at
past-bits s a zero h = refl
past-bits s a (suc n) h = omega (arith, past-bits s a n h, past-bit s (a + n) (omega arith))

-- the bit behind n that were read one by one
module _ (s : List ℕ) (a n : ℕ) where
  bit-got : read_at s (taken s a n) 1 ≡ bits_at s a (suc n) % 2
  unfolding bits_at
  bit-got = go (dec_lt (a + n) (length s * 8))
    where
      go : Dec (a + n < length s * 8) → read_at s (taken s a n) 1 ≡ (bits_at s a n * 2 + bit_at s (a + n)) % 2
      go (yes h) =
          let e : taken s a n + 0 ≡ a + n = omega arith in
          served-got s (taken s a n) 1 (omega arith) ∙ omega (arith, ap (bit_at s) e, bit_lt s (a + n))
      go (no h) = refused-got s (taken s a n) 1 (omega arith) ∙ omega (arith, past-bit s (a + n) (omega arith))

  bit-next : after_read s (taken s a n) 1 ≡ taken s a (suc n)
  bit-next = go (dec_lt (a + n) (length s * 8))
    where
      go : Dec (a + n < length s * 8) → after_read s (taken s a n) 1 ≡ taken s a (suc n)
      go (yes h) = served-next s (taken s a n) 1 (omega arith) ∙ omega arith
      go (no h) = refused-next s (taken s a n) 1 (omega arith) ∙ omega arith

-- ---- the program's walk

module _ (ix : List ℤ) (s : List ℕ) (a : ℕ) where
  -- from `at` on, behind n bits, a loop of the walk's turns ends with e
  record Walks (fuel at n : ℕ) (e : End) : Type 0 where
    runs : RunsAt (loop fuel (walk_step ix) 0 at) s (taken s a n) e.position (taken s a e.bits)

  walks : (fuel at n : ℕ) → Walks fuel at n (follow ix (bits_at s a) fuel at n)
  unfolding loop walk_step
  walks zero at n = record { runs = at_done }
  walks (suc fuel) at n = go (le_z (get_or ix k (pos 0)) (pos 0)) refl (walks fuel (nat_abs (get_or ix k (pos 0))) (suc n))
    where
      k : ℕ
      k = at + bits_at s a (suc n) % 2

      bit : RunsAt (bits 1) s (taken s a n) (bits_at s a (suc n) % 2) (taken s a (suc n))
      bit = at_bits (sym (bit-got s a n)) (sym (bit-next s a n))

      go : (t : Bool) → le_z (get_or ix k (pos 0)) (pos 0) ≡ t → {rest : End} → Walks fuel (nat_abs (get_or ix k (pos 0))) (suc n) rest
          → Walks (suc fuel) at n (cond t (record { position = k; bits = suc n }) rest)
      go true h r = record { runs = at_call _ (at_call _ bit (at-yes _ h at_done)) at_done }
      go false h r = record { runs = at_call _ (at_call _ bit (at-no _ h at_done)) r.runs }

  -- how the whole walk ends
  abbrev pub end : End
  end = follow ix (bits_at s a) (length ix) 0 0

  pub walk_end : RunsAt (walk ix) s a end.position (taken s a end.bits)
  unfolding walk
  walk_end =
      let here : taken s a 0 ≡ a = omega arith in
      subst (λ (p : ℕ). RunsAt (loop (length ix) (walk_step ix) 0 0) s p end.position (taken s a end.bits)) here (walks (length ix) 0 0).runs

  pub vlc-end : {A : Type 0} (vs : List A) (d : A) → RunsAt (vlc ix vs d) s a (get_or vs end.position d) (taken s a end.bits)
  unfolding vlc
  vlc-end vs d = at_call _ walk_end at_done
