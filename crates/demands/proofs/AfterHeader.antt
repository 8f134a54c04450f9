-- RULES Q3, Q4, Q5, QG: what the questions on the sequence header leave, whole.
use mathlib.Core.Path.{◌≡◌, refl, sym, ap, ◌∙◌}
use mathlib.Core.Bool.{Bool, true, false, cond, not, ◌||◌, true≢false}
use mathlib.Core.List.{List}
use mathlib.Core.Logic.{◌⊎◌, inl, inr}
use Prim.Native.Nat.{ℕ, ◌+◌, ◌-◌, ◌*◌, ◌≤◌}
use native.Mathlib.Omega.{arith}
use lib.Dec.{eqb}
use lib.IntN.{ℤ, pos, negsuc}
use lib.ListN.{length}
use borrow.Author.Tests.{eqb-true, leb-true, leb-false}
use Rattle.bits.specs.Bounds.{longest_stream}
use Rattle.bits.specs.Bits.{has, bits_at}
use Rattle.bits.specs.Programs.{RunResult, run, bind, eq_z, find_start_code}
use Rattle.bits.proofs.Programs.{served-got, served-next}
use Rattle.laws.proofs.Tests.{by-case}
use Rattle.header.specs.Sequences.{size}
use Rattle.decoder.specs.declared.record.Decoder.{Decoder}
use Rattle.playback.specs.State as S
use Rattle.playback.specs.Search.{ensure_start_code}
use Rattle.decoder.specs.Record.{position, start_code, state_as, with_search_result}
use Rattle.decoder.specs.Headers.{CheckResult, refused, passed, find_sequence, check_size, check_header}
use Rattle.playback.proofs.Searches.{eq_z-is}
use Rattle.demands.specs.StartCodes.{NoneFound}
use Rattle.demands.specs.Checks.{with_size, with_header}
use Rattle.demands.specs.After.{AtSequenceCode, already-there, found-by_search, AfterHeader, after-3, after-4, after-5}
use Rattle.demands.proofs.Codes.{SearchEnd, with_code, with_none, search-end}

-- ---- the search

pub data Finds (s : List ℕ) (d : Decoder) : Decoder → Type 0 where
  a-code : {x : Decoder} → AtSequenceCode s d x → Finds s d x
  no_code : {e : ℕ} → (start_code d ≡ pos 0xb3 → ⊥) → NoneFound s 0xb3 (position d) e → Finds s d (with_search_result (negsuc 0) e d)

pub find-sequence : (s : List ℕ) (d : Decoder) → length s ≤ longest_stream → Finds s d (find_sequence s d)
unfolding find_sequence ensure_start_code
find-sequence s d h = go (eq_z (start_code d) (pos 0xb3)) refl (run (find_start_code (pos 0xb3)) s (position d)) (search-end s 0xb3 (position d) h)
  where
    searches : eq_z (start_code d) (pos 0xb3) ≡ false → start_code d ≡ pos 0xb3 → ⊥
    searches e c = true≢false (sym (ap (λ (k : ℤ). eq_z k (pos 0xb3)) c) ∙ e)

    go : (b : Bool) → eq_z (start_code d) (pos 0xb3) ≡ b → (o : RunResult ℤ) → SearchEnd s 0xb3 (position d) o
        → Finds s d (state_as (cond b d.state (S.with_search_result o.value o.at d.state)) d)
    go true e o k = a-code (already-there (eq_z-is (start_code d) (pos 0xb3) e))
    go false e o (with_code v k) = rw v (a-code (found-by_search (searches e) k))
    go false e o (with_none v k) = rw v (no_code (searches e) k)

pub at_code : {s : List ℕ} {d x : Decoder} → AtSequenceCode s d x → start_code x ≡ pos 0xb3
at_code (already-there e) = e
at_code (found-by_search n k) = refl

-- ---- width and height

pub size-read : (s : List ℕ) (a : ℕ) → a + 24 ≤ length s * 8
    → run size s a ≡ record { value = record { width = bits_at s a 12; height = bits_at s (a + 12) 12 }; at = a + 24 }
unfolding size run bind
size-read s a h =
    let e : a + 12 + 12 ≡ a + 24 = omega arith in
    rw (served-got s a 12 (omega arith), served-next s a 12 (omega arith), served-got s (a + 12) 12 (omega arith), served-next s (a + 12) 12 (omega arith), e)

or-zero : (m n : ℕ) → (eqb m 0 || eqb n 0) ≡ true → (m ≡ 0) ⊎ (n ≡ 0)
or-zero m n = go (eqb m 0) refl
  where
    go : (b : Bool) → eqb m 0 ≡ b → (b || eqb n 0) ≡ true → (m ≡ 0) ⊎ (n ≡ 0)
    go true e h = inl (eqb-true m 0 e)
    go false e h = inr (eqb-true n 0 h)

-- ---- what is left

abbrev pub CheckAfter : List ℕ → Decoder → CheckResult → Type 0
CheckAfter s d (refused n x) = AfterHeader s d n x
CheckAfter s d (passed x) = Unit {0}

size-after : (s : List ℕ) (d x : Decoder) → AtSequenceCode s d x → position x + 1088 ≤ length s * 8 → CheckAfter s d (check_size s x)
unfolding check_size
size-after s d x k h =
    rw (size-read s (position x) (omega arith))
    (by-case (CheckAfter s d) (eqb (bits_at s (position x) 12) 0 || eqb (bits_at s (position x + 12) 12) 0)
    (λ e. after-5 k h (or-zero (bits_at s (position x) 12) (bits_at s (position x + 12) 12) e)) (λ e. tt))

pub header-after : (s : List ℕ) (d : Decoder) → length s ≤ longest_stream → CheckAfter s d (check_header s d)
unfolding check_header
header-after s d h = go (find_sequence s d) (find-sequence s d h)
  where
    code : {x : Decoder} → AtSequenceCode s d x
        → CheckAfter s d (cond (eq_z (start_code x) (negsuc 0)) (refused 3 x) (cond (not (has s (position x) 1088)) (refused 4 x) (check_size s x)))
    code {x} k =
        let found : eq_z (start_code x) (negsuc 0) ≡ false = ap (λ (c : ℤ). eq_z c (negsuc 0)) (at_code k) in
        rw found (go (has s (position x) 1088) refl)
      where
        go : (b : Bool) → has s (position x) 1088 ≡ b → CheckAfter s d (cond (not b) (refused 4 x) (check_size s x))
        go true e = size-after s d x k (omega (arith, leb-true 1088 (length s * 8 - position x) e))
        go false e = after-4 k (omega (arith, leb-false 1088 (length s * 8 - position x) e))

    go : (x : Decoder) → Finds s d x
        → CheckAfter s d (cond (eq_z (start_code x) (negsuc 0)) (refused 3 x) (cond (not (has s (position x) 1088)) (refused 4 x) (check_size s x)))
    go x (a-code k) = code k
    go x (no_code n k) = after-3 n k

-- the record of a header that is accepted
abbrev pub IsHeaded : List ℕ → Decoder → CheckResult → Type 0
IsHeaded s d (refused n x) = Unit {0}
IsHeaded s d (passed x) = x ≡ with_header s d

pub header-passed : (s : List ℕ) (d : Decoder) → IsHeaded s d (check_header s d)
unfolding check_header check_size
header-passed s d =
    by-case (IsHeaded s d) (eq_z (start_code (find_sequence s d)) (negsuc 0)) (λ e. tt) (λ e.
    by-case (IsHeaded s d) (not (has s (position (find_sequence s d)) 1088)) (λ e. tt) (λ e.
    by-case (IsHeaded s d) (eqb (with_size s d).sequence.width 0 || eqb (with_size s d).sequence.height 0) (λ e. tt) (λ e. refl)))
