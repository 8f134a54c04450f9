-- RULES H: the header edge, wherever the sequence start code is and whatever the bytes around it.
use mathlib.Core.Path.{◌≡◌, refl, sym, ap, ◌∙◌}
use mathlib.Core.Bool.{true, false, true≢false}
use mathlib.Core.List.{List}
use Prim.Native.Nat.{ℕ, ◌+◌, ◌*◌, ◌<◌}
use native.Mathlib.Decide.{dec_lt}
use native.Mathlib.Omega.{arith}
use lib.Dec.{leb}
use lib.IntN.{ℤ, pos}
use lib.ListN.{length, get_or}
use borrow.Author.Tests.{le-leb, lt-leb}
use Rattle.bits.specs.Bits.{Found, boundary, found, has}
use Rattle.bits.specs.Programs.{RunResult, eq_z, find_start_code}
use Rattle.bits.specs.Runs.{RunsAt}
use Rattle.bits.proofs.Start.{Searched, first, none, found-is-first}
use Rattle.bits.proofs.Programs.{served-has, refused-has}
use Rattle.bits.proofs.Rules.{at_find}
use Rattle.decoder.specs.declared.record.Decoder.{Decoder}
use Rattle.decoder.specs.Record.{position, start_code, with_search_result}
use Rattle.playback.specs.Search.{ensure_start_code}
use Rattle.decoder.specs.Headers.{find_sequence}
use Rattle.demands.specs.StartCodes.{SequenceAt}
use Rattle.demands.specs.Checks.{check_sequence_code, check_header_bits}

abbrev at : List ℕ → ℕ → Found
at s p = record { code = pos (get_or s (p + 3) 0); at = (p + 4) * 8 }

abbrev sequence : ℕ → Found
sequence b = record { code = pos 0xb3; at = (b + 4) * 8 }

-- the search finds the first one
found-there : (s : List ℕ) (a b : ℕ) → SequenceAt s a b → found s a ≡ sequence b
found-there s a b k = go (found s a) (found-is-first s a)
  where
    same : (p : ℕ) → p ≡ b → at s p ≡ sequence b
    same p e = ap (at s) e ∙ ap (λ (v : ℕ). record { code = pos v; at = (b + 4) * 8 }) k.code

    go : (f : Found) → Searched s (boundary a) f → f ≡ sequence b
    go f (first p w q) = q ∙ place_of (dec_lt p b) (dec_lt b p)
      where
        place_of : Dec (p < b) → Dec (b < p) → at s p ≡ sequence b
        place_of (yes l) r = absurd (true≢false (sym w.here ∙ k.first.none_before p w.from l))
        place_of (no l) (yes r) = absurd (true≢false (sym k.first.here ∙ w.none_before b k.first.from r))
        place_of (no l) (no r) = same p (omega arith)
    go f (none w q) = absurd (true≢false (sym k.first.here ∙ w b k.first.from k.first.followed))

seeks : (s : List ℕ) (a b : ℕ) → SequenceAt s a b → RunsAt (find_start_code (pos 0xb3)) s a (pos 0xb3) ((b + 4) * 8)
seeks s a b k = at_find (pos 0xb3) (found-there s a b k) refl

module _ (s : List ℕ) (d : Decoder) (b : ℕ) (no_code : eq_z (start_code d) (pos 0xb3) ≡ false) (k : SequenceAt s (position d) b) where
  pub finds : find_sequence s d ≡ with_search_result (pos 0xb3) ((b + 4) * 8) d
  unfolding find_sequence ensure_start_code
  finds = rw no_code (ap (λ (o : RunResult ℤ). with_search_result o.value o.at d) (seeks s (position d) b k).is)

  -- question 3 is answered "yes", and question 4 exactly if 136 bytes are behind the code
  pub edge-code : (check_sequence_code s d).passes ≡ true
  edge-code = rw finds refl

  pub edge-bits : (check_header_bits s d).passes ≡ leb (b + 4 + 136) (length s)
  edge-bits = rw finds (go (dec_lt (length s) (b + 4 + 136)))
    where
      go : Dec (length s < b + 4 + 136) → has s ((b + 4) * 8) 1088 ≡ leb (b + 4 + 136) (length s)
      go (yes h) = refused-has s ((b + 4) * 8) 1088 (omega arith) (omega arith) ∙ sym (lt-leb (b + 4 + 136) (length s) (omega arith))
      go (no h) = served-has s ((b + 4) * 8) 1088 (omega arith) ∙ sym (le-leb (b + 4 + 136) (length s) (omega arith))
