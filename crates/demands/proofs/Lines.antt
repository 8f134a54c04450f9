-- RULES L.3: a listing goes on to the first number, and ends with it: by R.1 the calls do not come to the end of its fuel.
use mathlib.Core.Path.{◌≡◌, refl}
use mathlib.Core.List.{List, [], ◌∷◌}
use Prim.Native.Nat.{ℕ, zero, suc, ◌+◌, ◌*◌, ◌/◌, ◌≤◌, ◌<◌}
use native.Mathlib.Omega.{arith}
use lib.Dec.{leb}
use lib.ListN.{length, get_or, replicate}
use borrow.Author.Tests.{leb-true}
use Rattle.bits.specs.Bounds.{longest_stream}
use Rattle.bits.specs.Programs.{stream_fuel}
use Rattle.laws.proofs.Tests.{by-case}
use Rattle.decoder.specs.declared.record.Decoder.{Decoder}
use Rattle.decoder.specs.declared.answers.Opening.{Opening}
use Rattle.decoder.specs.declared.answers.Opening.TheVariants as O
use Rattle.playback.specs.declared.outcome.Outcome.{Outcome}
use Rattle.playback.specs.declared.outcome.Outcome.TheVariants as H
use Rattle.decoder.specs.Answers.{result, number, opening_answer, decode_answer}
use Rattle.decoder.specs.Opening.{opening}
use Rattle.decoder.specs.Run.{CallState, call_state, call, pictures_of_outcome}
use Rattle.decoder.specs.Listing.{Line, line, lines_from, lines_of, listing}
use Rattle.demands.specs.ListingForm.{ListingForm, picture-line, last_line}
use Rattle.demands.proofs.ErrorCodes.{opening_named, decode-error-listed, positive, opening-positive}
use Rattle.demands.proofs.After.{opening-after, decode-after}
use Rattle.demands.proofs.RunCall.{Between, call-on, few}
use Rattle.demands.proofs.Run.{opening-begins}

-- the line of an answer, and those behind it
abbrev lines : ℕ → Outcome → Decoder → List Line → List Line
lines n o d t = elim (decode_answer o) [ result p ↦ line (n + 1) p.store d.state.picture.picture_type 0 ∷ t | number a ↦ line n 0 0 a ∷ [] ]

module _ (s : List ℕ) (most : length s ≤ longest_stream) (bytes : (k : ℕ) → get_or s k 0 < 256) where
  lines-from : (j n : ℕ) (x : CallState) → Between s x n → 8 * length s / 29 + 1 < n + j → ListingForm n (lines_from j s n x.decoder x.store)
  unfolding lines_from
  lines-from zero n x b p = let f = few s most bytes b in let no : ⊥ = omega arith in absurd no
  lines-from (suc j) n x b p =
      go (call s x).answer (call s x).decoder (call s x).store (call-on s most bytes b).0
      (λ a e. positive a (decode-error-listed (decode-after x.decoder s x.store a e)))
      (λ y c. lines-from j (n + 1) y c (omega arith))
    where
      go : (o : Outcome) (d : Decoder) (l : List ℕ) → Between s (call_state d l) (n + pictures_of_outcome o) → ((a : ℕ) → o ≡ H.Refused a → 1 ≤ a)
          → ((y : CallState) → Between s y (n + 1) → ListingForm (n + 1) (lines_from j s (n + 1) y.decoder y.store))
          → ListingForm n (lines n o d (lines_from j s (n + 1) d l))
      go (H.Picture i) d l c q r = picture-line i.store d.state.picture.picture_type (r (call_state d l) c)
      go (H.Refused a) d l c q r = last_line a (q a refl)

  lines-of : (l : List ℕ) → ListingForm 0 (lines_of s (opening s l))
  unfolding lines_of
  lines-of l = go (opening s l).answer (opening s l).decoder (opening s l).store (opening-begins s most bytes l)
      (λ a e. opening-positive a (opening_named (opening-after s l a e).0))
    where
      go : (o : Opening) (d : Decoder) (m : List ℕ) → Between s (call_state d m) 0 → ((a : ℕ) → o ≡ O.Refused a → 1 ≤ a)
          → ListingForm 0 (elim (opening_answer o) [ result y ↦ lines_from stream_fuel s 0 d m | number a ↦ line 0 0 0 a ∷ [] ])
      go O.Ready d m b q = lines-from stream_fuel 0 (call_state d m) b (omega arith)
      go (O.Refused a) d m b q = last_line a (q a refl)

-- RULES L.1 to L.3: of every stream of bytes
pub listing-ends : (s : List ℕ) → ((k : ℕ) → get_or s k 0 < 256) → ListingForm 0 (listing s)
unfolding listing
listing-ends s bytes =
    by-case (ListingForm 0) (leb (length s) 65536)
    (λ e. let h = leb-true (length s) 65536 e in lines-of s (omega arith) bytes (replicate 55296 0)) (λ e. last_line 1 (omega arith))
