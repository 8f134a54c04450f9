-- The text of the listing while the calls go on.
use mathlib.Core.Path.{◌≡◌, refl, sym, ap, subst, ◌∙◌}
use mathlib.Core.List.{List, [], ◌∷◌, ◌++◌, append_assoc, append-nil}
use Prim.Native.Nat.{ℕ, suc, ◌+◌, ◌-◌, ◌*◌, ◌≤◌, ◌<◌}
use native.Mathlib.Omega.{arith}
use borrow.Author.Tests.{le-leb, lt-leb}
use lib.ListN.{length, get_or, replicate}
use Rattle.io.specs.Counts.{IsPrefixLen}
use Rattle.bits.specs.Programs.{stream_fuel}
use Rattle.decoder.specs.declared.record.Decoder.{Decoder}
use Rattle.playback.specs.declared.outcome.{Shown.Shown, Outcome.Outcome}
use Rattle.decoder.specs.declared.answers.Opening.{Opening}
use Rattle.decoder.specs.declared.answers.Opening.TheVariants as O
use Rattle.playback.specs.declared.outcome.Outcome.TheVariants as H
use Rattle.decoder.specs.Record.{CallResult, call_result}
use Rattle.decoder.specs.Answers.{result, number, decode_answer}
use Rattle.decoder.specs.Opening.{opening}
use Rattle.decoder.specs.Decode.{decode}
use Rattle.decoder.specs.Run.{call_state, state_after, pictures_of_outcome}
use Rattle.decoder.specs.Listing.{Line, line, lines_from, lines_of, listing}
use Rattle.demands.proofs.RunCall.{Between, call-on, few}
use Rattle.demands.proofs.Run.{opening-begins}
use Rattle.listing.specs.Text.{Wrote, Opens, line_text, lines_text, names, listing_text}
use Rattle.listing.proofs.Writing.{wrote_on, wrote-length, wrote-take}

-- ---- the whole

-- the lines are written behind the names, and what is written is the beginning of the page
pub wrote-listing : (s : List ℕ) {page one two : List ℕ} {at next : ℕ} → Wrote page 0 names one at → Wrote one at (lines_text (listing s)) two next
    → next ≤ length page → Wrote page 0 (listing_text s) two next × IsPrefixLen next two
unfolding listing_text
wrote-listing s {page} {one} {two} {at} {next} x y h =
    let w = wrote_on x y in
    let e = wrote-take h w in
    let p : next ≡ length (names ++ lines_text (listing s)) = w.position ∙ omega arith in
    (w, (omega (arith, wrote-length w), p ∙ ap length (sym e)))

-- ---- one line

pub one_line : {page after : List ℕ} {at next : ℕ} (s : List ℕ) (x : Line) → listing s ≡ x ∷ [] → Wrote page at (line_text x) after next
    → Wrote page at (lines_text (listing s)) after next
unfolding lines_text
one_line {page} {after} {at} {next} s x e w =
    subst (λ (t : List ℕ). Wrote page at t after next) (sym (ap lines_text e ∙ append-nil (line_text x))) w

-- RULES L.1: a stream that is too long
pub long-listed : (s : List ℕ) → 65536 < length s → listing s ≡ line 0 0 0 1 ∷ []
unfolding listing
long-listed s h = rw (lt-leb (length s) 65536 h) refl

-- what opening leaves
opened-lines : (s : List ℕ) (x : CallResult Opening) → length s ≤ 65536 → x ≡ opening s (replicate 55296 0) → listing s ≡ lines_of s x
unfolding listing
opened-lines s x h e = rw (le-leb (length s) 65536 h) (ap (lines_of s) (sym e))

-- RULES L.3: refused by opening
pub refused-listed : (s : List ℕ) (d : Decoder) (l : List ℕ) (a : ℕ) → length s ≤ 65536 → call_result (O.Refused a) d l ≡ opening s (replicate 55296 0)
    → listing s ≡ line 0 0 0 a ∷ []
unfolding lines_of
refused-listed s d l a h e = opened-lines s (call_result (O.Refused a) d l) h e

-- ---- the calls

-- the lines from a call on, which left x
abbrev lines : ℕ → ℕ → List ℕ → CallResult Outcome → List Line
lines k n s x = elim (decode_answer x.answer) [
  | result p ↦ line (n + 1) p.store x.decoder.state.picture.picture_type 0 ∷ lines_from k s (n + 1) x.decoder x.store
  | number answer ↦ line n 0 0 answer ∷ []
]

lines_are : (k n : ℕ) (s l : List ℕ) (d : Decoder) (x : CallResult Outcome) → x ≡ decode d s l → lines_from (suc k) s n d l ≡ lines k n s x
unfolding lines_from
lines_are k n s l d x e = ap (lines k n s) (sym e)

-- n pictures are listed, and the others follow
pub record Listed (s page₀ : List ℕ) (at₀ : ℕ) (page : List ℕ) (at : ℕ) (l : List ℕ) (d : Decoder) (n : ℕ) : Type 0 where
  pub short : length s ≤ 65536
  pub bytes : (k : ℕ) → get_or s k 0 < 256
  pub run : Between s (call_state d l) n
  pub long : length page ≡ length page₀
  pub position : at ≤ 25 + 84 * n
  pub so_far : List ℕ
  pub wrote : Wrote page₀ at₀ so_far page at
  pub whole : so_far ++ lines_text (lines_from (stream_fuel - n) s n d l) ≡ lines_text (listing s)

module _ {s page₀ : List ℕ} {at₀ : ℕ} {page : List ℕ} {at : ℕ} {l : List ℕ} {d : Decoder} {n : ℕ} (h : Listed s page₀ at₀ page at l d n) where
  -- RULES R.1
  pub listed-few : n ≤ 18079
  listed-few = let x = h.short in let y = few s (omega arith) h.bytes h.run in omega arith

  more : stream_fuel - n ≡ suc (stream_fuel - (n + 1))
  more = let f = listed-few in omega arith

  following : (x : CallResult Outcome) → x ≡ decode d s l → h.so_far ++ lines_text (lines (stream_fuel - (n + 1)) n s x) ≡ lines_text (listing s)
  following x q =
      ap (λ (k : List Line). h.so_far ++ lines_text k) (sym (ap (λ (k : ℕ). lines_from k s n d l) more ∙ lines_are (stream_fuel - (n + 1)) n s l d x q))
      ∙ h.whole

  pub listed-end : {after : List ℕ} {next : ℕ} (a : ℕ) (e : Decoder) (m : List ℕ) → call_result (H.Refused a) e m ≡ decode d s l
      → Wrote page at (line_text (line n 0 0 a)) after next → Wrote page₀ at₀ (lines_text (listing s)) after next
  unfolding lines_text
  listed-end {after} {next} a e m q w =
      subst (λ (t : List ℕ). Wrote page₀ at₀ t after next)
      (ap (λ (t : List ℕ). h.so_far ++ t) (sym (append-nil (line_text (line n 0 0 a)))) ∙ following (call_result (H.Refused a) e m) q)
      (wrote_on h.wrote w)

  pub listed-one : {after : List ℕ} {next : ℕ} (i : Shown) (e : Decoder) (m : List ℕ) → call_result (H.Picture i) e m ≡ decode d s l
      → Wrote page at (line_text (line (n + 1) i.store e.state.picture.picture_type 0)) after next → next ≤ at + 84
      → Listed s page₀ at₀ after next m e (n + 1)
  unfolding lines_text
  listed-one {after} {next} i e m q w z =
      let x = h.short in
      let y = h.position in
      record {
        short = h.short;
        bytes = h.bytes;
        run = subst (λ (r : CallResult Outcome). Between s (state_after r) (n + pictures_of_outcome r.answer)) (sym q)
            (call-on s (omega arith) h.bytes h.run).0;
        long = wrote-length w ∙ h.long;
        position = omega arith;
        so_far = h.so_far ++ line_text (line (n + 1) i.store e.state.picture.picture_type 0);
        wrote = wrote_on h.wrote w;
        whole = append_assoc h.so_far _ _ ∙ following (call_result (H.Picture i) e m) q;
      }

pub listed-first : {s page₀ : List ℕ} {at : ℕ} (l : List ℕ) (d : Decoder) → length s ≤ 65536 → ((k : ℕ) → get_or s k 0 < 256)
    → Opens s d l → at ≤ 25 → Listed s page₀ at page₀ at l d 0
unfolding lines_of
listed-first {s} {page₀} {at} l d h b e p = record {
  short = h;
  bytes = b;
  run =
      subst (λ (r : CallResult Opening). Between s (call_state r.decoder r.store) 0) (sym e)
      (opening-begins s (omega arith) b (replicate 55296 0));
  long = refl;
  position = omega arith;
  so_far = [];
  wrote = record { bytes = refl; position = omega arith };
  whole = ap lines_text (sym (opened-lines s (call_result O.Ready d l) h e));
}
