-- For RULES R: a record with no header, as the fresh one. A call that is given it leaves such a record again, or accepts a header.
use mathlib.Core.Path.{◌≡◌, refl, sym, ap, ◌∙◌}
use mathlib.Core.Bool.{Bool, true, false, cond, not, ◌&&◌, ◌||◌, true≢false}
use mathlib.Core.List.{List}
use Prim.Native.Nat.{ℕ, zero, suc, ◌*◌, ◌≤◌}
use native.Mathlib.Omega.{arith}
use lib.Dec.{eqb, leb}
use lib.IntN.{ℤ, pos, negsuc, nat_abs}
use lib.ListN.{length}
use borrow.Author.Tests.{le-leb, eq-eqb}
use Rattle.bits.specs.Bounds.{longest_stream}
use Rattle.bits.specs.Bits.{has, read_at, after_read}
use Rattle.bits.specs.Programs.{run, bind, eq_z, find_start_code}
use Rattle.bits.proofs.Bits.{bits_lt}
use Rattle.bits.proofs.Programs.{run-most}
use Rattle.laws.proofs.Tests.{by-case}
use Rattle.picture_state.specs.declared.types.{Sizes.Sizes, Picture.Picture}
use Rattle.picture_state.specs.State.{with_stores, first_stores}
use Rattle.codes.specs.Matrices.{bounded}
use Rattle.picture_state.specs.Possible.{possible_picture}
use Rattle.picture_state.proofs.Possible.{stores-of, picture-of, picture-by}
use Rattle.header.specs.Possible.{across, sizes_of, same_sizes, possible_sequence}
use Rattle.header.specs.Sequences.{size, rest}
use Rattle.playback.specs.declared.state.State.{State}
use Rattle.playback.specs.State as S
use Rattle.playback.specs.State.{has_reference_frame, frames, fresh_state, possible_display}
use Rattle.playback.proofs.Displays.{timed-possible}
use Rattle.playback.specs.Search.{ensure_start_code}
use Rattle.decoder.specs.declared.record.Decoder.{Decoder}
use Rattle.decoder.specs.Record.{fresh, position, start_code, with_search_result, store_bytes}
use Rattle.decoder.specs.Headers.{CheckResult, refused, passed, find_sequence, accepted, check_size, check_header}
use Rattle.decoder.proofs.Starts.{fresh-starts}
use Rattle.demands.specs.After.{already-there, found-by_search}
use Rattle.demands.proofs.AfterHeader.{Finds, a-code, no_code, find-sequence, at_code}
use Rattle.demands.proofs.Keeps.{Keeps, code-possible}

abbrev no_sizes : Sizes
no_sizes = record { mb_width = 0; mb_height = 0; mb_size = 0 }

-- no header is accepted, nothing is held or handed out, there is no stop mark
pub record Waits (s : List ℕ) (d : Decoder) : Type 0 where
  pub header : d.sequence.has_sequence_header ≡ false
  pub width : d.sequence.width ≤ 4095
  pub height : d.sequence.height ≤ 4095
  pub sizes : same_sizes d.sequence.sizes no_sizes ≡ true
  pub picture : possible_picture d.state.picture ≡ true
  pub block : bounded d.block_data ≡ true
  pub mark : d.stop ≡ 0
  pub inside : position d ≤ length s * 8
  pub display : possible_display d.state.display ≡ true
  pub count : frames d.state ≡ 0
  pub has_reference_frame : has_reference_frame d.state ≡ false

pub fresh-waits : (s : List ℕ) → Waits s fresh
unfolding fresh fresh_state
fresh-waits s = record {
  header = refl;
  width = omega arith;
  height = omega arith;
  sizes = refl;
  picture = fresh-starts.picture;
  block = fresh-starts.block;
  mark = refl;
  inside = omega arith;
  display = fresh-starts.display;
  count = refl;
  has_reference_frame = refl;
}

pub waits-sequence : {s : List ℕ} {d : Decoder} → Waits s d → possible_sequence d.sequence ≡ true
waits-sequence {s} {d} k = rw (le-leb d.sequence.width 4095 k.width, le-leb d.sequence.height 4095 k.height, k.header, k.sizes)

-- ---- the search

module _ {s : List ℕ} {d : Decoder} (k : Waits s d) where
  searched-waits : (c : ℤ) (e : ℕ) → possible_picture (with_search_result c e d).state.picture ≡ true → e ≤ length s * 8 → Waits s (with_search_result c e d)
  searched-waits c e h m = record {
    header = k.header;
    width = k.width;
    height = k.height;
    sizes = k.sizes;
    picture = h;
    block = k.block;
    mark = k.mark;
    inside = m;
    display = k.display;
    count = k.count;
    has_reference_frame = k.has_reference_frame;
  }

  find-inside : position (find_sequence s d) ≤ length s * 8
  unfolding find_sequence ensure_start_code
  find-inside =
      by-case (λ (x : State). S.position x ≤ length s * 8) (eq_z (start_code d) (pos 0xb3)) (λ e. k.inside)
      (λ e. run-most (find_start_code (pos 0xb3)) s (position d) (length s) k.inside (omega arith))

  found-waits : {x : Decoder} → Finds s d x → position x ≤ length s * 8 → Waits s x
  found-waits (a-code (already-there e)) i = k
  found-waits (a-code (found-by_search n c)) i = searched-waits (pos 0xb3) _ (code-possible (pos 0xb3) d.state.picture refl k.picture) i
  found-waits (no_code n c) i = searched-waits (negsuc 0) _ (code-possible (negsuc 0) d.state.picture refl k.picture) i

-- ---- width and height: numbers of 12 bits (RULES O.3)

twelve : (s : List ℕ) (a : ℕ) → read_at s a 12 ≤ 4095
unfolding read_at
twelve s a = by-case (λ n. n ≤ 4095) (has s a 12) (λ e. omega (arith, bits_lt s a 12)) (λ e. omega arith)

size_small : (s : List ℕ) (a : ℕ) → ((run size s a).value.width ≤ 4095) × ((run size s a).value.height ≤ 4095)
unfolding size run bind
size_small s a = (twelve s a, twelve s (after_read s a 12))

or_split : (a b : Bool) → (a || b) ≡ false → (a ≡ false) × (b ≡ false)
or_split true b h = absurd (true≢false h)
or_split false b h = (refl, h)

sequence-first : (w h : ℕ) → w ≤ 4095 → h ≤ 4095 → 1 ≤ w → 1 ≤ h
    → (leb w 4095 && leb h 4095 && (leb 1 w && leb 1 h && same_sizes (sizes_of w h) (sizes_of w h))) ≡ true
sequence-first w h a b c d =
    rw (le-leb w 4095 a, le-leb h 4095 b, le-leb 1 w c, le-leb 1 h d, same (across w), same (across h), same (across w * across h))
  where
    same : (n : ℕ) → eqb n n ≡ true
    same n = eq-eqb n n refl

-- ---- a header

-- a record whose header has just been accepted
pub record Accepted (s : List ℕ) (d : Decoder) : Type 0 where
  pub keeps : (l : List ℕ) → store_bytes d ≤ length l → Keeps s d l
  pub count : frames d.state ≡ 0
  pub has_reference_frame : has_reference_frame d.state ≡ false

abbrev pub Accepts : List ℕ → CheckResult → Type 0
Accepts s (refused n x) = Waits s x
Accepts s (passed x) = Accepted s x

first-stores : (p : Picture) → possible_picture p ≡ true → possible_picture (with_stores first_stores p) ≡ true
first-stores p h =
    let x = picture-of p h in
    picture-by {p = with_stores first_stores p} (record { type = x.type; code = x.code; stores = stores-of first_stores refl; slice = x.slice })

size_accepts : {s : List ℕ} {d : Decoder} → Waits s d → start_code d ≡ pos 0xb3 → Accepts s (check_size s d)
unfolding check_size accepted
size_accepts {s} {d} k c =
    let w = (run size s (position d)).value.width in
    let v = (run size s (position d)).value.height in
    let small = size_small s (position d) in
    let there = run-most size s (position d) (length s) k.inside (omega arith) in
    by-case (Accepts s) (eqb w 0 || eqb v 0)
    (λ z. record {
      header = k.header;
      width = small.0;
      height = small.1;
      sizes = k.sizes;
      picture = k.picture;
      block = k.block;
      mark = k.mark;
      inside = there;
      display = k.display;
      count = k.count;
      has_reference_frame = k.has_reference_frame;
    })
    (λ z. let q = or_split (eqb w 0) (eqb v 0) z in
    record {
      keeps = λ l long. record {
        header = refl;
        sequence = sequence-first w v small.0 small.1 (above w q.0) (above v q.1);
        mark = k.mark;
        step = record {
          picture = first-stores d.state.picture k.picture;
          block = k.block;
          long = long;
          inside = run-most rest s (run size s (position d)).at (length s) there (omega arith);
          ahead = λ e. never (ap nat_abs (sym c ∙ e));
          display = timed-possible _ d.state.display k.display;
          count = omega (arith, k.count);
        };
      };
      count = k.count;
      has_reference_frame = k.has_reference_frame;
    })
  where
    above : (n : ℕ) → eqb n 0 ≡ false → 1 ≤ n
    above zero e = absurd (true≢false e)
    above (suc n) e = omega arith

    never : {A : Type 0} → ◌≡◌ {A = ℕ} 0xb3 0 → A
    never e = let no : ⊥ = omega arith in absurd no

pub header_accepts : {s : List ℕ} {d : Decoder} → Waits s d → length s ≤ longest_stream → Accepts s (check_header s d)
unfolding check_header
header_accepts {s} {d} k h = go (find_sequence s d) (find-sequence s d h) (find-inside k)
  where
    code : {x : Decoder} → start_code x ≡ pos 0xb3 → Waits s x
        → Accepts s (cond (eq_z (start_code x) (negsuc 0)) (refused 3 x) (cond (not (has s (position x) 1088)) (refused 4 x) (check_size s x)))
    code {x} c w =
        let found : eq_z (start_code x) (negsuc 0) ≡ false = ap (λ (z : ℤ). eq_z z (negsuc 0)) c in
        rw found (by-case (Accepts s) (not (has s (position x) 1088)) (λ e. w) (λ e. size_accepts w c))

    go : (x : Decoder) → Finds s d x → position x ≤ length s * 8
        → Accepts s (cond (eq_z (start_code x) (negsuc 0)) (refused 3 x) (cond (not (has s (position x) 1088)) (refused 4 x) (check_size s x)))
    go x (a-code c) i = code (at_code c) (found-waits k (a-code c) i)
    go x (no_code n c) i = found-waits k (no_code n c) i
