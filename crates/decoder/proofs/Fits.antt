-- Where a record fits: what question 2 asks for is enough, and the changes of the record keep it. Assumes nothing.
use mathlib.Core.Path.{◌≡◌, refl}
use mathlib.Core.Bool.{Bool, true, false, ◌&&◌, and_assoc, and_comm}
use mathlib.Core.List.{List, [], ◌∷◌}
use mathlib.Core.Logic.{◌⊎◌, ⊎_elim}
use Prim.Native.Nat.{ℕ, ◌≤◌}
use native.Mathlib.Omega.{arith}
use lib.Dec.{leb}
use lib.IntN.{pos}
use lib.ListN.{length}
use borrow.Author.Tests.{leb-true, le-leb}
use Rattle.laws.proofs.Tests.{each}
use Rattle.bits.specs.Bounds.{longest_stream, last_position}
use Rattle.codes.specs.Matrices.{bounded}
use Rattle.codes.proofs.Bounds.{bounded_of}
use Rattle.picture_state.specs.Possible.{possible_picture}
use Rattle.picture_state.proofs.Possible.{picture-of}
use Rattle.header.specs.Possible.{possible_sequence}
use Rattle.header.specs.declared.sequences.Size.{Size}
use Rattle.header.specs.declared.sequences.Rest.{Rest}
use Rattle.header.proofs.Sizing.{sized_of, possible-sized}
use Rattle.playback.specs.State.{fresh_state, possible_display}
use Rattle.playback.proofs.Displays.{timed-possible}
use Rattle.playback.proofs.Fits.{next_fits}
use Rattle.decoder.specs.declared.record.Decoder.{Decoder}
use Rattle.decoder.specs.Record.{position, fresh, with_stop}
use Rattle.decoder.specs.Possible.{possible_stop, possible}
use Rattle.decoder.specs.Headers.{find_sequence, with_size_read, accepted}
use Rattle.decoder.specs.Fit.{Fit}
use Rattle.decoder.proofs.Starts.{fresh-starts}

-- ---- question 2

-- its parts
pub record Possible (d : Decoder) : Type 0 where
  pub inside : position d ≤ last_position
  pub sequence : possible_sequence d.sequence ≡ true
  pub picture : possible_picture d.state.picture ≡ true
  pub block : bounded d.block_data ≡ true
  pub display : possible_display d.state.display ≡ true
  pub mark : possible_stop d.stop ≡ true

pub possible-parts : (d : Decoder) → possible d ≡ true → Possible d
unfolding possible
possible-parts d e =
    let h = each (leb (position d) last_position)
    (possible_sequence d.sequence ∷ possible_picture d.state.picture ∷ bounded d.block_data ∷ possible_display d.state.display ∷
    possible_stop d.stop ∷ []) e in
    record { inside = leb-true _ _ (h 0); sequence = h 1; picture = h 2; block = h 3; display = h 4; mark = h 5 }

all_true : {a q p b v m : Bool} → a ≡ true → q ≡ true → p ≡ true → b ≡ true → v ≡ true → m ≡ true → (a && q && p && b && v && m) ≡ true
all_true a q p b v m = rw (a, q, p, b, v, m)

pub possible-all : {d : Decoder} → Possible d → possible d ≡ true
unfolding possible
possible-all {d} k = all_true (le-leb (position d) last_position k.inside) k.sequence k.picture k.block k.display k.mark

-- RULES Q8, Q9: with a stop mark
pub marked-possible : (d : Decoder) (n : ℕ) → possible d ≡ true → (n ≡ 8) ⊎ (n ≡ 9) → possible (with_stop n d) ≡ true
marked-possible d n e m =
    let k = possible-parts d e in
    possible-all (record {
      inside = k.inside;
      sequence = k.sequence;
      picture = k.picture;
      block = k.block;
      display = k.display;
      mark = ⊎_elim (λ (e : n ≡ 8). rw e refl) (λ (e : n ≡ 9). rw e refl) m;
    })

-- as the code joins them: the numbers and what is shown before the rest
numbers-first : (a m v q p b : Bool) → (a && m && v && q && p && b) ≡ (a && q && p && b && v && m)
numbers-first true m v q p b =
    rw (and_comm m v, and_assoc (v && m) q p, and_assoc (v && m) (q && p) b, and_comm (v && m) (q && p && b), ← and_assoc (q && p && b) v m)
numbers-first false m v q p b = refl

pub possible-by : (d : Decoder) {n v q p b : Bool} → n ≡ (leb (position d) last_position && possible_stop d.stop) → v ≡ possible_display d.state.display
    → q ≡ possible_sequence d.sequence → p ≡ possible_picture d.state.picture → b ≡ bounded d.block_data → (n && v && q && p && b) ≡ possible d
unfolding possible
possible-by d numbers display sequence picture block =
    rw (numbers, display, sequence, picture, block, numbers-first (leb (position d) last_position))

pub fit_of : {d : Decoder} → possible d ≡ true → Fit d
fit_of {d} e =
    let p = possible-parts d e in
    let k = possible-sized d.sequence p.sequence in
    let z = k.2 in
    record {
      wide = k.0;
      high = k.1;
      state = record {
        position = p.inside;
        across = z.across;
        down = z.down;
        size = z.size;
        picture = picture-of d.state.picture p.picture;
        block = bounded_of d.block_data p.block;
        display = p.display;
      };
    }

-- ---- changes

pub fit-fresh : Fit fresh
unfolding fresh fresh_state
fit-fresh = record {
  wide = omega arith;
  high = omega arith;
  state = record {
    position = omega arith;
    across = omega arith;
    down = omega arith;
    size = refl;
    picture = picture-of _ fresh-starts.picture;
    block = bounded_of _ fresh-starts.block;
    display = fresh-starts.display;
  };
}

-- RULES Q3: the search for a sequence start code
pub fit_found : (s : List ℕ) {d : Decoder} → Fit d → length s ≤ longest_stream → Fit (find_sequence s d)
unfolding find_sequence
fit_found s {d} f short = record { wide = f.wide; high = f.high; state = next_fits d.state f.state (pos 0xb3) refl s short _ refl }

-- RULES Q5: width and height as read
pub fit-sized : {d : Decoder} (z : Size) {e : ℕ} → Fit d → e ≤ last_position → z.width ≤ 4095 → z.height ≤ 4095
    → Fit (with_size_read (record { value = z; at = e }) d)
fit-sized z f e w h =
    let x = f.state in
    record {
      wide = w;
      high = h;
      state = record { position = e; across = x.across; down = x.down; size = x.size; picture = x.picture; block = x.block; display = x.display };
    }

-- RULES O.4: an accepted header
pub fit-accepted : {d : Decoder} (v : Rest) {e : ℕ} → Fit d → e ≤ last_position → Fit (accepted (record { value = v; at = e }) d)
unfolding accepted
fit-accepted {d} v f e =
    let z = sized_of d.sequence.width d.sequence.height f.wide f.high in
    let x = f.state in
    record {
      wide = f.wide;
      high = f.high;
      state = record {
        position = e;
        across = z.across;
        down = z.down;
        size = z.size;
        picture = record {
          type = x.picture.type;
          code = x.picture.code;
          stores = record {
            cur = omega arith;
            fwd = omega arith;
            bwd = omega arith;
            cur-fwd = λ q. omega arith;
            cur-bwd = λ q. omega arith;
            fwd-bwd = λ q. omega arith;
          };
          slice = x.picture.slice;
        };
        block = x.block;
        display = timed-possible _ d.state.display x.display;
      };
    }
