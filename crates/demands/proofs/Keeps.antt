-- For RULES R: what a record keeps from an accepted header on, and the changes that leave it so.
use mathlib.Core.Path.{◌≡◌, sym, ap₂, ◌∙◌}
use mathlib.Core.Bool.{Bool, true, ◌&&◌}
use mathlib.Core.List.{List, [], ◌∷◌}
use Prim.Native.Nat.{ℕ, ◌+◌, ◌*◌, ◌≤◌, ◌<◌}
use native.Mathlib.Omega.{arith}
use lib.Dec.{leb}
use lib.IntN.{ℤ, pos, neg_ℤ}
use lib.ListN.{length}
use borrow.Author.Tests.{eqb-true, leb-true}
use Rattle.laws.proofs.Tests.{both, each}
use Rattle.bits.specs.Bounds.{longest_stream}
use Rattle.codes.specs.Matrices.{bounded}
use Rattle.picture_state.specs.declared.types.{Sizes.Sizes, Picture.Picture}
use Rattle.picture_state.specs.State.{with_start_code}
use Rattle.picture_state.specs.Possible.{between, possible_picture}
use Rattle.picture_state.proofs.Possible.{picture-of, picture-by}
use Rattle.header.specs.declared.state.Sequence.{Sequence}
use Rattle.header.specs.Possible.{across, sizes_of, same_sizes, possible_sequence}
use Rattle.prediction.specs.Planes.{stores_bytes}
use Rattle.playback.specs.declared.state.Display.{Display}
use Rattle.playback.specs.State.{position, frames, possible_display, with_search_result, has_reference_frame_as}
use Rattle.playback.specs.Display.{counted}
use Rattle.playback.specs.Steps.{DecodingState, with_state}
use Rattle.playback.proofs.Displays.{held-possible, counted-possible}
use Rattle.decoder.specs.declared.record.Decoder.{Decoder}
use Rattle.decoder.specs.Record.{decoding_state_of, with_decoding_state}

-- what the turns keep, of the sizes, the place, the picture, the left-over coefficients, what is shown and the store: 29 bits are read for each
-- picture handed out; before a picture start code that is in the state bits are left
pub record StepKeeps (s : List ℕ) (z : Sizes) (a : ℕ) (p : Picture) (c : List ℤ) (v : Display) (l : List ℕ) : Type 0 where
  pub picture : possible_picture p ≡ true
  pub block : bounded c ≡ true
  pub long : stores_bytes z.mb_size ≤ length l
  pub inside : a ≤ length s * 8
  pub ahead : p.start_code ≡ pos 0 → a < length s * 8
  pub display : possible_display v ≡ true
  pub count : 29 * v.frames_decoded ≤ a

abbrev pub KeepsAt : List ℕ → Sizes → DecodingState → Type 0
KeepsAt s z x = StepKeeps s z (position x.state) x.state.picture x.block_data x.state.display x.store

-- what a record keeps from an accepted header on, with no stop mark
pub record Keeps (s : List ℕ) (d : Decoder) (l : List ℕ) : Type 0 where
  pub header : d.sequence.has_sequence_header ≡ true
  pub sequence : possible_sequence d.sequence ≡ true
  pub mark : d.stop ≡ 0
  pub step : KeepsAt s d.sequence.sizes (decoding_state_of d l)

-- behind turns
pub keeps_resumed : {s : List ℕ} {d : Decoder} {l : List ℕ} {x : DecodingState} → Keeps s d l → KeepsAt s d.sequence.sizes x
    → Keeps s (with_decoding_state d x) x.store
keeps_resumed k h = record { header = k.header; sequence = k.sequence; mark = k.mark; step = h }

-- ---- changes of a state that keep it

-- another start code, within -1..255
pub code-possible : (c : ℤ) (p : Picture) → between (neg_ℤ (pos 1)) (pos 255) c ≡ true → possible_picture p ≡ true
    → possible_picture (with_start_code c p) ≡ true
code-possible c p h k =
    let x = picture-of p k in
    picture-by {p = with_start_code c p} (record { type = x.type; code = h; stores = x.stores; slice = x.slice })

module _ {s : List ℕ} {z : Sizes} (x : DecodingState) (k : KeepsAt s z x) where
  pub keeps-counted : length s ≤ longest_stream → 29 * frames x.state + 29 ≤ position x.state → KeepsAt s z (with_state (counted x.state) x)
  unfolding counted
  keeps-counted short h = record {
    picture = k.picture;
    block = k.block;
    long = k.long;
    inside = k.inside;
    ahead = k.ahead;
    display = counted-possible x.state k.display (omega (arith, k.inside));
    count = omega arith;
  }

  pub keeps-held : (b : Bool) → KeepsAt s z (with_state (has_reference_frame_as b x.state) x)
  keeps-held b = record {
    picture = k.picture;
    block = k.block;
    long = k.long;
    inside = k.inside;
    ahead = k.ahead;
    display = held-possible x.state k.display b;
    count = k.count;
  }

  pub keeps-searched : (c : ℤ) (e : ℕ) → between (neg_ℤ (pos 1)) (pos 255) c ≡ true → position x.state ≤ e → e ≤ length s * 8
      → (c ≡ pos 0 → e < length s * 8)
      → KeepsAt s z (with_state (with_search_result c e x.state) x)
  keeps-searched c e h f m a = record {
    picture = code-possible c x.state.picture h k.picture;
    block = k.block;
    long = k.long;
    inside = m;
    ahead = a;
    display = k.display;
    count = omega (arith, k.count);
  }

-- ---- the sizes of an accepted header

pub record Sized (z : Sizes) : Type 0 where
  pub wide : z.mb_width ≤ 256
  pub high : z.mb_height ≤ 256
  pub area : z.mb_size ≡ z.mb_width * z.mb_height

pub sized : (q : Sequence) → q.has_sequence_header ≡ true → possible_sequence q ≡ true → Sized q.sizes
sized q h p =
    let least = leb 1 q.width && leb 1 q.height in
    let same = same_sizes q.sizes (sizes_of q.width q.height) in
    let x = each (leb q.width 4095) (leb q.height 4095 ∷ (least && same) ∷ []) (rw h at p) in
    let w = each _ (_ ∷ _ ∷ []) (both least same (x 2)).1 in
    let width : q.width ≤ 4095 = leb-true _ _ (x 0) in
    let height : q.height ≤ 4095 = leb-true _ _ (x 1) in
    let wide : q.sizes.mb_width ≡ across q.width = eqb-true _ _ (w 0) in
    let high : q.sizes.mb_height ≡ across q.height = eqb-true _ _ (w 1) in
    record { wide = omega arith; high = omega arith; area = eqb-true _ _ (w 2) ∙ sym (ap₂ ◌*◌ wide high) }

pub keeps-sized : {s : List ℕ} {d : Decoder} {l : List ℕ} → Keeps s d l → Sized d.sequence.sizes
keeps-sized {d = d} k = sized d.sequence k.header k.sequence
