-- One walk over the slices of a picture: an invariant that every step keeps holds of what they leave. Assumes nothing.
use mathlib.Core.Path.{◌≡◌, refl}
use mathlib.Core.Bool.{Bool, true, false, not, ◌&&◌}
use mathlib.Core.List.{List}
use Prim.Native.Nat.{ℕ, zero, suc, ◌+◌, ◌-◌, ◌^◌, ◌≤◌}
use native.Mathlib.Omega.{arith}
use lib.Dec.{eqb, ltb}
use lib.IntN.{ℤ, pos, nat_abs, ◌+ℤ◌}
use lib.Signed.{le_z}
use Rattle.laws.proofs.Ints.{v, lit, le_yes, abs-by}
use Rattle.laws.proofs.Tests.{by-case, both}
use Rattle.bits.specs.Programs.{non_zero, stream_fuel, next_start_code}
use Rattle.bits.proofs.Gives.{Gives, OnStep, g-done, g_any, g-bind, g_if, g-loop, g-bits}
use Rattle.coefficients.specs.declared.quantiser.Quantiser.{Quantiser}
use Rattle.coefficients.specs.Blocks.{BlockCoefficients, BlockRead, block_data_after, reconstructed}
use Rattle.coefficients.specs.Syntax.{CodedBlock, coded_block}
use Rattle.coefficients.specs.declared.block.BlockEnd.{BlockEnd}
use Rattle.coefficients.specs.declared.block.BlockEnd.TheVariants.{Complete, Dropped, DcOutOfRange}
use Rattle.prediction.specs.Predict.{macroblock_at}
use Rattle.prediction.specs.Planes.{predicted_planes}
use Rattle.picture_state.specs.declared.types.{Context.Context, Matrices.Matrices, Motion.Motion, Slice.Slice, Picture.Picture}
use Rattle.picture_state.specs.State.{SliceState, slice_state, with_start_code, with_picture_slice, with_address}
use Rattle.picture_state.specs.Result.{Result, ok, error}
use Rattle.picture_state.specs.Stop.{Stop, stop, dc_outside}
use Rattle.macroblock_head.specs.Predictions.{unless_refused, predict_from, predict_both, predict, predict_skipped}
use Rattle.picture_state.specs.Flags.{flag, is_intra}
use Rattle.macroblock_head.specs.Heads.{macroblock_type, head, pattern}
use Rattle.blocks.specs.Blocks.{with_dc_predictor, dc_predictor, quantiser_of, matrix_for, written, block_result, one_block, pattern_block, blocks}
use Rattle.macroblock_head.specs.Increments.{increment}
use Rattle.macroblock.specs.Macroblocks.{is_outside, address_plus, skip_reset, advance, predict_unless_intra, body}
use Rattle.macroblock.specs.Macroblocks.{first_macroblock, later_macroblock, macroblock}
use Rattle.slice.specs.Slices.{SliceLoopState, slice_loop_state, slice_start, is_last, extra, after_macroblock, slice_step, slice}
use Rattle.picture.specs.Pictures as P
use Rattle.picture_state.proofs.Exits.{OnResult, and_then-results, bind-results, lift-results, for-results}

-- what is to hold: of the state at the beginning of a slice and later in it, of the left-over coefficients, of the store, of the start code, and of
-- cause and store where a picture leaves early
pub record Invariant : Type 1 where
  pub start : Slice → Type 0
  pub slice : Slice → Type 0
  pub block : List ℤ → Type 0
  pub store : List ℕ → Type 0
  pub code : ℤ → Type 0
  pub exit : Stop → Type 0

-- behind a block with this number and difference: predictor and left-over coefficients, and the exit for a DC value outside
pub record BlockKept (i : Invariant) (q : Quantiser) (number : ℕ) (x : Slice) (difference : ℤ) (r : BlockRead) : Type 0 where
  pub slice : i.slice (with_dc_predictor number r.predictor x)
  pub block : i.block (block_data_after q r)
  pub outside : r.end ≡ DcOutOfRange → (l : List ℕ) → i.store l
      → i.exit (stop (dc_outside (nat_abs x.macroblock_address) number (dc_predictor number x) difference) l)

-- the block that comes of what is coded, with the coefficients l left over
abbrev pub reconstructed_by : Context → Matrices → Bool → ℕ → Slice → List ℤ → CodedBlock → BlockRead
reconstructed_by g m intra number x l = reconstructed (quantiser_of g intra x) (matrix_for m intra) (dc_predictor number x) l

-- each step keeps it
pub record Keeps (s : List ℕ) (g : Context) (m : Matrices) (i : Invariant) : Type 0 where
  pub codes : Gives s i.code next_start_code
  pub starts : (number q : ℕ) (x : Slice) → number ≤ 175 → q ≤ 31 → i.slice x → i.start (slice_start g number q x)
  pub first : Gives s (λ n. (x : Slice) → i.start x → i.slice (with_address (x.macroblock_address +ℤ pos n) x)) increment
  pub next : (n : ℕ) (x : Slice) → le_z (pos g.sizes.mb_size) (x.macroblock_address +ℤ pos n) ≡ false → i.slice x
      → i.slice (with_address (x.macroblock_address +ℤ pos 1) x)
  pub skips : (n : ℕ) (x : Slice) → le_z (pos g.sizes.mb_size) (x.macroblock_address +ℤ pos n) ≡ false → i.slice x
      → i.slice (with_address ((skip_reset g x).macroblock_address +ℤ pos n) (skip_reset g x))
  pub heads : (t : ℕ) (x : Slice) → i.slice x → Gives s i.slice (head g.picture_type t x)
  pub blocks : (intra : Bool) (number : ℕ) (x : Slice) (c : List ℤ) → number ≤ 5 → i.slice x → i.block c
      → Gives s (λ (b : CodedBlock). BlockKept i (quantiser_of g intra x) number x b.difference (reconstructed_by g m intra number x c b))
      (coded_block intra (ltb number 4) (dc_predictor number x))
  pub writes : (q : Quantiser) (number address : ℕ) (f : BlockCoefficients) (l : List ℕ) → i.store l → i.store (written g q number address f l)
  pub predicts : (address k : ℕ) (h v : ℤ) (interpolate : Bool) (l : List ℕ) → i.store l → OnResult i.store i.exit (unless_refused address
      (predicted_planes (macroblock_at g.sizes.mb_width g.sizes.mb_height address) k g.stores.cur h v interpolate l))

module _ {s : List ℕ} {g : Context} {m : Matrices} {i : Invariant} (c : Keeps s g m i) where
  -- the exits, and a store
  abbrev O : Stop → Type 0
  O = i.exit

  abbrev S : List ℕ → Type 0
  S = i.store

  -- ---- predictions

  from-results : (address k : ℕ) (x : Motion) (interpolate : Bool) (l : List ℕ) → S l → OnResult S O (predict_from g address k x interpolate l)
  unfolding predict_from
  from-results address k x interpolate l e = c.predicts address k _ _ interpolate l e

  both-results : (address : ℕ) (x : Slice) (l : List ℕ) → S l → OnResult S O (predict_both g address x l)
  unfolding predict_both
  both-results address x l e =
      and_then-results O S S _ _ (from-results address _ _ _ l e) (λ l₁ e₁.
      by-case (OnResult S O) x.motion_backward.is_set (λ b. from-results address _ _ _ l₁ e₁) (λ b. e₁))

  predict-results : (address : ℕ) (x : Slice) (l : List ℕ) → S l → OnResult S O (predict g address x l)
  unfolding predict
  predict-results address x l e =
      by-case (OnResult S O) (eqb g.picture_type 3 && x.motion_forward.is_set) (λ b. both-results address x l e) (λ b.
      by-case (OnResult S O) (eqb g.picture_type 3) (λ b. from-results address g.stores.bwd x.motion_backward false l e)
      (λ b. from-results address g.stores.fwd x.motion_forward false l e))

  skipped-results : (x : Slice) (address k : ℕ) (l : List ℕ) → S l → OnResult S O (predict_skipped g x address k l)
  unfolding predict_skipped
  skipped-results x address zero l e = e
  skipped-results x address (suc k) l e = and_then-results O S S _ _ (predict-results address x l e) (λ l₁ e₁. skipped-results x (address + 1) k l₁ e₁)

  unless-results : (t : ℕ) (x : Slice) (l : List ℕ) → S l → OnResult S O (predict_unless_intra g t x l)
  unfolding predict_unless_intra
  unless-results t x l e = by-case (OnResult S O) (is_intra t) (λ b. e) (λ b. predict-results _ _ _ e)

  -- ---- macroblocks

  record WorldKept (w : SliceState) : Type 0 where
    slice : i.slice w.slice
    block : i.block w.block_data
    store : S w.store

  end-results : (q : Quantiser) (number : ℕ) (w : SliceState) (d : ℤ) (r : BlockRead) → S w.store → BlockKept i q number w.slice d r
      → OnResult WorldKept O (block_result g q number w d r)
  unfolding block_result
  end-results q number w d r k h = go r.end h.outside
    where
      at : List ℕ → Stop
      at = stop (dc_outside (nat_abs w.slice.macroblock_address) number (dc_predictor number w.slice) d)

      go : (e : BlockEnd) → (e ≡ DcOutOfRange → (l : List ℕ) → S l → O (at l)) → OnResult WorldKept O (elim e as (λ x. Result Stop SliceState) [
        | Complete ↦ ok (slice_state (with_dc_predictor number r.predictor w.slice) (block_data_after q r)
            (written g q number (nat_abs w.slice.macroblock_address) r.block_coefficients w.store))
        | Dropped ↦ ok (slice_state (with_dc_predictor number r.predictor w.slice) (block_data_after q r) w.store)
        | DcOutOfRange ↦ error (at w.store)
      ])
      go Complete o = record { slice = h.slice; block = h.block; store = c.writes q number _ r.block_coefficients w.store k }
      go Dropped o = record { slice = h.slice; block = h.block; store = k }
      go DcOutOfRange o = o refl w.store k

  block-results : (intra : Bool) (number : ℕ) (w : SliceState) → number ≤ 5 → WorldKept w → Gives s (OnResult WorldKept O) (one_block g m intra number w)
  unfolding one_block
  block-results intra number w h k =
      lift-results O _ (c.blocks intra number w.slice w.block_data h k.slice k.block)
      (λ b j. g-done (end-results (quantiser_of g intra w.slice) number w b.difference (reconstructed_by g m intra number w.slice w.block_data b)
      k.store j))

  blocks-results : (intra : Bool) (pattern : ℕ) (w : SliceState) → WorldKept w → Gives s (OnResult WorldKept O) (blocks g m intra pattern w)
  unfolding blocks
  blocks-results intra pattern w k =
      for-results O 6 (pattern_block g m intra pattern) (λ i h w k.
      g_if (flag pattern (2 ^ (5 - i))) (λ e. block-results intra i w (omega arith) k) (λ e. g-done k)) k

  body-results : (w : SliceState) → WorldKept w → Gives s (OnResult WorldKept O) (body g m w)
  unfolding body
  body-results w k =
      lift-results O _ (g_any (macroblock_type g.picture_type)) (λ t u.
      lift-results O _ (c.heads t w.slice k.slice) (λ x h.
      bind-results O {P = S} _ (g-done (unless-results t x w.store k.store)) (λ l e.
      lift-results O _ (g_any (pattern t)) (λ q u.
      blocks-results (is_intra t) q (slice_state x w.block_data l) (record { slice = h; block = k.block; store = e })))))

  advance-results : (n : ℕ) (w : SliceState) → WorldKept w → le_z (pos g.sizes.mb_size) (w.slice.macroblock_address +ℤ pos n) ≡ false
      → OnResult WorldKept O (advance g n w)
  unfolding advance
  advance-results n w k h =
      by-case (OnResult WorldKept O) (ltb n 2) (λ e. record { slice = c.next n w.slice h k.slice; block = k.block; store = k.store }) (λ e.
      and_then-results O S WorldKept _ _ (skipped-results _ _ _ _ k.store) (λ l j.
      record { slice = c.skips n w.slice h k.slice; block = k.block; store = j }))

  -- ---- slices

  -- the state before the first macroblock of a slice, or a later one
  abbrev Before : Bool → Slice → Type 0
  Before true = i.start
  Before false = i.slice

  record SlicingKept (x : SliceLoopState) : Type 0 where
    slice : Before x.first x.slice_state.slice
    block : i.block x.slice_state.block_data
    store : S x.slice_state.store

  macroblock-results : (first : Bool) (w : SliceState) → SlicingKept (slice_loop_state first w) → Gives s (OnResult WorldKept O) (macroblock g m first w)
  unfolding macroblock first_macroblock later_macroblock
  macroblock-results true w k =
      lift-results O _ c.first (λ n h.
      let next : WorldKept (address_plus n w) = record { slice = h w.slice k.slice; block = k.block; store = k.store } in
      g_if (is_outside g (address_plus n w)) (λ e. g-done next) (λ e. body-results (address_plus n w) next))
  macroblock-results false w k =
      let here : WorldKept w = record { slice = k.slice; block = k.block; store = k.store } in
      lift-results O _ (g_any increment) (λ n u.
      g_if (le_z (pos g.sizes.mb_size) (w.slice.macroblock_address +ℤ pos n)) (λ e. g-done here)
      (λ e. bind-results O {P = WorldKept} _ (g-done (advance-results n w here e)) (λ x j. body-results x j)))

  past-results : (w : Result Stop SliceState) → OnResult WorldKept O w → Gives s (OnStep SlicingKept (OnResult WorldKept O)) (after_macroblock g w)
  unfolding after_macroblock
  past-results (error e) h = g-done h
  past-results (ok w) h =
      g_if (is_last g w) (λ e. g-done h) (λ e. g-bind _ (g_any (non_zero 23)) (λ more u.
      g_if more (λ e. g-done (record { slice = h.slice; block = h.block; store = h.store })) (λ e. g-done h)))

  slice-results : (number : ℕ) (w : SliceState) → number ≤ 175 → WorldKept w → Gives s (OnResult WorldKept O) (slice g m number w)
  unfolding slice slice_step
  slice-results number w h k =
      g-bind _ (g-bits 5) (λ q j. g-bind _ (g_any extra) (λ u e.
      g-loop SlicingKept stream_fuel _ _ (λ x b. g-bind _ (macroblock-results x.first x.slice_state b) past-results) k _
      (record { slice = c.starts number q w.slice h (omega arith) k.slice; block = k.block; store = k.store })))

  -- ---- the slices of a picture change neither its type nor the roles of the stores

  pub record Framed (p : Picture) (f : P.PictureState) : Type 0 where
    pub type : f.picture.picture_type ≡ p.picture_type
    pub stores : f.picture.stores ≡ p.stores
    pub code : i.code f.picture.start_code
    pub slice : i.slice f.picture.slice
    pub block : i.block f.block_data
    pub store : S f.store

  -- behind a slice
  slice-past : (p : Picture) (f : P.PictureState) (w : Result Stop SliceState) → Framed p f → OnResult WorldKept O w
      → Gives s (OnStep (λ (x : P.SlicesLoopState). Framed p x.picture_state) (OnResult (Framed p) O)) (P.after_slice g f.picture w)
  unfolding P.after_slice
  slice-past p f (error e) k h = g-done h
  slice-past p f (ok w) k h =
      let next : Framed p (P.picture_state (with_picture_slice w.slice f.picture) w.block_data w.store) =
      record { type = k.type; stores = k.stores; code = k.code; slice = h.slice; block = h.block; store = h.store } in
      g_if (is_last g w) (λ e. g-done next) (λ e. g-done next)

  number-most : (k : ℤ) → P.is_slice k ≡ true → nat_abs k ≤ 175
  number-most k e =
      let b = both _ _ e in
      let low = le_yes (lit 1) (v k) b.0 in
      let high = le_yes (v k) (lit 175) b.1 in
      abs-by 175 (v k) (omega arith) (omega arith)

  step_results : (p : Picture) (x : P.SlicesLoopState) → Framed p x.picture_state
      → Gives s (OnStep (λ (x : P.SlicesLoopState). Framed p x.picture_state) (OnResult (Framed p) O)) (P.slices_step g m x)
  unfolding P.slices_step
  step_results p x k =
      g-bind _ c.codes (λ n j.
      let f = P.with_picture (with_start_code n x.picture_state.picture) x.picture_state in
      let next : Framed p f = record { type = k.type; stores = k.stores; code = j; slice = k.slice; block = k.block; store = k.store } in
      g_if (P.is_slice n)
      (λ e. g-bind _ (slice-results (nat_abs n) (slice_state f.picture.slice f.block_data f.store) (number-most n e)
      (record { slice = k.slice; block = k.block; store = k.store })) (λ w h. slice-past p f w next h))
      (λ e. g_if (P.is_extra n && not x.begun) (λ e. g-done next) (λ e. g-done next)))

  pub slices-results : (p : Picture) (f : P.PictureState) → Framed p f → Gives s (OnResult (Framed p) O) (P.slices g m f)
  unfolding P.slices
  slices-results p f k = g-loop (λ (x : P.SlicesLoopState). Framed p x.picture_state) stream_fuel _ _ (step_results p) k _ k
