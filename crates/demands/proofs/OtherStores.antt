-- RULES D2.3: decoding a picture changes no byte outside its own store, also where it leaves early.
use mathlib.Core.Path.{◌≡◌, refl, sym, ◌∙◌}
use mathlib.Core.Bool.{Bool}
use mathlib.Core.List.{List}
use mathlib.Core.Logic.{⊎_elim}
use Prim.Native.Nat.{ℕ, ◌+◌, ◌*◌, ◌≤◌, ◌<◌}
use native.Mathlib.Nat.{mul-le-mul_right}
use native.Mathlib.Omega.{arith}
use borrow.Rule.Slice.PartMut.{mid_of, put_mid, same_len_mid}
use lib.IntN.{ℤ}
use lib.ListN.{length}
use Rattle.laws.proofs.Lists.{length_mid, put-before, put-after, length-rows}
use Rattle.laws.proofs.Tests.{by-case}
use Rattle.bits.specs.Programs.{next_start_code}
use Rattle.bits.proofs.Gives.{g_any, g_as}
use Rattle.coefficients.specs.declared.quantiser.Quantiser.{Quantiser}
use Rattle.coefficients.specs.Blocks.{BlockCoefficients, first_only}
use Rattle.prediction.specs.declared.position.{BlockPosition.BlockPosition}
use Rattle.prediction.specs.declared.planes.Plane.{Plane}
use Rattle.prediction.specs.declared.planes.Plane.TheVariants.{Y, Cr, Cb}
use Rattle.std.specs.Prelude.{Some, None, Ok, Err}
use Rattle.prediction.specs.Planes.{Predicted}
use Rattle.prediction.specs.Predict.{PredictionSource}
use Rattle.prediction.specs.Predict.{macroblock_at, block_position_of, bytes, prediction_source, predicted, address, width, chroma}
use Rattle.prediction.specs.Planes.{PlaneAfter, of_plane, block_size, plane_of, plane_length, plane_start}
use Rattle.prediction.specs.Planes.{offset, predict_from_source, and_then_plane, predicted_planes}
use Rattle.prediction.specs.Planes.{stores_bytes}
use Rattle.prediction.specs.Writers.{set_const, overwrite, add_const, add_block, block_width, block_address}
use Rattle.picture_state.specs.declared.types.{Context.Context, Matrices.Matrices}
use Rattle.blocks.specs.Blocks.{results, written}
use Rattle.macroblock_head.specs.Heads.{head}
use Rattle.macroblock_head.specs.Increments.{increment}
use Rattle.macroblock_head.specs.Predictions.{unless_refused}
use Rattle.picture_state.specs.Stop.{Stop}
use Rattle.picture_state.proofs.Exits.{OnResult}
use Rattle.picture.proofs.Walk.{Invariant, Keeps}
use Rattle.demands.specs.Stores.{SameBut}

-- ---- a part of the picture number k is replaced

plane-ends : (p : Plane) (n : ℕ) → offset p n + plane_length p n ≤ 384 * n
plane-ends Y n = omega arith
plane-ends Cr n = omega arith
plane-ends Cb n = omega arith

put-same_but : (n k a size : ℕ) (l m ys : List ℕ) → k * (384 * n) ≤ a → a + size ≤ k * (384 * n) + 384 * n → a + size ≤ length m → length ys ≡ size
    → SameBut n k l m → SameBut n k l (put_mid a size m ys)
put-same_but n k a size l m ys from to fit e s = record {
  long = same_len_mid a size m ys (e ∙ sym (length_mid a size m fit)) ∙ s.long;
  same = λ i w. ⊎_elim
      (λ (h : i < k * (384 * n)). put-before a size m ys i 0 (omega arith) (omega arith) ∙ s.same i w)
      (λ (h : k * (384 * n) + 384 * n ≤ i). put-after a size m ys i 0 fit e (omega arith) ∙ s.same i w) w;
}

results-length : (q : Quantiser) (f : BlockCoefficients) (di dw : ℕ) (d : List ℕ) → length (results q f di dw d) ≡ length d
unfolding results set_const add_const overwrite add_block
results-length q f di dw d =
    let P : List ℕ → Type 0 = λ l. length l ≡ length d in
    by-case P (first_only q f)
    (λ e. by-case P q.intra (λ e. length-rows d di dw 8 _ 8) (λ e. length-rows d di dw 8 _ 8))
    (λ e. by-case P q.intra (λ e. length-rows d di dw 8 _ 8) (λ e. length-rows d di dw 8 _ 8))

predicted-length : (p : BlockPosition) (x d : List ℕ) (h v : ℤ) (interpolate : Bool) (from : ℕ) → length (predicted p x d h v interpolate from) ≡ length d
unfolding predicted
predicted-length p x d h v interpolate from = length-rows d (address p) (width p) p.size _ p.size

-- ---- predictions, plane by plane

-- a plane of w × h macroblocks is part of its picture
record PlaneIn (k n a size : ℕ) : Type 0 where
  from : k * (384 * n) ≤ a
  to : a + size ≤ k * (384 * n) + 384 * n

plane_in : (q : Plane) (k n w h : ℕ) → n ≡ w * h → PlaneIn k n (plane_start k q (w * h)) (w * block_size q * (h * block_size q))
plane_in Y k n w h e = rw e (record { from = omega arith; to = omega arith })
plane_in Cr k n w h e = rw e (record { from = omega arith; to = omega arith })
plane_in Cb k n w h e = rw e (record { from = omega arith; to = omega arith })

module _ (S : List ℕ → Type 0) (O : Stop → Type 0) (n : ℕ) where
  next-results : (o : PlaneAfter) (f : List ℕ → PlaneAfter) → OnResult S O (unless_refused n o) → ((l : List ℕ) → S l → OnResult S O (unless_refused n (f l)))
      → OnResult S O (unless_refused n (and_then_plane o f))
  unfolding and_then_plane unless_refused
  next-results o f h k = go o.answer refl
    where
      go : (a : Predicted) → o.answer ≡ a → OnResult S O (unless_refused n (elim a as (λ x. PlaneAfter) [ Ok _ ↦ f o.store | Err _ ↦ o ]))
      go (Ok _) e = k o.store (rw e at h)
      go (Err _) e = h

module _ (s : List ℕ) (g : Context) (l : List ℕ) (area : g.sizes.mb_size ≡ g.sizes.mb_width * g.sizes.mb_height)
    (cur : g.stores.cur ≤ 2) (long : stores_bytes g.sizes.mb_size ≤ length l) where
  abbrev S : List ℕ → Type 0
  S = SameBut g.sizes.mb_size g.stores.cur l

  abbrev O : Stop → Type 0
  O e = S e.store

  -- the stores end before the store does
  stores-end : g.stores.cur * (384 * g.sizes.mb_size) + 384 * g.sizes.mb_size ≤ length l
  stores-end = omega (arith, mul-le-mul_right (384 * g.sizes.mb_size) cur)

  -- the macroblock's block in a plane, and the plane's part of the store number j
  abbrev block_in : ℕ → Plane → BlockPosition
  block_in a q = block_position_of (macroblock_at g.sizes.mb_width g.sizes.mb_height a) (block_size q)

  abbrev begins : ℕ → Plane → ℕ
  begins j q = plane_start j q (g.sizes.mb_width * g.sizes.mb_height)

  copied-same : (a : ℕ) (q : Plane) (m ys : List ℕ) → length ys ≡ length (mid_of (begins g.stores.cur q) (bytes (block_in a q)) m) → S m
      → S (put_mid (begins g.stores.cur q) (bytes (block_in a q)) m ys)
  copied-same a q m ys h e =
      let i = plane_in q g.stores.cur g.sizes.mb_size g.sizes.mb_width g.sizes.mb_height area in
      let fit : begins g.stores.cur q + bytes (block_in a q) ≤ length m = omega (arith, i.to, e.long, stores-end) in
      put-same_but g.sizes.mb_size g.stores.cur _ _ l m ys i.from i.to fit (h ∙ length_mid _ _ m fit) e

  plane-results : (a from : ℕ) (interpolate : Bool) (q : Plane) (h v : ℤ) (m : List ℕ) → S m
      → OnResult S O (unless_refused a
      (of_plane q h v (predict_from_source (prediction_source (block_in a q) h v) (block_in a q) (begins from q) (begins g.stores.cur q) h v interpolate m)))
  unfolding predict_from_source unless_refused
  plane-results a from interpolate q h v m e = go (prediction_source (block_in a q) h v) refl
    where
      go : (w : PredictionSource) → prediction_source (block_in a q) h v ≡ w
          → OnResult S O (unless_refused a (of_plane q h v (predict_from_source w (block_in a q) (begins from q) (begins g.stores.cur q) h v interpolate m)))
      go (Ok None) w = e
      go (Err _) w = e
      go (Ok (Some i)) w =
          let source = mid_of (begins from q) (bytes (block_in a q)) m in
          let target = mid_of (begins g.stores.cur q) (bytes (block_in a q)) m in
          copied-same a q m (predicted (block_in a q) source target h v interpolate i) (predicted-length (block_in a q) source target h v interpolate i) e

  written_same : (q : Quantiser) (number a : ℕ) (f : BlockCoefficients) (m : List ℕ) → S m → S (written g q number a f m)
  unfolding written
  written_same q number a f m e =
      let p = plane_of number in
      let b = macroblock_at g.sizes.mb_width g.sizes.mb_height a in
      let at = plane_start g.stores.cur p g.sizes.mb_size in
      let size = plane_length p g.sizes.mb_size in
      let end = plane-ends p g.sizes.mb_size in
      let fit : at + size ≤ length m = omega (arith, e.long, stores-end) in
      let ys = results q f (block_address b number) (block_width b number) (mid_of at size m) in
      put-same_but g.sizes.mb_size g.stores.cur at size l m ys (omega arith) (omega arith) fit
      (results-length q f (block_address b number) (block_width b number) (mid_of at size m) ∙ length_mid at size m fit) e

  abbrev pub other_stores : Invariant
  other_stores = record {
    start = λ x. Unit {0};
    slice = λ x. Unit {0};
    block = λ c. Unit {0};
    store = S;
    code = λ k. Unit {0};
    exit = O;
  }

  pub keeping : (m : Matrices) → Keeps s g m other_stores
  unfolding predicted_planes
  keeping m = record {
    codes = g_any next_start_code;
    starts = λ number q x h j k. tt;
    first = g_as (λ n u x k. tt) (g_any increment);
    next = λ n x h k. tt;
    skips = λ n x h k. tt;
    heads = λ t x k. g_any (head g.picture_type t x);
    blocks = λ intra number x c h k j.
        g_as (λ b u. record { slice = tt; block = tt; outside = λ o m i. i }) (g_any _);
    writes = written_same;
    predicts = λ a from h v interpolate m e.
        next-results S O a _ _ (plane-results a from interpolate Y h v m e) (λ m₁ e₁.
        next-results S O a _ _ (plane-results a from interpolate Cr (chroma h) (chroma v) m₁ e₁)
        (λ m₂ e₂. plane-results a from interpolate Cb (chroma h) (chroma v) m₂ e₂));
  }
