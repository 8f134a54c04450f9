-- RULES QG: what a picture leaves. The store stays as long as it was, and a possible state stays possible. Assumes nothing.
use mathlib.Core.Path.{◌≡◌, refl, sym, subst, ◌∙◌}
use mathlib.Core.Bool.{true}
use mathlib.Core.List.{List}
use Prim.Native.Nat.{ℕ, ◌+◌, ◌-◌, ◌*◌, ◌≤◌, ◌<◌}
use native.Mathlib.Nat.{mul-le-mul}
use native.Mathlib.Omega.{arith}
use lib.Dec.{eqb}
use lib.IntN.{pos, negsuc, ◌+ℤ◌}
use lib.ListN.{length, get_or}
use Rattle.laws.proofs.Ints.{up, dn, v, lit, ◌⊕◌, ◌⊖◌, le-no}
use Rattle.laws.proofs.Tests.{by-case}
use Rattle.bits.specs.Bounds.{longest_stream}
use Rattle.bits.specs.Programs.{run}
use Rattle.bits.proofs.Gives.{Gives, g-done, g_any, g-bind, g_if, g-start, g_as, g_when}
use Rattle.codes.specs.Matrices.{Bounded}
use Rattle.coefficients.specs.Dcs.{dc_in_range}
use Rattle.coefficients.specs.Blocks.{BlockRead}
use Rattle.coefficients.specs.Syntax.{CodedBlock}
use Rattle.coefficients.proofs.Kept as Coefficients
use Rattle.std.specs.Prelude.{Ok, Err}
use Rattle.prediction.specs.Planes.{Predicted}
use Rattle.prediction.specs.Planes.{PlaneAfter}
use Rattle.picture_state.specs.declared.types.{Context.Context, Stores.Stores, Sizes.Sizes, Matrices.Matrices, Slice.Slice, Picture.Picture}
use Rattle.picture_state.specs.State.{with_stores, with_address}
use Rattle.picture_state.specs.Possible.{between, possible_picture, PossibleStores, PossibleSlice, PossiblePicture}
use Rattle.picture_state.specs.Result.{Result, ok, error}
use Rattle.picture_state.specs.Stop.{Cause, dc_outside, prediction_outside, Stop, stop}
use Rattle.macroblock_head.specs.Predictions.{unless_refused}
use Rattle.blocks.specs.Blocks.{predictor_of}
use Rattle.macroblock.specs.Macroblocks.{skip_reset}
use Rattle.slice.specs.Slices.{slice_start}
use Rattle.picture.specs.Pictures as P
use Rattle.macroblock_head.proofs.IncrementBound.{increment-most}
use Rattle.macroblock_head.proofs.Lengths.{planes-length}
use Rattle.blocks.proofs.Lengths.{written-length}
use Rattle.picture_state.proofs.Possible.{between-of, between-by, picture-of, picture-by}
use Rattle.picture_state.proofs.Kept.{motions-kept, predictors-kept, reset-kept, predictors-reset, predictors-set}
use Rattle.macroblock_head.proofs.Kept.{still_kept, head-gives}
use Rattle.picture.proofs.Header.{header-fits, headed-possible}
use Rattle.picture_state.proofs.Exits.{OnResult, results_as, bind-results}
use Rattle.picture.proofs.Walk.{Invariant, Keeps, Framed, reconstructed_by, slices-results}

-- a way goes on with P, or leaves early with a store of n numbers
abbrev pub Ends : {A : Type 0} → ℕ → (A → Type 0) → Result Stop A → Type 0
Ends n P = OnResult P (λ (e : Stop). length e.store ≡ n)

-- RULES Q8: the predictor of a DC value outside is inside
abbrev pub PredictorInside : Cause → Type 0
PredictorInside (dc_outside address block predictor difference) = dc_in_range predictor ≡ true
PredictorInside (prediction_outside address plane h v) = Unit {0}

-- a picture leaves early with a store of n numbers and, where H holds, with such a predictor
abbrev Leaves : Type 0 → ℕ → Stop → Type 0
Leaves H n e = (length e.store ≡ n) × (H → PredictorInside e.cause)

-- a way goes on with P, or leaves so
abbrev EndsIn : {A : Type 0} → Type 0 → ℕ → (A → Type 0) → Result Stop A → Type 0
EndsIn H n P = OnResult P (Leaves H n)

ends_by : {A : Type 0} (H : Type 0) (n : ℕ) (P Q : A → Type 0) → ((x : A) → P x → Q x) → (w : Result Stop A) → EndsIn H n P w → Ends n Q w
ends_by H n P Q k (ok x) h = k x h
ends_by H n P Q k (error e) h = h.0

-- ---- the steps

-- the address goes on by i
moved : (i : ℕ) (x : Slice) → PossibleSlice x → up x.macroblock_address + i ≤ dn x.macroblock_address + 402700000
    → PossibleSlice (with_address (x.macroblock_address +ℤ pos i) x)
moved i x p h =
    let a = x.macroblock_address in
    record {
      scale = p.scale;
      address = between-by 1 402700000 (v a ⊕ lit i) (omega (arith, between-of 1 402700000 (v a) p.address)) (omega (arith, h));
      forward = p.forward;
      backward = p.backward;
      predictors = p.predictors;
    }

skip-kept : (g : Context) {x : Slice} → PossibleSlice x → PossibleSlice (skip_reset g x)
unfolding skip_reset
skip-kept g {x} k =
    by-case PossibleSlice (eqb g.picture_type 2) (λ e. motions-kept (reset-kept k) (still_kept k).forward k.backward) (λ e. reset-kept k)

skip-address : (g : Context) (x : Slice) → (skip_reset g x).macroblock_address ≡ x.macroblock_address
unfolding skip_reset
skip-address g x = by-case (λ (y : Slice). y.macroblock_address ≡ x.macroblock_address) (eqb g.picture_type 2) (λ e. refl) (λ e. refl)

-- RULES 7.5: a slice begins with an address that a first increment keeps within its bounds
abbrev Begins : Slice → Type 0
Begins x = PossibleSlice x × (up x.macroblock_address ≤ dn x.macroblock_address + 44543)

start-kept : (g : Context) (number q : ℕ) (x : Slice) → g.sizes.mb_width ≤ 256 → number ≤ 175 → q ≤ 31 → PossibleSlice x
    → Begins (slice_start g number q x)
start-kept g number q x width h j k =
    let a = lit ((number - 1) * g.sizes.mb_width) ⊖ lit 1 in
    let few : number - 1 ≤ 174 = omega arith in
    let z = still_kept k in (
      record {
        scale = j;
        address = between-by 1 402700000 a (omega arith) (omega (arith, mul-le-mul few width));
        forward = z.forward;
        backward = z.backward;
        predictors = predictors-reset;
      },
      omega (arith, a.dif, mul-le-mul few width),
    )

-- RULES Q9: a prediction that is refused
refused-ends : (H : Type 0) (n address : ℕ) (o : PlaneAfter) → length o.store ≡ n → EndsIn H n (λ (l : List ℕ). length l ≡ n) (unless_refused address o)
unfolding unless_refused
refused-ends H n address o h = go o.answer
  where
    go : (a : Predicted) → EndsIn H n (λ (l : List ℕ). length l ≡ n) (elim a as (λ x. Result Stop (List ℕ)) [
      | Ok _ ↦ ok o.store
      | Err _ ↦ error (stop (prediction_outside address o.plane o.h o.v) o.store)
    ])
    go (Ok _) = h
    go (Err _) = (h, λ η. tt)

-- ---- the walk, in a picture of which H says that it is possible; the store has n numbers

abbrev stays_possible : Type 0 → ℕ → Invariant
stays_possible H n = record {
  start = λ x. H → Begins x;
  slice = λ x. H → PossibleSlice x;
  block = λ c. H → Bounded c;
  store = λ l. length l ≡ n;
  code = λ k. H → between (negsuc 0) (pos 255) k ≡ true;
  exit = Leaves H n;
}

-- what a picture's slices are read in: H says that the sizes are possible, and the stream one of bytes
pub record Domain (H : Type 0) (s : List ℕ) (z : Sizes) : Type 0 where
  pub width : H → z.mb_width ≤ 256
  pub size : H → z.mb_size ≤ 65536
  pub stream : H → length s ≤ longest_stream
  pub bytes : H → (k : ℕ) → get_or s k 0 < 256

keeps : (H : Type 0) {s : List ℕ} (n : ℕ) (g : Context) (m : Matrices) → Domain H s g.sizes → Keeps s g m (stays_possible H n)
keeps H {s} n g m c = record {
  codes = g_when H (λ η. g_as (λ k h. rw h.0 h.1) (g-start (c.bytes η)));
  starts = λ number q x h j k η. start-kept g number q x (c.width η) h j (k η);
  first = g_as (λ i j x k η. moved i x (k η).0 (omega (arith, (k η).1, c.stream η))) (increment-most s);
  next = λ i x h k η.
      let q = le-no (lit g.sizes.mb_size) (v x.macroblock_address ⊕ lit i) h in moved 1 x (k η) (omega (arith, c.size η));
  skips = λ i x h k η.
      let q = le-no (lit g.sizes.mb_size) (v x.macroblock_address ⊕ lit i) h in
      moved i (skip_reset g x) (skip-kept g (k η)) (rw (skip-address g x) (omega (arith, c.size η)));
  heads = λ t x k. g_when H (λ η. head-gives g.picture_type t (k η));
  blocks = λ intra number x b h k j.
      let r : CodedBlock → BlockRead = reconstructed_by g m intra number x b in
      let e : H → (d : CodedBlock) → Coefficients.Kept (r d)
      = λ η. Coefficients.reconstructed-kept _ _ _ b ((k η).predictors (predictor_of number) (omega arith)) (j η) in
      g_as (λ d u. record {
        slice = λ η.
            predictors-kept (k η)
            (predictors-set x.dc_predictor (predictor_of number) (r d).predictor (k η).predictors (e η d).predictor);
        block = λ η. Coefficients.left-bounded _ (r d) (e η d).bounded;
        outside = λ o l z. (z, λ η. (k η).predictors (predictor_of number) (omega arith));
      }) (g_any _);
  writes = λ q number a f l e. written-length g q number a f l ∙ e;
  predicts = λ a k h u interpolate l e. refused-ends H n a _ (planes-length _ _ _ _ _ interpolate l ∙ e);
}

-- what a picture leaves
record PictureKept (H : Type 0) (n : ℕ) (f : P.PictureState) : Type 0 where
  picture : H → PossiblePicture f.picture
  block : H → Bounded f.block_data
  store : length f.store ≡ n

-- the turn of the stores keeps them possible
pub after_kept : {t : Stores} → PossibleStores t → PossibleStores (P.roles_after_reading t)
after_kept k = record { cur = k.fwd; fwd = k.bwd; bwd = k.cur; cur-fwd = k.fwd-bwd; cur-bwd = λ e. k.cur-fwd (sym e); fwd-bwd = λ e. k.cur-bwd (sym e) }

module _ (H : Type 0) {s : List ℕ} (z : Sizes) (c : Domain H s z) (m : Matrices) (n : ℕ) where
  -- behind the slices of the picture p
  abbrev Behind : Picture → P.PictureState → Type 0
  Behind p = Framed (keeps H n (P.context_of z p) m c) p

  begin : (t : Stores) (f : P.PictureState) → PictureKept H n f
      → let p = with_stores t f.picture in Behind p (P.with_picture p f)
  begin t f k = record {
    type = refl;
    stores = refl;
    code = λ η. (k.picture η).code;
    slice = λ η. (k.picture η).slice;
    block = k.block;
    store = k.store;
  }

  coded-ends : (f : P.PictureState) → PictureKept H n f → Gives s (EndsIn H n (PictureKept H n)) (P.slices_in_roles z m f)
  unfolding P.slices_in_roles
  coded-ends f k =
      let p = f.picture in
      let q = with_stores (P.roles_while_reading p.stores) p in
      g_if (eqb p.picture_type 3)
      (λ b. g_as (results_as (Leaves H n) {P = Behind p} {Q = PictureKept H n} (λ x i. record {
        picture = λ η. record {
          type = rw i.type (k.picture η).type;
          code = i.code η;
          stores = rw i.stores (k.picture η).stores;
          slice = i.slice η;
        };
        block = i.block;
        store = i.store;
      })) (slices-results (keeps H n (P.context_of z p) m c) p f (begin p.stores f k)))
      (λ b. bind-results (Leaves H n) {P = Behind q} _
      (slices-results (keeps H n (P.context_of z q) m c) q (P.with_picture q f) (begin (P.roles_while_reading p.stores) f k))
      (λ x i. g-done (record {
        picture = λ η. record {
          type = rw i.type (k.picture η).type;
          code = i.code η;
          stores = after_kept (k.picture η).stores;
          slice = i.slice η;
        };
        block = i.block;
        store = i.store;
      })))

  picture-ends : (f : P.PictureState) → PictureKept H n f → Gives s (EndsIn H n (PictureKept H n)) (P.picture z m f)
  unfolding P.picture
  picture-ends f k =
      g-bind _ header-fits (λ h i.
      let x = P.with_picture (P.with_picture_header h f.picture) f in
      let kept : PictureKept H n x = record { picture = λ η. headed-possible (k.picture η) i; block = k.block; store = k.store } in
      g_if (P.is_decoded h) (λ d. coded-ends x kept) (λ d. g-done kept))

-- RULES Q8, Q9: whatever the state, store and stream, also where it leaves early, a picture leaves the store as long as it was
abbrev pub SameLength : List ℕ → P.PictureState → Type 0
SameLength l f = length f.store ≡ length l

pub picture-leaves : (z : Sizes) (m : Matrices) (f : P.PictureState) (s : List ℕ) (a : ℕ)
    → Ends (length f.store) (SameLength f.store) (run (P.picture z m f) s a).value
picture-leaves z m f s a =
    (g_as (ends_by ⊥ (length f.store) (PictureKept ⊥ (length f.store)) (SameLength f.store) (λ x i. i.store))
    (picture-ends ⊥ {s = s} z (record { width = λ η. absurd η; size = λ η. absurd η; stream = λ η. absurd η; bytes = λ η. absurd η }) m
    (length f.store) f (record { picture = λ η. absurd η; block = λ η. absurd η; store = refl }))
    ).value a

-- RULES Q2: on a stream of bytes, and with sizes that a header can say, it leaves a possible state possible
pub record StaysPossible (l : List ℕ) (f : P.PictureState) : Type 0 where
  pub picture : possible_picture f.picture ≡ true
  pub block : Bounded f.block_data
  pub store : length f.store ≡ length l

module _ (z : Sizes) (m : Matrices) (f : P.PictureState) (s : List ℕ) (a : ℕ) (w : z.mb_width ≤ 256) (h : z.mb_height ≤ 256)
    (e : z.mb_size ≡ z.mb_width * z.mb_height) (k : possible_picture f.picture ≡ true) (b : Bounded f.block_data)
    (most : length s ≤ longest_stream) (bytes : (k : ℕ) → get_or s k 0 < 256) where
  possible-ends : EndsIn (Unit {0}) (length f.store) (PictureKept (Unit {0}) (length f.store)) (run (P.picture z m f) s a).value
  possible-ends =
      (picture-ends (Unit {0}) {s = s} z
      (record { width = λ η. w; size = λ η. omega (arith, e, mul-le-mul w h); stream = λ η. most; bytes = λ η. bytes }) m (length f.store) f
      (record { picture = λ η. picture-of f.picture k; block = λ η. b; store = refl })
      ).value a

  pub picture-kept : Ends (length f.store) (StaysPossible f.store) (run (P.picture z m f) s a).value
  picture-kept =
      ends_by (Unit {0}) (length f.store) (PictureKept (Unit {0}) (length f.store)) (StaysPossible f.store)
      (λ x i. record { picture = picture-by (i.picture tt); block = i.block tt; store = i.store })
      (run (P.picture z m f) s a).value possible-ends

  -- RULES Q8: where it leaves early at a DC value, the predictor is inside
  pub stopped-inside : {q : Stop} → (run (P.picture z m f) s a).value ≡ error q → PredictorInside q.cause
  stopped-inside r = (subst (EndsIn (Unit {0}) (length f.store) (PictureKept (Unit {0}) (length f.store))) r possible-ends).1 tt
