-- 2.4.4: a picture changes no store but its own. Assumes memory for three stores.
use mathlib.Core.Path.{◌≡◌, refl, ap, ◌∙◌}
use mathlib.Core.Bool.{Bool, true, false, cond, not, ◌&&◌, ◌||◌}
use mathlib.Core.List.{List}
use mathlib.Core.Logic.{◌⊎◌, ⊎_elim}
use Prim.Native.Nat.{ℕ, zero, suc, ◌+◌, ◌*◌, ◌≤◌, ◌<◌}
use native.Mathlib.Omega.{arith}
use borrow.Rule.Slice.PartMut.{mid_of, put_mid, same_len_mid}
use lib.Dec.{eqb, ltb}
use lib.IntN.{ℤ, pos, nat_abs}
use lib.ListN.{length, get_or}
use lib.Signed.{le_z}
use Rattle.laws.specs.Loops.{continue, finish}
use Rattle.laws.proofs.Lists.{length_mid, length-rows, put-before, put-after}
use Rattle.laws.proofs.Tests.{by-case}
use Rattle.bits.specs.Bits.{has, read_at}
use Rattle.bits.specs.Programs.{Prog, done, run, next_start_code, stream_fuel, eq_z}
use Rattle.bits.proofs.Gives.{Gives, OnStep, g-done, g-bind, g_if, g-for, g-loop, g_any}
use Rattle.prediction.specs.declared.position.{Macroblock.Macroblock, BlockPosition.BlockPosition}
use Rattle.prediction.specs.declared.planes.Plane.{Plane}
use Rattle.prediction.specs.declared.planes.Plane.TheVariants.{Y, Cr, Cb}
use Rattle.prediction.specs.Predict.{macroblock_at, block_position_of, bytes, address, width}
use Rattle.prediction.specs.Planes.{block_size, macroblocks, plane_of, plane_length, plane_start}
use Rattle.prediction.specs.Writers.{overwrite, add_block, block_address, block_width}
use Rattle.picture_state.specs.declared.types.{Stores.Stores, Sizes.Sizes, Matrices.Matrices}
use Rattle.picture_state.specs.Result.{Result, ok, error, and_then, if_ok, bind_result, for_below}
use Rattle.standard.specs.Standard as S
use Rattle.standard.specs.Standard.Prelude.{Forbidden}
use Rattle.standard.proofs.Agreement.{ResultIs}

-- ---- rules

is_also : {A B : Type 0} (P : A → Type 0) (Q : B → Type 0) (w : Result Forbidden A) (f : A → Result Forbidden B) → ResultIs P w
    → ((x : A) → P x → ResultIs Q (f x))
    → ResultIs Q (and_then w f)
unfolding and_then
is_also P Q (ok x) f h k = k x h
is_also P Q (error d) f h k = tt

module _ {s : List ℕ} where
  g-onward : {A B : Type 0} {P : A → Type 0} {Q : B → Type 0} {p : Prog (Result Forbidden A)} (f : A → Prog (Result Forbidden B)) → Gives s (ResultIs P) p
      → ((x : A) → P x → Gives s (ResultIs Q) (f x)) → Gives s (ResultIs Q) (bind_result p f)
  unfolding bind_result if_ok
  g-onward {A} {B} {P} {Q} {p} f g k = g-bind (if_ok f) g go
    where
      go : (w : Result Forbidden A) → ResultIs P w → Gives s (ResultIs Q) (if_ok f w)
      go (ok x) h = k x h
      go (error d) h = g-done tt

  g-each : {A : Type 0} {P : A → Type 0} (n : ℕ) (f : ℕ → A → Prog (Result Forbidden A)) → ((i : ℕ) (x : A) → P x → Gives s (ResultIs P) (f i x))
      → {x : A} → P x
      → Gives s (ResultIs P) (for_below n f x)
  unfolding if_ok
  g-each {A} {P} n f keeps h = g-for n (λ i. if_ok (f i)) go h
    where
      go : (i : ℕ) → i < n → (w : Result Forbidden A) → ResultIs P w → Gives s (ResultIs P) (if_ok (f i) w)
      go i k (ok x) h = keeps i x h
      go i k (error d) h = g-done tt

  -- whatever the first gives
  g_then : {A B : Type 0} {Q : B → Type 0} (p : Prog (Result Forbidden A)) (f : A → Prog (Result Forbidden B)) → ((x : A) → Gives s (ResultIs Q) (f x))
      → Gives s (ResultIs Q) (bind_result p f)
  g_then {A} {B} {Q} p f k = g-onward {P = λ x. Unit {0}} f (record { value = λ a. go (run p s a).value }) (λ x u. k x)
    where
      go : (w : Result Forbidden A) → ResultIs (λ x. Unit {0}) w
      go (ok x) = tt
      go (error d) = tt

-- ---- lengths

pels-length : (p : BlockPosition) (s d : List ℕ) (right down : ℤ) (average : Bool) → length (S.pels p s d right down average) ≡ length d
pels-length p s d right down average = length-rows d (address p) (width p) p.size _ p.size

abbrev laid : Bool → List ℕ → ℕ → ℕ → List ℤ → List ℕ
laid intra d di dw x = cond intra (overwrite d di dw x) (add_block d di dw x)

laid-length : (intra : Bool) (d : List ℕ) (di dw : ℕ) (x : List ℤ) → length (laid intra d di dw x) ≡ length d
unfolding overwrite add_block
laid-length true d di dw x = length-rows d di dw 8 _ 8
laid-length false d di dw x = length-rows d di dw 8 _ 8

-- ---- one store

-- the other stores are the same, and no byte is lost
pub record Spared (cur n : ℕ) (l k : List ℕ) : Type 0 where
  pub long : length k ≡ length l
  pub same : (i : ℕ) → (i < cur * (384 * n)) ⊎ (cur * (384 * n) + 384 * n ≤ i) → get_or k i 0 ≡ get_or l i 0

module _ (g : S.Coding) (l : List ℕ) (three : g.context.stores.cur * (384 * g.context.sizes.mb_size) + 384 * g.context.sizes.mb_size ≤ length l)
    (area : g.context.sizes.mb_size ≡ g.context.sizes.mb_width * g.context.sizes.mb_height) where
  abbrev n : ℕ
  n = g.context.sizes.mb_size

  abbrev cur : ℕ
  cur = g.context.stores.cur

  abbrev Same : List ℕ → Type 0
  Same k = Spared cur n l k

  -- a part of the store is written
  put-spared : (start size : ℕ) (k x : List ℕ) → cur * (384 * n) ≤ start → start + size ≤ cur * (384 * n) + 384 * n → length x
      ≡ length (mid_of start size k) → Same k → Same (put_mid start size k x)
  put-spared start size k x low high e h =
      let inside : start + size ≤ length k = omega (arith, h.long) in
      let m : length x ≡ size = e ∙ length_mid start size k inside in
      record {
        long = same_len_mid start size k x e ∙ h.long;
        same = λ i o. ⊎_elim (λ (b : i < cur * (384 * n)). put-before start size k x i 0 (omega arith) (omega arith))
            (λ (b : cur * (384 * n) + 384 * n ≤ i). put-after start size k x i 0 inside m (omega arith)) o ∙ h.same i o;
      }

  plane-low : (q : Plane) (n : ℕ) → cur * (384 * n) ≤ plane_start cur q n
  plane-low q n = omega arith

  plane-high : (q : Plane) (n : ℕ) → plane_start cur q n + plane_length q n ≤ cur * (384 * n) + 384 * n
  plane-high Y n = omega arith
  plane-high Cr n = omega arith
  plane-high Cb n = omega arith

  -- ---- prediction

  bytes_are : (m : Macroblock) (q : Plane) → bytes (block_position_of m (block_size q)) ≡ plane_length q (macroblocks m)
  bytes_are m Y = omega arith
  bytes_are m Cr = omega arith
  bytes_are m Cb = omega arith

  plane-spared : (a k : ℕ) (average : Bool) (q : Plane) (right down : ℤ) (x : List ℕ) → Same x
      → ResultIs Same (S.predicted_plane g (macroblock_at g.context.sizes.mb_width g.context.sizes.mb_height a) k average q right down x)
  unfolding S.predicted_plane
  plane-spared a k average q right down x h =
      let m = macroblock_at g.context.sizes.mb_width g.context.sizes.mb_height a in
      let p = block_position_of m (block_size q) in
      let to = plane_start cur q (macroblocks m) in
      let stores : cur * (384 * n) ≡ cur * (384 * macroblocks m) = ap (λ (k : ℕ). cur * (384 * k)) area in
      let store : 384 * n ≡ 384 * macroblocks m = ap (λ (k : ℕ). 384 * k) area in
      by-case (ResultIs Same) (S.in_picture p right down)
      (λ e. put-spared to (bytes p) x (S.pels p (mid_of (plane_start k q (macroblocks m)) (bytes p) x) (mid_of to (bytes p) x) right down average)
      (omega (arith, plane-low q (macroblocks m))) (omega (arith, plane-high q (macroblocks m), bytes_are m q))
      (pels-length p (mid_of (plane_start k q (macroblocks m)) (bytes p) x) (mid_of to (bytes p) x) right down average) h) (λ e. tt)

  from-spared : (a k : ℕ) (d : S.Direction) (v : S.Vector) (average : Bool) (x : List ℕ) → Same x → ResultIs Same (S.predicted_from g a k d v average x)
  unfolding S.predicted_from
  from-spared a k d v average x h =
      is_also Same Same _ _ (plane-spared a k average Y _ _ x h) (λ x h.
      is_also Same Same _ _ (plane-spared a k average Cr _ _ x h) (λ x h. plane-spared a k average Cb _ _ x h))

  predicted-spared : (t a : ℕ) (f b : S.Vector) (x : List ℕ) → Same x → ResultIs Same (S.predicted g t a f b x)
  unfolding S.predicted
  predicted-spared t a f b x h =
      let past = g.context.stores.fwd in
      let future = g.context.stores.bwd in
      by-case (ResultIs Same) (not (eqb g.context.picture_type 3)) (λ e. from-spared a past g.forward f false x h) (λ e.
      by-case (ResultIs Same) (S.macroblock_motion_forward t && S.macroblock_motion_backward t)
      (λ e. is_also Same Same _ _ (from-spared a past g.forward f false x h) (λ x h. from-spared a future g.backward b true x h)) (λ e.
      by-case (ResultIs Same) (S.macroblock_motion_forward t) (λ e. from-spared a past g.forward f false x h) (λ e.
      by-case (ResultIs Same) (S.macroblock_motion_backward t) (λ e. from-spared a future g.backward b false x h) (λ e. tt))))

  skips-spared : (t : ℕ) (f b : S.Vector) (a k : ℕ) (x : List ℕ) → Same x → ResultIs Same (S.skipped_from g t f b a k x)
  unfolding S.skipped_from
  skips-spared t f b a zero x h = h
  skips-spared t f b a (suc k) x h = is_also Same Same _ _ (predicted-spared t a f b x h) (λ x h. skips-spared t f b (a + 1) k x h)

  skipped-spared : (first : Bool) (k : ℕ) (v : S.Variables) → Same v.pels → ResultIs Same (S.skipped g first k v)
  unfolding S.skipped
  skipped-spared first k v h =
      by-case (ResultIs Same) (first || ltb k 2) (λ e. h) (λ e.
      by-case (ResultIs Same) (eqb g.context.picture_type 2) (λ e. skips-spared 0 S.zero-vector S.zero-vector _ _ v.pels h) (λ e.
      by-case (ResultIs Same) (eqb g.context.picture_type 3 && not (S.macroblock_intra v.macroblock_type))
      (λ e. skips-spared v.macroblock_type v.for_prev v.back_prev _ _ v.pels h) (λ e. tt)))

  -- ---- blocks

  written-spared : (intra : Bool) (i a : ℕ) (f : S.PartialBlock) (x : List ℕ) → Same x → Same (S.written g intra i a f x)
  unfolding S.written
  written-spared intra i a f x h =
      let m = macroblock_at g.context.sizes.mb_width g.context.sizes.mb_height a in
      let start = plane_start cur (plane_of i) n in
      let size = plane_length (plane_of i) n in
      let before = mid_of start size x in
      put-spared start size x (laid intra before (block_address m i) (block_width m i) (g.rules.transform f.recon)) (plane-low (plane_of i) n)
      (plane-high (plane_of i) n) (laid-length intra before (block_address m i) (block_width m i) (g.rules.transform f.recon)) h

  abbrev Blocks : S.Blocks → Type 0
  Blocks b = Same b.pels

  abbrev Variables : S.Variables → Type 0
  Variables v = Same v.pels

  abbrev Slices : S.SlicesLoopState → Type 0
  Slices x = Same x.pels

  module _ {s : List ℕ} where
    block-spared : (intra is_far : Bool) (scale a i : ℕ) (b : S.Blocks) → Blocks b
        → Gives s (ResultIs Blocks) (cond intra (S.intra_block g is_far scale a i b) (S.non_intra_block g scale a i b))
    unfolding S.intra_block S.non_intra_block
    block-spared intra is_far scale a i b h =
        g_if intra (λ e. g_then _ _ (λ zz. g_then _ _ (λ u. g_then _ _ (λ p. g_then _ _ (λ f. g-done (written-spared true i a f b.pels h))))))
        (λ e. g_then _ _ (λ p. g_then _ _ (λ f. g-done (written-spared false i a f b.pels h))))

    blocks-spared : (intra is_far : Bool) (cbp scale a : ℕ) (b : S.Blocks) → Blocks b → Gives s (ResultIs Blocks) (S.blocks g intra is_far cbp scale a b)
    unfolding S.blocks
    blocks-spared intra is_far cbp scale a b h =
        g-each {P = Blocks} 6 (S.block g intra is_far cbp scale a) (λ i b h.
        g_if (S.pattern_code intra cbp i) (λ e. block-spared intra is_far scale a i b h) (λ e. g-done h)) h

    -- ---- macroblocks

    coded-spared : (first : Bool) (k u : ℕ) (v : S.Variables) (x : List ℕ) → Same x → Gives s (ResultIs Variables) (S.coded_macroblock g first k u v x)
    unfolding S.coded_macroblock
    coded-spared first k u v x h =
        g_then _ _ (λ t. g_then _ _ (λ u. g_then _ _ (λ scale. g_then _ _ (λ f. g_then _ _ (λ b.
        g-onward {P = Same} _ (g-done (by-case (ResultIs Same) (S.macroblock_intra t) (λ e. h) (λ e. predicted-spared t _ f b x h)))
        (λ x h. g_then _ _ (λ cbp.
        g-onward {P = Blocks} _ (blocks-spared _ _ cbp scale _ _ h) (λ b h. g-done h))))))))

    macroblock-spared : (first : Bool) (v : S.Variables) → Variables v → Gives s (ResultIs Variables) (S.macroblock g first v)
    unfolding S.macroblock
    macroblock-spared first v h =
        g_then _ _ (λ k. g_then _ _ (λ u. g-onward {P = Same} _ (g-done (skipped-spared first k v h)) (λ x h. coded-spared first k _ v x h)))

    -- ---- slices

    past-spared : (w : Result Forbidden S.Variables) → ResultIs Variables w
        → Gives s (OnStep (λ (x : S.SliceLoopState). Variables x.variables) (ResultIs Variables)) (S.after_macroblock g w)
    unfolding S.after_macroblock run
    past-spared (error d) h = g-done tt
    past-spared (ok v) h = record { value = λ a. go (has s a 23) (eqb (read_at s a 23) 0) (S.is_more g v) a }
      where
        go : (t u more : Bool) (a : ℕ) → OnStep (λ (x : S.SliceLoopState). Variables x.variables) (ResultIs Variables)
            (run (cond (not t) (done (finish S.forbidden))
            (cond u (done (finish (ok v))) (cond more (done (continue (record { first = false; variables = v }))) (done (finish S.forbidden))))) s a).value
        go false u more a = tt
        go true true more a = h
        go true false true a = h
        go true false false a = tt

    slice-spared : (position : ℕ) (x : List ℕ) → Same x → Gives s (ResultIs Variables) (S.slice g position x)
    unfolding S.slice S.slice_step
    slice-spared position x h =
        g_then _ _ (λ q. g_then _ _ (λ u.
        g-loop (λ (x : S.SliceLoopState). Variables x.variables) stream_fuel (S.slice_step g) S.forbidden
        (λ y i. g-bind (S.after_macroblock g) (macroblock-spared y.first y.variables i) past-spared) tt _ h))

    past-slice-spared : (w : Result Forbidden S.Variables) → ResultIs Variables w → Gives s (OnStep Slices (ResultIs Same)) (S.after_slice g w)
    unfolding S.after_slice
    past-slice-spared (error d) h = g-done tt
    past-slice-spared (ok v) h = g_if (S.is_more g v) (λ e. g-done h) (λ e. g-done h)

    step-spared : (x : S.SlicesLoopState) → Slices x → Gives s (OnStep Slices (ResultIs Same)) (S.slices_step g x)
    unfolding S.slices_step
    step-spared x h =
        g-bind _ (g_any next_start_code)
        (λ c u. g_if (le_z (pos 1) c && le_z c (pos 0xaf)) (λ e. g-bind (S.after_slice g) (slice-spared (nat_abs c) x.pels h) past-slice-spared)
        (λ e. g_if ((eq_z c (pos 0xb2) || eq_z c (pos 0xb5)) && not x.begun) (λ e. g-done h) (λ e. g-done tt)))

    slices-spared : Gives s (ResultIs Same) (S.slices g l)
    unfolding S.slices
    slices-spared = g-loop Slices stream_fuel (S.slices_step g) S.forbidden step-spared tt _ (record { long = refl; same = λ i o. refl })

-- ---- a picture

module _ (r : S.Rules) (z : Sizes) (m : Matrices) (t : Stores) (l s : List ℕ) (three : t.cur * (384 * z.mb_size) + 384 * z.mb_size ≤ length l)
    (area : z.mb_size ≡ z.mb_width * z.mb_height) where
  -- what a picture leaves: the other stores, and the roles of all for the next picture
  pub record Leaves (d : S.Decoded) : Type 0 where
    pub spared : Spared t.cur z.mb_size l d.pels
    pub stores : d.stores ≡ S.roles_after d.header.picture_coding_type t

  pub picture-spared : (f b : S.Direction) → Gives s (ResultIs Leaves) (S.picture r z m t f b l)
  unfolding S.picture
  picture-spared f b =
      g_then _ _ (λ h.
      g-onward {P = Spared t.cur z.mb_size l} _ (go h (eqb h.picture_coding_type 3)) (λ x i. g-done (record { spared = i; stores = refl })))
    where
      coding : S.Header → Stores → S.Coding
      coding h t = record {
        context = record { picture_type = h.picture_coding_type; sizes = z; stores = t };
        matrices = m;
        forward = h.forward;
        backward = h.backward;
        rules = r;
      }

      go : (h : S.Header) (b : Bool)
          → Gives s (ResultIs (Spared t.cur z.mb_size l)) (S.slices (coding h (cond b t (record { cur = t.cur; fwd = t.bwd; bwd = t.bwd }))) l)
      go h true = slices-spared (coding h t) l three area
      go h false = slices-spared (coding h (record { cur = t.cur; fwd = t.bwd; bwd = t.bwd })) l three area
