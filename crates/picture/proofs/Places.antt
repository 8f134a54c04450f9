-- For RULES R.1, R.2: where a picture's run ends. It takes 29 bits at least, and where the start code behind it is that of a picture, bits are left.
use mathlib.Core.Path.{◌≡◌, refl, ap, sym, ◌∙◌}
use mathlib.Core.Bool.{Bool, true, false, cond, not, ◌&&◌, true≢false, false≢true}
use mathlib.Core.List.{List}
use Prim.Native.Nat.{ℕ, zero, suc, ◌+◌, ◌-◌, ◌*◌, ◌≤◌, ◌<◌}
use native.Mathlib.Omega.{arith}
use lib.Dec.{eqb}
use lib.IntN.{ℤ, pos, negsuc, nat_abs}
use lib.ListN.{length}
use Rattle.laws.specs.Loops.{Step, continue, finish}
use Rattle.bits.specs.Bounds.{longest_stream}
use Rattle.bits.specs.Bits.{Found, boundary, has, read_at, after_read, found}
use Rattle.bits.specs.Programs.{Prog, done, bind, bits, loop, stream_fuel, run, continue_with}
use Rattle.bits.proofs.Start.{is_code, Searched, first, none, found-is-first}
use Rattle.bits.proofs.Programs.{run_bind, run_on, served-next}
use Rattle.laws.proofs.Tests.{by-case}
use Rattle.picture_state.specs.declared.types.{Stores.Stores, Sizes.Sizes, Matrices.Matrices, Picture.Picture, Context.Context}
use Rattle.picture_state.specs.State.{SliceState, slice_state, with_start_code, with_stores}
use Rattle.picture_state.specs.Result.{Result, ok, error, if_ok, bind_result, pure}
use Rattle.picture_state.specs.Stop.{Stop}
use Rattle.slice.specs.Slices.{is_last, slice}
use Rattle.picture.specs.Pictures as P

-- ---- programs that take at most n bits

record Takes {A : Type 0} (n : ℕ) (p : Prog A) : Type 0 where
  pub most : (s : List ℕ) (a : ℕ) → (run p s a).at ≤ a + n

next-near : (s : List ℕ) (a n : ℕ) → after_read s a n ≤ a + n
unfolding after_read
next-near s a n = go (has s a n)
  where
    go : (b : Bool) → cond b (a + n) a ≤ a + n
    go true = omega arith
    go false = omega arith

takes-done : {A : Type 0} {n : ℕ} {x : A} → Takes n (done x)
unfolding run
takes-done = record { most = λ s a. omega arith }

takes-bits : {n : ℕ} → Takes n (bits n)
unfolding run
takes-bits {n} = record { most = λ s a. next-near s a n }

takes-bind : {A B : Type 0} {n m k : ℕ} (p : Prog A) (f : A → Prog B) → Takes n p → ((x : A) → Takes m (f x)) → n + m ≤ k → Takes k (bind p f)
takes-bind {n = n} {m} {k} p f h g le = record {
  most = λ s a. rw (run_bind p f s a) (omega (arith, h.most s a, (g (run p s a).value).most s (run p s a).at));
}

takes_if : {A : Type 0} {n : ℕ} {p q : Prog A} (b : Bool) → Takes n p → Takes n q → Takes n (cond b p q)
takes_if true h g = h
takes_if false h g = g

direction-takes : (here : Bool) → Takes 4 (P.direction here)
unfolding P.direction
direction-takes here =
    takes_if here (takes-bind {n = 1} {m = 3} (bits 1) _ takes-bits
    (λ full. takes-bind {n = 3} {m = 0} (bits 3) _ takes-bits (λ f. takes-done) (omega arith)) (omega arith)) takes-done

header-takes : Takes 37 P.picture_header
unfolding P.picture_header
header-takes =
    takes-bind {n = 10} {m = 27} (bits 10) _ takes-bits (λ temporal.
    takes-bind {n = 3} {m = 24} (bits 3) _ takes-bits (λ type.
    takes-bind {n = 16} {m = 8} (bits 16) _ takes-bits (λ delay.
    takes-bind {n = 4} {m = 4} (P.direction _) _ (direction-takes _) (λ f.
    takes-bind {n = 4} {m = 0} (P.direction _) _ (direction-takes _) (λ b. takes-done)
    (omega arith)) (omega arith)) (omega arith)) (omega arith)) (omega arith)

-- ---- programs that from the place a come to the place b

record Comes {A : Type 0} (s : List ℕ) (a b : ℕ) (p : Prog A) : Type 0 where
  pub least : b ≤ (run p s a).at

comes-here : {A : Type 0} {s : List ℕ} {a : ℕ} {p : Prog A} → Comes s a a p
comes-here {s = s} {a} {p} = record { least = run_on p s a }

comes-first : {A B : Type 0} {s : List ℕ} {a b : ℕ} (p : Prog A) (f : A → Prog B) → Comes s a b p → Comes s a b (bind p f)
comes-first {s = s} {a} p f c = record { least = rw (run_bind p f s a) (omega (arith, c.least, run_on (f (run p s a).value) s (run p s a).at)) }

comes-bits : {A : Type 0} {s : List ℕ} {a b : ℕ} (n : ℕ) (f : ℕ → Prog A) → a + n ≤ length s * 8 → ((x : ℕ) → Comes s (a + n) b (f x))
    → Comes s a b (bind (bits n) f)
unfolding run bind
comes-bits {s = s} {a} {b} n f h c = record { least = rw (served-next s a n h) (c (read_at s a n)).least }

header_comes : (s : List ℕ) (a : ℕ) → a + 29 ≤ length s * 8 → Comes s a (a + 10 + 3 + 16) P.picture_header
unfolding P.picture_header
header_comes s a h =
    comes-bits 10 _ (omega arith) (λ temporal. comes-bits 3 _ (omega arith) (λ type. comes-bits 16 _ (omega arith) (λ delay. comes-here)))

pub picture-past : (z : Sizes) (m : Matrices) (f : P.PictureState) (s : List ℕ) (a : ℕ) → a + 29 ≤ length s * 8
    → a + 29 ≤ (run (P.picture z m f) s a).at
unfolding P.picture
picture-past z m f s a h =
    let c : Comes s a (a + 10 + 3 + 16) (P.picture z m f) = comes-first P.picture_header _ (header_comes s a h) in
    omega arith

-- ---- bits are left before a picture start code

-- where a picture went on and its start code is 0, the place e is not the end
abbrev pub Ahead : List ℕ → ℕ → Result Stop P.PictureState → Type 0
Ahead s e (ok f) = f.picture.start_code ≡ pos 0 → e < length s * 8
Ahead s e (error q) = Unit {0}

-- a turn from a on that goes on has found a start code
abbrev StepAhead : List ℕ → ℕ → ℕ → Step P.SlicesLoopState (Result Stop P.PictureState) → Type 0
StepAhead s a e (continue x) = (a + 32 ≤ e) × (a + 40 ≤ length s * 8)
StepAhead s a e (finish w) = Ahead s e w

abbrev OnStep : List ℕ → ℕ → ℕ → Prog (Step P.SlicesLoopState (Result Stop P.PictureState)) → Type 0
OnStep s a e p = StepAhead s a (run p s e).at (run p s e).value

-- a start code that is no picture's was found
pub record Other (s : List ℕ) (a e : ℕ) (c : ℤ) : Type 0 where
  pub past : a + 32 ≤ e
  pub five : a + 40 ≤ length s * 8
  pub other : c ≡ pos 0 → ⊥

past-ahead : (g : Context) (p : Picture) (s : List ℕ) (a e f : ℕ) (w : Result Stop SliceState) → Other s a e p.start_code → e ≤ f
    → OnStep s a f (P.after_slice g p w)
unfolding P.after_slice run
past-ahead g p s a e f (error q) h k = tt
past-ahead g p s a e f (ok w) h k =
    by-case (OnStep s a f) (is_last g w) (λ i z. absurd (h.other z)) (λ i. (omega arith, omega arith))

-- a start code that is found has its four bytes behind a, and one more byte behind it
pub code-ahead : (s : List ℕ) (a : ℕ) → is_code (found s a).code ≡ true → (a + 32 ≤ (found s a).at) × ((found s a).at + 8 ≤ length s * 8)
code-ahead s a = go (found s a) (found-is-first s a)
  where
    go : (f : Found) → Searched s (boundary a) f → is_code f.code ≡ true → (a + 32 ≤ f.at) × (f.at + 8 ≤ length s * 8)
    go f (first p w q) h = rw q (omega (arith, w.from), omega (arith, w.five))
    go f (none w q) h = absurd (false≢true (sym (ap (λ (x : Found). is_code x.code) q) ∙ h))

slice-other : (v : ℕ) → P.is_slice (pos v) ≡ true → pos v ≡ pos 0 → ⊥
slice-other zero h e = false≢true h
slice-other (suc v) h e = let z : suc v ≡ 0 = ap nat_abs e in omega arith

step-ahead : (g : Context) (m : Matrices) (x : P.SlicesLoopState) (s : List ℕ) (a : ℕ) → OnStep s a a (P.slices_step g m x)
unfolding P.slices_step run bind
step-ahead g m x s a = go (found s a).code (found s a).at (code-ahead s a)
  where
    go : (c : ℤ) (e : ℕ) → (is_code c ≡ true → (a + 32 ≤ e) × (e + 8 ≤ length s * 8))
        → OnStep s a e (
        let p = with_start_code c x.picture_state.picture in
        let f = P.with_picture p x.picture_state in
        cond (P.is_slice c) (bind (slice g m (nat_abs c) (slice_state p.slice f.block_data f.store)) (P.after_slice g p))
        (cond (P.is_extra c && not x.begun) (done (continue (P.slices_loop_state false f))) (done (finish (ok f)))))
    go (pos v) e h =
        let p = with_start_code (pos v) x.picture_state.picture in
        let w = slice g m v (slice_state p.slice x.picture_state.block_data x.picture_state.store) in
        let k = h refl in
        by-case (OnStep s a e) (P.is_slice (pos v))
        (λ i. rw (run_bind w (P.after_slice g p) s e)
        (past-ahead g p s a e (run w s e).at (run w s e).value (record { past = k.0; five = omega arith; other = slice-other v i }) (run_on w s e)))
        (λ i. by-case (OnStep s a e) (P.is_extra (pos v) && not x.begun) (λ j. (k.0, omega arith)) (λ j z. omega arith))
    go (negsuc v) e h = λ z. absurd (true≢false (sym (ap is_code z)))

abbrev Left : List ℕ → ℕ → Prog (Result Stop P.PictureState) → Type 0
Left s a p = Ahead s (run p s a).at (run p s a).value

left_step : (g : Context) (m : Matrices) (d : Result Stop P.PictureState) (s : List ℕ) (a n : ℕ)
    (t : Step P.SlicesLoopState (Result Stop P.PictureState)) (e : ℕ)
    → length s * 8 - a < suc n
    → StepAhead s a e t
    → ((y : P.SlicesLoopState) (b : ℕ) → length s * 8 - b < n → Left s b (loop n (P.slices_step g m) d y))
    → Left s e (continue_with (loop n (P.slices_step g m) d) t)
unfolding run
left_step g m d s a n (continue y) e h k r = r y e (omega arith)
left_step g m d s a n (finish w) e h k r = k

-- each turn that goes on brings the bits left down, so the fuel is not spent
slices-ahead : (g : Context) (m : Matrices) (d : Result Stop P.PictureState) (s : List ℕ) (n : ℕ) (x : P.SlicesLoopState) (a : ℕ) → length s * 8 - a < n
    → Left s a (loop n (P.slices_step g m) d x)
unfolding loop
slices-ahead g m d s zero x a h = let z : ⊥ = omega arith in absurd z
slices-ahead g m d s (suc n) x a h =
    rw (run_bind (P.slices_step g m x) (continue_with (loop n (P.slices_step g m) d)) s a)
    (left_step g m d s a n (run (P.slices_step g m x) s a).value (run (P.slices_step g m x) s a).at h (step-ahead g m x s a)
    (λ y b. slices-ahead g m d s n y b))

all-ahead : (g : Context) (m : Matrices) (f : P.PictureState) (s : List ℕ) (a : ℕ) → length s ≤ longest_stream → Left s a (P.slices g m f)
unfolding P.slices
all-ahead g m f s a h = slices-ahead g m (ok f) s stream_fuel (P.slices_loop_state false f) a (omega arith)

turned-ahead : (t : Stores) (s : List ℕ) (e : ℕ) (w : Result Stop P.PictureState) → Ahead s e w
    → Left s e (if_ok (λ f. pure (P.with_picture (with_stores t f.picture) f)) w)
unfolding if_ok run
turned-ahead t s e (ok f) k = k
turned-ahead t s e (error q) k = tt

coded-ahead : (z : Sizes) (m : Matrices) (f : P.PictureState) (s : List ℕ) (a : ℕ) → length s ≤ longest_stream → Left s a (P.slices_in_roles z m f)
unfolding P.slices_in_roles bind_result
coded-ahead z m f s a h =
    let p = f.picture in
    let q = with_stores (P.roles_while_reading p.stores) p in
    let c = P.slices (P.context_of z q) m (P.with_picture q f) in
    by-case (Left s a) (eqb p.picture_type 3) (λ e. all-ahead (P.context_of z p) m f s a h)
    (λ e. rw (run_bind c _ s a)
    (turned-ahead (P.roles_after_reading p.stores) s (run c s a).at (run c s a).value (all-ahead (P.context_of z q) m (P.with_picture q f) s a h)))

given-ahead : (s : List ℕ) (a : ℕ) (f : P.PictureState) → a < length s * 8 → Left s a (pure f)
unfolding run
given-ahead s a f h = λ c. h

-- 40 bits at a are what a start code further on takes with the byte behind it
pub picture-ahead : (z : Sizes) (m : Matrices) (f : P.PictureState) (s : List ℕ) (a : ℕ) → length s ≤ longest_stream → a + 40 ≤ length s * 8
    → Ahead s (run (P.picture z m f) s a).at (run (P.picture z m f) s a).value
unfolding P.picture
picture-ahead z m f s a h k =
    let o = run P.picture_header s a in
    rw (run_bind P.picture_header _ s a)
    (by-case (Left s o.at) (P.is_decoded o.value) (λ e. coded-ahead z m (P.with_picture (P.with_picture_header o.value f.picture) f) s o.at h)
    (λ e. given-ahead s o.at _ (omega (arith, header-takes.most s a))))
