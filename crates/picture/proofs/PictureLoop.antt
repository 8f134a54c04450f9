-- The slices of a picture: a turn, and the loop. Assumes nothing.
use mathlib.Core.Path.{◌≡◌, refl, ap, sym, ◌∙◌}
use mathlib.Core.Bool.{Bool, true, false, not, ◌&&◌}
use mathlib.Core.List.{List}
use Prim.Native.Nat.{ℕ, zero, suc, ◌≤◌, ◌<◌}
use native.Mathlib.Omega.{arith}
use borrow.Author.Tests.{ne_eqb}
use Rattle.std.specs.Prelude.{None}
use lib.Dec.{eqb}
use lib.IntN.{ℤ, pos, nat_abs, ◌+ℤ◌}
use lib.ListN.{length}
use lib.Signed.{le_z}
use mir.Syntax.{w32}
use mir.Val.{to_z, of_z}
use mir.Facts.{to_z-of_z}
use Rattle.laws.specs.Loops.{continue, finish}
use Rattle.laws.proofs.Ints.{v, fits_by}
use Rattle.bits.specs.declared.reader.Reader.{Reader}
use Rattle.bits.specs.Programs.{stream_fuel, done, next_start_code, when◌then◌else◌}
use Rattle.bits.specs.Runs.{RunsInBounds, bits_left}
use Rattle.bits.proofs.Codes.{code_fits}
use Rattle.bits.proofs.Rules.{Loops, loop-start, loop-on, takes-less}
use Rattle.picture_state.specs.declared.types.{Picture.Picture, Context.Context, Matrices.Matrices, Slice.Slice, Progress.Progress}
use Rattle.picture_state.specs.Possible.{PossiblePicture}
use Rattle.picture_state.proofs.Possible.{between-of}
use Rattle.picture_state.specs.State.{SliceState, slice_state}
use Rattle.picture_state.specs.Result.{Result, ok, error}
use Rattle.picture_state.specs.Stop.{Stop, stop_number}
use Rattle.slice.specs.Slices.{slice}
use Rattle.picture.specs.Pictures as P
use Rattle.picture.proofs.Fuel.{slices-take}
use Rattle.picture_state.specs.declared.types.SlicesProgress.{SlicesProgress}
use Rattle.picture_state.specs.Promises.{Exit, exit, result_of, numbered, numbered_step, RunsAs, StoreFits, ReadInvariant, RefinesInSlice}
use Rattle.picture_state.proofs.Results.{t-done, t-yes, t-no, t_call, numbered-ok, error-is_not-ok, error_injective, loop-left, step_continues}
use Rattle.picture.specs.Promises.{picture_state_of, slices_step_of, RefinesSlicesStep, RefinesSlices}
use Rattle.picture.specs.CodeResults.{after_slice_of}

-- ---- a start code

pub code_read : {c : ℤ} → nat_abs c ≤ 255 → to_z w32 (of_z w32 c) ≡ c
code_read {c} h = to_z-of_z (code_fits c h)

pub start-read : {p : Picture} → PossiblePicture p → to_z w32 (of_z w32 p.start_code) ≡ p.start_code
start-read {p} k =
    let c = p.start_code in
    let b = between-of 1 255 (v c) k.code in
    to_z-of_z (fits_by {w = w32} (v c) (omega arith) (omega arith))

-- ---- a turn

module _ {g : Context} {s : List ℕ} {reader : Reader} {x : Slice} {left : List ℤ} {store : List ℕ} (k : ReadInvariant s reader x left)
    (held : StoreFits g store) (m : Matrices) (begun : Bool) {code : ℤ} {after : Reader} (found : RunsInBounds next_start_code s reader code after)
    (few : nat_abs code ≤ 255) where
  -- a slice that ended with the number n, and behind which the picture ends or not
  behind : (y : Slice) (left₁ : List ℤ) (store₁ : List ℕ) (to : Reader) (n : ℕ) (last : Bool)
      → le_z (pos g.sizes.mb_size) (y.macroblock_address +ℤ pos 1) ≡ last
      → (w : Result Stop SliceState) → numbered w ≡ result_of n (slice_state y left₁ store₁) store₁
      → RunsAs numbered_step (P.after_slice g (picture_state_of g code x left store).picture w) s to
      (slices_step_of (eqb n 0 && not last) true n (picture_state_of g code y left₁ store₁)) to
  unfolding P.after_slice
  behind y left₁ store₁ to zero true q w e = rw (numbered-ok w e) (t-yes _ q (t-done refl))
  behind y left₁ store₁ to zero false q w e = rw (numbered-ok w e) (t-no _ q (t-done refl))
  behind y left₁ store₁ to (suc n) last q (ok w) e = absurd (error-is_not-ok (sym e))
  behind y left₁ store₁ to (suc n) last q (error c) e =
      let z : eqb (suc n) 0 ≡ false = ne_eqb (suc n) 0 (λ e. omega (arith, e)) in rw z (t-done (ap finish (told c e)))
    where
      told : (c : Stop) → ◌≡◌ {A = Result Exit SliceState} (numbered (error c)) (error (exit (suc n) store₁))
          → ◌≡◌ {A = Result Exit P.PictureState} (numbered (error c)) (error (exit (suc n) store₁))
      told c e = ap error (error_injective e)

  pub refines-slice : P.is_slice code ≡ true → (w : Progress) {left₁ : List ℤ} {store₁ : List ℕ}
      → RefinesInSlice (slice g m (nat_abs code) (slice_state x left store)) g s after w left₁ store₁
      → RefinesSlicesStep g m s reader begun x left store (after_slice_of g code w) left₁ store₁
  unfolding P.slices_step
  refines-slice e w {left₁} {store₁} p = record {
    runs = λ before. t_call _ found.runs (t-yes _ e
        (t_call _ p.runs.runs (behind w.state left₁ store₁ w.reader (stop_number w.stop) _ refl p.runs.value p.runs.is)));
    reads = p.reads;
    store_fits = p.store_fits;
    few = few;
  }

  pub refines-other : P.is_slice code ≡ false → (t : Bool) → t ≡ (P.is_extra code && not begun)
      → RefinesSlicesStep g m s reader begun x left store
      (record { reader = after; code = code; state = x; begun = false; continues = t; stop = None }) left store
  unfolding P.slices_step
  refines-other e t q = record {
    runs = λ before. t_call _ found.runs (t-no _ e (picked before t (sym q)));
    reads = record { inside = found.inside; slice = k.slice; block = k.block };
    store_fits = held;
    few = few;
  }
    where
      picked : (before : ℤ) (t : Bool) → (P.is_extra code && not begun) ≡ t
          → RunsAs numbered_step (when P.is_extra code && not begun then done (continue (P.slices_loop_state false (picture_state_of g code x left store)))
          else done (finish (ok (picture_state_of g code x left store)))) s after
          (slices_step_of t false 0 (picture_state_of g code x left store)) after
      picked before true q = t-yes _ q (t-done refl)
      picked before false q = t-no _ q (t-done refl)

-- ---- the loop

-- before a start code, at `from`; the code that came before does not matter
pub record AtSlices (g : Context) (m : Matrices) (s : List ℕ) (from₀ : Reader) (f₀ : P.PictureState) (begun : Bool) (from : Reader)
    (x : Slice) (left : List ℤ) (store : List ℕ) : Type 0 where
  pub code : ℤ
  pub reads : ReadInvariant s from x left
  pub store_fits : StoreFits g store
  pub long : length store ≡ length f₀.store
  pub rest : Loops stream_fuel (P.slices_step g m) (ok f₀) (P.slices_loop_state false f₀) s from₀
      (P.slices_loop_state begun (picture_state_of g code x left store)) from (bits_left s from)

pub at-slices : {g : Context} {m : Matrices} {s : List ℕ} {from : Reader} {x : Slice} {left : List ℤ} {store : List ℕ} (code : ℤ)
    → ReadInvariant s from x left → StoreFits g store → AtSlices g m s from (picture_state_of g code x left store) false from x left store
at-slices code k h = record { code = code; reads = k; store_fits = h; long = refl; rest = loop-start (omega (arith, k.inside.stream)) }

module _ {g : Context} {m : Matrices} {s : List ℕ} {from₀ : Reader} {f₀ : P.PictureState} {begun : Bool} {from : Reader} {x : Slice}
    {left : List ℤ} {store : List ℕ} (i : AtSlices g m s from₀ f₀ begun from x left store)
    {r : SlicesProgress} {left₁ : List ℤ} {store₁ : List ℕ} (t : RefinesSlicesStep g m s from begun x left store r left₁ store₁) where
  pub slices-end : r.continues ≡ false → RefinesSlices (P.slices g m f₀) g s from₀ r left₁ store₁
  unfolding P.slices
  slices-end e = record { runs = loop-left i.rest (rw e at (t.runs i.code)); reads = t.reads; store_fits = t.store_fits; few = t.few }

  pub slices-less : r.continues ≡ true → bits_left s r.reader < bits_left s from
  slices-less e = takes-less (P.slices_step g m) (slices-take g m s) (step_continues (rw e at (t.runs i.code)))

  pub slices-on : r.continues ≡ true → length store₁ ≡ length store
      → AtSlices g m s from₀ f₀ r.begun r.reader r.state left₁ store₁
  slices-on e l = record {
    code = r.code;
    reads = t.reads;
    store_fits = t.store_fits;
    long = l ∙ i.long;
    rest = loop-on i.rest (step_continues (rw e at (t.runs i.code))) (slices-less e);
  }
