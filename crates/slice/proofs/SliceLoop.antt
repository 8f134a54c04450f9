-- A slice: its extra bytes, its start, and the loop over its macroblocks. Assumes nothing.
use mathlib.Core.Path.{◌≡◌, refl, ap, sym, ◌∙◌}
use mathlib.Core.Bool.{Bool, true, false, cond, false≢true}
use mathlib.Core.List.{List}
use Prim.Native.Nat.{ℕ, ◌+◌, ◌-◌, ◌*◌, ◌≤◌, ◌<◌}
use native.Mathlib.Nat.{mul-le-mul}
use native.Mathlib.Omega.{arith}
use borrow.Author.Tests.{eq-eqb, ne_eqb}
use lib.IntN.{ℤ, pos, ◌+ℤ◌, ◌-ℤ◌}
use lib.ListN.{length}
use lib.Signed.{le_z}
use mir.Syntax.{w32}
use mir.Val.{SFits, to_z, of_z}
use mir.Facts.{to_z-of_z}
use Rattle.laws.specs.Loops.{continue, finish}
use Rattle.laws.proofs.Ints.{Dif, v, lit, ◌⊕◌, ◌⊖◌, low, eq-by, yes_le, fits_by}
use Rattle.laws.proofs.Tests.{both}
use Rattle.bits.specs.declared.reader.Reader.{Reader}
use Rattle.bits.specs.Programs.{bits, read_at_most32, skips, non_zero, stream_fuel, done}
use Rattle.bits.specs.Runs.{Runs, ReaderInBounds, RunsInBounds, bits_left}
use Rattle.bits.proofs.Gives.{given_by, g-bits}
use Rattle.bits.proofs.Rules.{Loops, loop-start, loop-on, loop-end, takes-less, r-call, r-yes, r-no, r-done, r-reads}
use Rattle.picture_state.specs.State.{SliceState, slice_state}
use Rattle.picture_state.specs.Result.{Result, ok, error}
use Rattle.picture_state.specs.Stop.{Stop, stop_number}
use Rattle.picture_state.specs.Possible.{PossibleSlice}
use Rattle.macroblock.specs.Macroblocks.{macroblock}
use Rattle.slice.specs.Slices.{slice_loop_state, extra_step, extra, after_macroblock, slice_step, slice_start, slice}
use Rattle.picture_state.proofs.Possible.{between-of, between-by}
use Rattle.macroblock_head.proofs.Kept.{still_kept}
use Rattle.picture_state.proofs.Kept.{predictors-reset}
use Rattle.slice.proofs.Fuel.{extra-takes, slice_takes}
use Rattle.picture_state.specs.declared.types.{Context.Context, Matrices.Matrices, Slice.Slice, Progress.Progress}
use Rattle.slice.specs.Promises.{slice_step_of, macroblocks, RefinesAfterMacroblock, RefinesMacroblocks}
use Rattle.picture_state.specs.Promises.{Exit, exit, numbered, numbered_step, RunsAs, RunsNumbered, StoreFits, ReadInvariant, RefinesInSlice}
use Rattle.macroblock.specs.Promises.{AddressSumBound, IncrementInvariant}
use Rattle.picture_state.proofs.Results.{t-done, t-yes, t-no, t_call, numbered-ok, error-is_not-ok, loop-left, step_continues, nonzero-is-error}

-- ---- the extra bytes

pub record AtExtra (s : List ℕ) (from₀ from : Reader) : Type 0 where
  pub inside : ReaderInBounds s from
  pub rest : Loops stream_fuel extra_step tt tt s from₀ tt from (bits_left s from)

pub at-extra : {s : List ℕ} {from : Reader} → ReaderInBounds s from → AtExtra s from from
at-extra i = record { inside = i; rest = loop-start (omega (arith, i.stream)) }

module _ {s : List ℕ} {from₀ from to : Reader} (i : AtExtra s from₀ from) {b : ℕ} (r : RunsInBounds (bits 1) s from b to) where
  pub extra-end : b ≡ 0 → RunsInBounds extra s from₀ tt to
  unfolding extra extra_step
  extra-end h = record { runs = loop-end i.rest (r-call _ r.runs (r-yes _ (eq-eqb b 0 h) r-done)); inside = r.inside }

  module _ (h : b ≡ 0 → ⊥) {next : Reader} (q : RunsInBounds (skips 8) s to tt next) where
    extra-step : Runs (extra_step tt) s from (continue tt) next
    unfolding extra_step
    extra-step = r-call _ r.runs (r-no _ (ne_eqb b 0 h) (r-call _ q.runs r-done))

    pub extra-less : bits_left s next < bits_left s from
    extra-less = takes-less extra_step (extra-takes s) extra-step

    pub extra-on : AtExtra s from₀ next
    extra-on = record { inside = q.inside; rest = loop-on i.rest extra-step extra-less }

-- ---- the start

module _ (number width : ℕ) (h : number ≤ 175) (k : width ≤ 256) where
  pub rows : (number - 1) * width ≤ 44544
  rows = let m : number - 1 ≤ 174 = omega arith in omega (arith, mul-le-mul m k)

  pub rows_fit : SFits w32 (pos ((number - 1) * width))
  rows_fit = fits_by (lit ((number - 1) * width)) (omega (arith, rows)) (omega arith)

  -- the address, as the code has it
  start-dif : Dif (to_z w32 ((number - 1) * width) -ℤ pos 1) ((number - 1) * width + 0) (0 + 1)
  start-dif = low w32 ((number - 1) * width) ((number - 1) * width) refl (omega (arith, rows)) ⊖ lit 1

  pub start_fits : SFits w32 (to_z w32 ((number - 1) * width) -ℤ pos 1)
  start_fits = fits_by start-dif (omega (arith, rows)) (omega arith)

  pub start_is : to_z w32 (of_z w32 (to_z w32 ((number - 1) * width) -ℤ pos 1)) ≡ pos ((number - 1) * width) -ℤ pos 1
  start_is = to_z-of_z start_fits ∙ eq-by start-dif (lit ((number - 1) * width) ⊖ lit 1) refl

module _ {s : List ℕ} {reader from to : Reader} {g : Context} {x : Slice} {left : List ℤ} {store : List ℕ} (k : ReadInvariant s reader x left)
    (held : StoreFits g store) (number : ℕ) (h : number ≤ 175) {q : ℕ} (r : RunsInBounds (read_at_most32 5) s reader q from)
    (e : RunsInBounds extra s from tt to) where
  scale-read : Runs (bits 5) s reader q from
  scale-read = r-reads 5 (omega arith) r.runs

  pub start-awaits : IncrementInvariant g s to true (slice_start g number q x) left store
  start-awaits =
      let a = lit ((number - 1) * g.sizes.mb_width) ⊖ lit 1 in
      let m = rows number g.sizes.mb_width h held.across in
      let z = still_kept k.slice in
      record {
        reads = record {
          inside = e.inside;
          slice = record {
            scale = omega (arith, given_by (g-bits 5) scale-read);
            address = between-by 1 402700000 a (omega arith) (omega arith);
            forward = z.forward;
            backward = z.backward;
            predictors = predictors-reset;
          };
          block = k.block;
        };
        store_fits = held;
        begins = λ z. yes_le a (lit 44543) (omega arith);
        later = λ z. absurd (false≢true (sym z));
      }

  pub slice-runs : (m : Matrices) {y : Slice} → y ≡ slice_start g number q x → {w : Result Exit SliceState} {end : Reader}
      → RunsNumbered (macroblocks g m (ok (slice_state x left store)) (slice_state y left store)) s to w end
      → RunsNumbered (slice g m number (slice_state x left store)) s reader w end
  unfolding slice
  slice-runs m i r = t_call _ scale-read (t_call _ e.runs (rw i at r))

-- ---- behind a macroblock

pub adds_one : {x : Slice} → PossibleSlice x → AddressSumBound x.macroblock_address 1
adds_one {x} k =
    let a = x.macroblock_address in
    let b = between-of 1 402700000 (v a) k.address in
    record { from = (both _ _ k.address).0; to = yes_le (v a ⊕ lit 1) (lit 402800000) (omega arith) }

module _ {g : Context} {s : List ℕ} {reader : Reader} {x : Slice} {n : ℕ} where
  pub goes-stop : (n ≡ 0 → ⊥) → RefinesAfterMacroblock g s reader x n false
  unfolding after_macroblock
  goes-stop h =
      record {
        runs = λ w left store k. left_so w (slice_state x left store) store (k ∙ nonzero-is-error (slice_state x left store) store h);
        later = λ z. absurd (false≢true z);
      }
    where
      left_so : (w : Result Stop SliceState) (y : SliceState) (store : List ℕ) → numbered w ≡ error (exit n store)
          → RunsAs numbered_step (after_macroblock g w) s reader (slice_step_of false n y store) reader
      left_so (ok v) y store k = absurd (error-is_not-ok (sym k))
      left_so (error e) y store k = t-done (ap finish (k ∙ sym (nonzero-is-error y store h)))

  pub goes_last : n ≡ 0 → le_z (pos g.sizes.mb_size) (x.macroblock_address +ℤ pos 1) ≡ true → RefinesAfterMacroblock g s reader x n false
  unfolding after_macroblock
  goes_last z e = record { runs = λ w left store k. rw (z, numbered-ok w (rw z at k)) (t-yes _ e (t-done refl)); later = λ z. absurd (false≢true z) }

  pub goes-more : n ≡ 0 → le_z (pos g.sizes.mb_size) (x.macroblock_address +ℤ pos 1) ≡ false → {more : Bool} {to : Reader}
      → RunsInBounds (non_zero 23) s reader more to → to ≡ reader → RefinesAfterMacroblock g s reader x n more
  unfolding after_macroblock
  goes-more z e {more} r same =
      record {
        runs = λ w left store k. rw (z, numbered-ok w (rw z at k))
            (t-no _ e (t_call _ (rw same at r.runs) (picked more (slice_state x left store) store)));
        later = λ m. e;
      }
    where
      picked : (t : Bool) (w : SliceState) (store : List ℕ)
          → RunsAs numbered_step (cond t (done (continue (slice_loop_state false w))) (done (finish (ok w)))) s reader (slice_step_of t 0 w store) reader
      picked true w store = t-done refl
      picked false w store = t-done refl

-- ---- the loop

-- before a macroblock, at `from`
pub record AtMacroblock (g : Context) (m : Matrices) (s : List ℕ) (from₀ : Reader) (x₀ : Slice) (left₀ : List ℤ) (store₀ : List ℕ)
    (first : Bool) (from : Reader) (x : Slice) (left : List ℤ) (store : List ℕ) : Type 0 where
  pub awaits : IncrementInvariant g s from first x left store
  pub long : length store ≡ length store₀
  pub rest : (w₀ : Result Stop SliceState)
      → Loops stream_fuel (slice_step g m) w₀ (slice_loop_state true (slice_state x₀ left₀ store₀)) s from₀
      (slice_loop_state first (slice_state x left store)) from (bits_left s from)

pub at-macroblock : {g : Context} {m : Matrices} {s : List ℕ} {from : Reader} {x : Slice} {left : List ℤ} {store : List ℕ}
    → IncrementInvariant g s from true x left store → AtMacroblock g m s from x left store true from x left store
at-macroblock k = record { awaits = k; long = refl; rest = λ w₀. loop-start (omega (arith, k.reads.inside.stream)) }

module _ {g : Context} {m : Matrices} {s : List ℕ} {from₀ : Reader} {x₀ : Slice} {left₀ : List ℤ} {store₀ : List ℕ}
    {first : Bool} {from : Reader} {x : Slice} {left : List ℤ} {store : List ℕ}
    (i : AtMacroblock g m s from₀ x₀ left₀ store₀ first from x left store) {r : Progress} {left₁ : List ℤ} {store₁ : List ℕ}
    (p : RefinesInSlice (macroblock g m first (slice_state x left store)) g s from r left₁ store₁)
    {more : Bool} (q : RefinesAfterMacroblock g s r.reader r.state (stop_number r.stop) more) where
  macroblock-step : RunsAs numbered_step (slice_step g m (slice_loop_state first (slice_state x left store))) s from
      (slice_step_of more (stop_number r.stop) (slice_state r.state left₁ store₁) store₁) r.reader
  unfolding slice_step
  macroblock-step = t_call _ p.runs.runs (q.runs p.runs.value left₁ store₁ p.runs.is)

  pub slice-end : more ≡ false → RefinesMacroblocks (λ w₀. macroblocks g m w₀ (slice_state x₀ left₀ store₀)) g s from₀ r left₁ store₁
  slice-end e =
      record { passed = λ w₀. record { runs = loop-left (i.rest w₀) (rw e at macroblock-step); reads = p.reads; store_fits = p.store_fits } }

  pub slice-less : more ≡ true → bits_left s r.reader < bits_left s from
  slice-less e = takes-less (slice_step g m) (slice_takes g m s) (step_continues (rw e at macroblock-step))

  pub slice-on : more ≡ true → length store₁ ≡ length store
      → AtMacroblock g m s from₀ x₀ left₀ store₀ false r.reader r.state left₁ store₁
  slice-on e l = record {
    awaits = record { reads = p.reads; store_fits = p.store_fits; begins = λ z. absurd (false≢true z); later = λ z. q.later e };
    long = l ∙ i.long;
    rest = λ w₀. loop-on (i.rest w₀) (step_continues (rw e at macroblock-step)) (slice-less e);
  }
