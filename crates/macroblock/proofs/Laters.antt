-- A later macroblock, and the choice between the first and a later one, as the code goes. Assumes nothing.
use mathlib.Core.Path.{◌≡◌, refl, ◌∙◌}
use mathlib.Core.Bool.{Bool, true, false}
use mathlib.Core.List.{List}
use Prim.Native.Nat.{ℕ, ◌+◌, ◌*◌, ◌≤◌}
use native.Mathlib.Omega.{arith}
use Rattle.std.specs.Prelude.{Option, None}
use Rattle.picture_state.specs.declared.types.StopMark.{StopMark}
use Rattle.picture_state.specs.Stop.{stop_number}
use lib.IntN.{ℤ, pos, neg_ℤ, ◌+ℤ◌}
use lib.ListN.{length}
use lib.Signed.{le_z}
use Rattle.laws.proofs.Ints.{v, lit, ◌⊕◌, le_yes, le-no, yes_le}
use Rattle.laws.proofs.Tests.{both}
use Rattle.bits.specs.declared.reader.Reader.{Reader}
use Rattle.bits.specs.Runs.{RunsInBounds}
use Rattle.bits.proofs.Gives.{given_by}
use Rattle.picture_state.specs.declared.types.{Context.Context, Matrices.Matrices, Slice.Slice, Progress.Progress}
use Rattle.macroblock_head.specs.Increments.{increment}
use Rattle.macroblock.specs.Macroblocks.{body, first_macroblock, later_macroblock, macroblock}
use Rattle.picture_state.specs.State.{slice_state}
use Rattle.picture_state.specs.Promises.{ReadInvariant, MacroblockInvariant, RefinesAtMacroblock, RefinesInSlice}
use Rattle.macroblock.specs.Promises.{AdvanceInvariant, LaterInvariant, IncrementInvariant, RefinesAdvance}
use Rattle.macroblock_head.proofs.IncrementBound.{increment-most}
use Rattle.picture_state.proofs.Ready.{held_on, size-most}
use Rattle.picture_state.proofs.Results.{t-done, t-yes, t-no, r-lift, r-bind, r_if-ok, nonzero-is-error}

-- ---- a later macroblock

module _ {g : Context} {x : Slice} {n : ℕ} {left : List ℤ} {store s : List ℕ} {reader : Reader}
    (k : LaterInvariant g s reader x n left store) where
  pub later-past : (m : Matrices) → le_z (pos g.sizes.mb_size) (x.macroblock_address +ℤ pos n) ≡ true
      → RefinesInSlice (later_macroblock g m n (slice_state x left store)) g s reader (record { reader = reader; state = x; stop = None }) left store
  unfolding later_macroblock
  later-past m e = record { runs = t-yes _ e (t-done refl); reads = k.reads; store_fits = k.store_fits }

  module _ {y : Slice} {mark : ℕ} {store₁ : List ℕ} (e : le_z (pos g.sizes.mb_size) (x.macroblock_address +ℤ pos n) ≡ false)
      (a : RefinesAdvance g n x store y mark store₁) (long : length store₁ ≡ length store) where
    later-reads : ReadInvariant s reader y left
    later-reads = record { inside = k.reads.inside; slice = a.possible k.reads.slice; block = k.reads.block }

    pub later-stop : (m : Matrices) {stop : Option StopMark} → mark ≡ stop_number stop → (mark ≡ 0 → ⊥)
        → RefinesInSlice (later_macroblock g m n (slice_state x left store)) g s reader (record { reader = reader; state = y; stop = stop }) left store₁
    unfolding later_macroblock
    later-stop m is h =
        let o = nonzero-is-error (slice_state y left store₁) store₁ h in
        record { runs = t-no _ e (rw (← is, o) (r_if-ok _ (t-done (a.is left ∙ o)))); reads = later-reads; store_fits = held_on k.store_fits long }

    pub later-ready : mark ≡ 0 → MacroblockInvariant g s reader y left store₁
    later-ready z = record { reads = later-reads; store_fits = held_on k.store_fits long; here = a.here z k.more }

    pub later-body : (m : Matrices) → mark ≡ 0 → {r : Progress} {left₁ : List ℤ} {store₂ : List ℕ}
        → RefinesAtMacroblock (body g m (slice_state y left store₁)) g s reader r left₁ store₂
        → RefinesInSlice (later_macroblock g m n (slice_state x left store)) g s reader r left₁ store₂
    unfolding later_macroblock
    later-body m z w =
        record { runs = t-no _ e (r-bind _ (t-done (rw z at (a.is left))) w.runs); reads = w.ready.reads; store_fits = w.ready.store_fits }

-- ---- the increment, and where it leads

module _ {g : Context} {first : Bool} {x : Slice} {left : List ℤ} {store s : List ℕ} {reader after : Reader} {n : ℕ}
    (k : IncrementInvariant g s reader first x left store) (r : RunsInBounds increment s reader n after) where
  small : n ≤ 402653217
  small = let m : n ≤ 24 * length s + 33 = given_by (increment-most s) r.runs in omega (arith, k.reads.inside.stream)

  low : le_z (neg_ℤ (pos 1)) x.macroblock_address ≡ true
  low = (both _ _ k.reads.slice.address).0

  after-reads : ReadInvariant s after x left
  after-reads = record { inside = r.inside; slice = k.reads.slice; block = k.reads.block }

  pub begun : first ≡ true → AdvanceInvariant g s after x n left store
  begun e =
      let a = x.macroblock_address in
      record {
        reads = after-reads;
        store_fits = k.store_fits;
        reaches = record {
          from = low;
          to = yes_le (v a ⊕ lit n) (lit 402700000) (omega (arith, small, le_yes (v a) (lit 44543) (k.begins e)));
        };
      }

  pub between : first ≡ false → LaterInvariant g s after x n left store
  between e =
      let a = x.macroblock_address in
      let m = le-no (lit g.sizes.mb_size) (v a ⊕ lit 1) (k.later e) in
      record {
        reads = after-reads;
        store_fits = k.store_fits;
        adds = record { from = low; to = yes_le (v a ⊕ lit n) (lit 402800000) (omega (arith, small, size-most k.store_fits, m)) };
        more = k.later e;
      }

  module _ (m : Matrices) {p : Progress} {left₁ : List ℤ} {store₁ : List ℕ} where
    pub macroblock-first : first ≡ true → RefinesInSlice (first_macroblock g m n (slice_state x left store)) g s after p left₁ store₁
        → RefinesInSlice (macroblock g m first (slice_state x left store)) g s reader p left₁ store₁
    unfolding macroblock
    macroblock-first e w = record { runs = r-lift _ r.runs (t-yes _ e w.runs); reads = w.reads; store_fits = w.store_fits }

    pub macroblock-later : first ≡ false → RefinesInSlice (later_macroblock g m n (slice_state x left store)) g s after p left₁ store₁
        → RefinesInSlice (macroblock g m first (slice_state x left store)) g s reader p left₁ store₁
    unfolding macroblock
    macroblock-later e w = record { runs = r-lift _ r.runs (t-no _ e w.runs); reads = w.reads; store_fits = w.store_fits }
