-- The first macroblock of a slice, as the code goes to it. Assumes nothing.
use mathlib.Core.Path.{◌≡◌, refl, sym, ◌∙◌}
use mathlib.Core.Bool.{Bool, true, false, ◌||◌}
use mathlib.Core.List.{List}
use Prim.Native.Nat.{ℕ, ◌≤◌}
use native.Mathlib.Omega.{arith}
use Rattle.std.specs.Prelude.{None}
use lib.IntN.{ℤ, pos, ◌+ℤ◌}
use lib.Signed.{lt_z, le_z}
use mir.Syntax.{w32, w64}
use mir.Val.{to_z, of_z}
use Rattle.laws.proofs.Ints.{up, dn, v, lit, neg, ◌⊕◌, lt_no, le-no, le_yes, cast-by, cast_is}
use Rattle.bits.specs.declared.reader.Reader.{Reader}
use Rattle.picture_state.specs.declared.types.{Context.Context, Matrices.Matrices, Slice.Slice, Progress.Progress}
use Rattle.picture_state.specs.Possible.{PossibleSlice}
use Rattle.macroblock.specs.Macroblocks.{body, first_macroblock}
use Rattle.picture_state.specs.State.{slice_state, with_address}
use Rattle.picture_state.specs.Promises.{StoreFits, AddressInPicture, ReadInvariant, MacroblockInvariant, RefinesAtMacroblock, RefinesInSlice}
use Rattle.macroblock.specs.Promises.{AdvanceInvariant}
use Rattle.picture_state.proofs.Possible.{between-by}
use Rattle.picture_state.proofs.Ready.{size-most}
use Rattle.picture_state.proofs.Signed.{address_read}
use Rattle.picture_state.proofs.Results.{t-done, t-yes, t-no}

-- neither before the first nor past the last
here-by : {g : Context} {store : List ℕ} (a : ℤ) → StoreFits g store → (lt_z a (pos 0) || le_z (pos g.sizes.mb_size) a) ≡ false → AddressInPicture g a
here-by {g} a k e = go (lt_z a (pos 0)) refl e
  where
    go : (t : Bool) → lt_z a (pos 0) ≡ t → (t || le_z (pos g.sizes.mb_size) a) ≡ false → AddressInPicture g a
    go true p q = absurd (let z : ◌≡◌ {A = ℕ} 0 1 = cc in omega arith)
    go false p q =
        let low : dn a ≤ up a = omega (arith, lt_no (v a) (lit 0) p) in
        let high = le-no (lit g.sizes.mb_size) (v a) q in
        record {
          natural = (cast-by {w = w64} (v a) low (omega (arith, high, size-most k))).0;
          below = omega (arith, cast_is (v a) low, high, k.size);
        }

module _ {g : Context} {x y : Slice} {n : ℕ} {left : List ℤ} {store s : List ℕ} {reader : Reader}
    (k : AdvanceInvariant g s reader x n left store) (is : y ≡ with_address (x.macroblock_address +ℤ pos n) x) where
  pub further-possible : PossibleSlice y
  further-possible =
      let p = k.reads.slice in
      let a = x.macroblock_address in
      rw is
      (record {
        scale = p.scale;
        address = between-by 1 402700000 (v a ⊕ lit n) (omega (arith, le_yes (neg (lit 1)) (v a) k.reaches.from))
            (omega (arith, le_yes (v a ⊕ lit n) (lit 402700000) k.reaches.to));
        forward = p.forward;
        backward = p.backward;
        predictors = p.predictors;
      })

  further-reads : ReadInvariant s reader y left
  further-reads = record { inside = k.reads.inside; slice = further-possible; block = k.reads.block }

  -- the test, as the code reads the address
  pub outside_read : {t : Bool} → t ≡ (lt_z (to_z w32 (of_z w32 y.macroblock_address)) (pos 0)
      || le_z (pos g.sizes.mb_size) (to_z w32 (of_z w32 y.macroblock_address)))
      → t ≡ (lt_z y.macroblock_address (pos 0) || le_z (pos g.sizes.mb_size) y.macroblock_address)
  outside_read e = rw (address_read further-possible) at e

  module _ {t : Bool} (at : t ≡ (lt_z y.macroblock_address (pos 0) || le_z (pos g.sizes.mb_size) y.macroblock_address)) where
    pub first_nowhere : (m : Matrices) → t ≡ true
        → RefinesInSlice (first_macroblock g m n (slice_state x left store)) g s reader (record { reader = reader; state = y; stop = None }) left store
    unfolding first_macroblock
    first_nowhere m e = let q = rw is at (sym at ∙ e) in record { runs = rw is (t-yes _ q (t-done refl)); reads = further-reads; store_fits = k.store_fits }

    pub first-ready : t ≡ false → MacroblockInvariant g s reader y left store
    first-ready e = record { reads = further-reads; store_fits = k.store_fits; here = here-by y.macroblock_address k.store_fits (sym at ∙ e) }

    pub first_body : (m : Matrices) → t ≡ false → {r : Progress} {left₁ : List ℤ} {store₁ : List ℕ}
        → RefinesAtMacroblock (body g m (slice_state y left store)) g s reader r left₁ store₁
        → RefinesInSlice (first_macroblock g m n (slice_state x left store)) g s reader r left₁ store₁
    unfolding first_macroblock
    first_body m e w =
        let q = rw is at (sym at ∙ e) in
        record { runs = t-no _ q (rw is at w.runs); reads = w.ready.reads; store_fits = w.ready.store_fits }
