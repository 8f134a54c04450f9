-- A block of a macroblock: as the code reads it, and what it leaves. Assumes nothing.
use mathlib.Core.Path.{◌≡◌, refl, ap, ◌∙◌}
use mathlib.Core.Bool.{Bool, true, false}
use mathlib.Core.List.{List, [], ◌∷◌}
use mathlib.Core.Logic.{⊎_elim}
use Prim.Native.Nat.{ℕ, ◌<◌}
use native.Mathlib.Omega.{arith}
use denote.Enum.Declared.{tag_of}
use mir.Syntax.{w32}
use mir.Val.{to_z, of_z}
use types.Run.{OneOf}
use lib.Dec.{ltb}
use Rattle.std.specs.Prelude.{Some, None}
use Rattle.picture_state.specs.declared.types.StopMark.TheVariants.{DcOutside}
use lib.IntN.{ℤ, pos, nat_abs}
use lib.ListN.{length, get_or}
use Rattle.bits.specs.declared.reader.Reader.{Reader}
use Rattle.bits.specs.Runs.{Runs, RunsInBounds}
use Rattle.bits.proofs.Rules.{r_inner}
use Rattle.bits.proofs.Gives.{given_by}
use Rattle.codes.specs.DecodingTables.{matrix_of}
use Rattle.coefficients.specs.declared.block.BlockEnd.{BlockEnd}
use Rattle.coefficients.specs.declared.block.BlockEnd.TheVariants.{Complete, Dropped, DcOutOfRange}
use Rattle.coefficients.specs.declared.quantiser.Quantiser.{Quantiser}
use Rattle.coefficients.specs.Blocks.{BlockCoefficients, BlockRead, reconstructed, block, block_data_after}
use Rattle.coefficients.specs.Syntax.{coded_block}
use Rattle.coefficients.specs.contracts.block.BlockEnd.{the_type}
use Rattle.coefficients.proofs.Kept.{Kept, block-gives}
use Rattle.picture_state.specs.declared.types.{Context.Context, Slice.Slice}
use Rattle.picture_state.specs.State.{SliceState, slice_state}
use Rattle.picture_state.specs.Result.{Result, ok, error}
use Rattle.picture_state.specs.Stop.{stop, dc_outside}
use Rattle.blocks.specs.Blocks.{predictor_of, with_dc_predictor, dc_predictor, quantiser_of, written, block_result, matrix_for, one_block}
use Rattle.picture_state.specs.Promises.{Exit, numbered, RunsNumbered, matrices_in, MacroblockInvariant, RefinesAtMacroblock}
use Rattle.blocks.specs.Promises.{block_program, store_after}
use Rattle.picture_state.specs.Possible.{PossibleSlice}
use Rattle.picture_state.proofs.Results.{t-done, r-lift}
use Rattle.picture_state.proofs.Signed.{inside-read}
use Rattle.blocks.proofs.Ready.{ready-block, ready-outside}

-- a block that is not whole is not written, and leaves its coefficients over
pub not-whole : (g : Context) (q : Quantiser) (number address : ℕ) (f : BlockCoefficients) (p : ℤ) (e : BlockEnd) (l : List ℕ)
    → (e ≡ Complete → ⊥) → let r : BlockRead = record { block_coefficients = f; predictor = p; end = e } in
    (l ≡ store_after g q number address r l) × (f.coefficients ≡ block_data_after q r)
unfolding store_after block_data_after
not-whole g q number address f p Complete l k = absurd (k refl)
not-whole g q number address f p Dropped l k = (refl, refl)
not-whole g q number address f p DcOutOfRange l k = (refl, refl)

-- the matrix of a kind of blocks is the one among the tables
matrix-for : (t : List ℕ) (intra : Bool) → matrix_for (matrices_in t) intra ≡ matrix_of t intra
matrix-for t true = refl
matrix-for t false = refl

-- a block's predictor, as the code reads it at the place k
pub predictor_read : {x : Slice} {number k : ℕ} → PossibleSlice x → number < 6 → k ≡ predictor_of number
    → to_z w32 (of_z w32 (get_or x.dc_predictor k (pos 0))) ≡ dc_predictor number x
predictor_read {x} {number} {k} p few is = inside-read _ (p.predictors k (omega arith)) ∙ ap (λ (j : ℕ). get_or x.dc_predictor j (pos 0)) is

module _ (g : Context) (t : List ℕ) (intra : Bool) (number : ℕ) (x : Slice) (left : List ℤ) (store : List ℕ) where
  abbrev q : Quantiser
  q = quantiser_of g intra x

  -- the end of a block other than one outside
  on-end : (d : ℤ) (r : BlockRead) → (r.end ≡ DcOutOfRange → ⊥)
      → block_result g q number (slice_state x left store) d r
      ≡ ok (slice_state (with_dc_predictor number r.predictor x) (block_data_after q r) (store_after g q number (nat_abs x.macroblock_address) r store))
  unfolding block_result store_after written
  on-end d r k = go r.end k
    where
      go : (e : BlockEnd) → (e ≡ DcOutOfRange → ⊥)
          → let r₁ : BlockRead = record { block_coefficients = r.block_coefficients; predictor = r.predictor; end = e } in
          block_result g q number (slice_state x left store) d r₁
          ≡ ok (slice_state (with_dc_predictor number r.predictor x) (block_data_after q r₁) (store_after g q number (nat_abs x.macroblock_address) r₁ store))
      go Complete k = refl
      go Dropped k = refl
      go DcOutOfRange k = absurd (k refl)

  out-end : (d : ℤ) (r : BlockRead) → r.end ≡ DcOutOfRange → block_result g q number (slice_state x left store) d r
      ≡ error (stop (dc_outside (nat_abs x.macroblock_address) number (dc_predictor number x) d) store)
  unfolding block_result
  out-end d r k = rw k

  -- a block that was read, with the predictor p
  module _ {s : List ℕ} {from to : Reader} {r : BlockRead} {q₁ : Quantiser} {p : ℤ} (ready : MacroblockInvariant g s from x left store) (few : number < 6)
      (same : q₁ ≡ q) (is : p ≡ dc_predictor number x)
      (reads : RunsInBounds (block q₁ (matrix_of t q₁.intra) (ltb number 4) p left) s from r to) where
    pub kept : Kept r
    kept =
        let k = ready.reads.slice in
        given_by
        (block-gives q₁ (matrix_of t q₁.intra) p left (rw is (k.predictors (predictor_of number) (omega arith))) ready.reads.block (ltb number 4))
        reads.runs

    block_of : Runs (block_program g (matrices_in t) intra number x left) s from r to
    block_of = rw (matrix-for t intra, ← is) (rw same at reads.runs)

    -- the block as it is coded, and what comes of it whatever its difference is
    end-runs : {w : Result Exit SliceState} → ((d : ℤ) → numbered (block_result g q number (slice_state x left store) d r) ≡ w)
        → RunsNumbered (one_block g (matrices_in t) intra number (slice_state x left store)) s from w to
    unfolding one_block block
    end-runs h =
        let o = r_inner {p = coded_block q.intra (ltb number 4) (dc_predictor number x)}
        (reconstructed q (matrix_for (matrices_in t) intra) (dc_predictor number x) left) block_of in
        let d = o.0.difference in
        r-lift _ o.1 (t-done (ap (λ (r : BlockRead). numbered (block_result g q number (slice_state x left store) d r)) o.2 ∙ h d))

    pub block_out : r.end ≡ DcOutOfRange
        → RefinesAtMacroblock (one_block g (matrices_in t) intra number (slice_state x left store)) g s from
        (record { reader = to; state = x; stop = Some DcOutside }) r.block_coefficients.coefficients
        store
    block_out k = record { runs = end-runs (λ d. ap numbered (out-end d r k)); ready = ready-outside ready reads.inside kept.bounded }

    pub block_on : {store₁ : List ℕ} {left₁ : List ℤ} {y : Slice} → (r.end ≡ DcOutOfRange → ⊥)
        → store₁ ≡ store_after g q₁ number (nat_abs x.macroblock_address) r store → left₁ ≡ block_data_after q₁ r
        → y ≡ with_dc_predictor number r.predictor x → length store₁ ≡ length store
        → RefinesAtMacroblock (one_block g (matrices_in t) intra number (slice_state x left store)) g s from
        (record { reader = to; state = y; stop = None }) left₁ store₁
    block_on k u l y e =
        record {
          runs = end-runs (λ d. rw (u, l, y, same) (ap numbered (on-end d r k)));
          ready = ready-block ready q₁ number r reads.inside kept.bounded kept.predictor y l e;
        }
