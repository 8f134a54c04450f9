-- What the functions ask holds behind a block, too. Assumes nothing.
use mathlib.Core.Path.{◌≡◌, refl}
use mathlib.Core.Bool.{true}
use mathlib.Core.List.{List}
use Prim.Native.Nat.{ℕ}
use lib.IntN.{ℤ}
use lib.ListN.{length}
use Rattle.bits.specs.declared.reader.Reader.{Reader}
use Rattle.bits.specs.Runs.{ReaderInBounds}
use Rattle.coefficients.specs.declared.quantiser.Quantiser.{Quantiser}
use Rattle.coefficients.specs.Blocks.{BlockRead, block_data_after}
use Rattle.codes.specs.Matrices.{Bounded}
use Rattle.coefficients.specs.Dcs.{dc_in_range}
use Rattle.blocks.specs.Blocks.{predictor_of, with_dc_predictor}
use Rattle.picture_state.proofs.Kept.{predictors-kept, predictors-set}
use Rattle.coefficients.proofs.Kept.{left-bounded}
use Rattle.picture_state.specs.declared.types.{Context.Context, Slice.Slice}
use Rattle.picture_state.specs.Promises.{MacroblockInvariant}
use Rattle.picture_state.proofs.Ready.{ready_on}

module _ {g : Context} {s : List ℕ} {reader : Reader} {x : Slice} {left : List ℤ} {store : List ℕ} (k : MacroblockInvariant g s reader x left store) where
  -- behind a block that was read
  pub ready-block : (q : Quantiser) (number : ℕ) (r : BlockRead) {reader₁ : Reader} {x₁ : Slice} {left₁ : List ℤ} {store₁ : List ℕ}
      → ReaderInBounds s reader₁ → Bounded r.block_coefficients.coefficients → dc_in_range r.predictor ≡ true
      → x₁ ≡ with_dc_predictor number r.predictor x → left₁ ≡ block_data_after q r → length store₁ ≡ length store
      → MacroblockInvariant g s reader₁ x₁ left₁ store₁
  ready-block q number r p b d i l e =
      rw (i, l)
      (ready_on k p
      (predictors-kept k.reads.slice (predictors-set x.dc_predictor (predictor_of number) r.predictor k.reads.slice.predictors d))
      (left-bounded q r b) refl e)

  -- and behind one that is outside
  pub ready-outside : {reader₁ : Reader} {left₁ : List ℤ} → ReaderInBounds s reader₁ → Bounded left₁ → MacroblockInvariant g s reader₁ x left₁ store
  ready-outside p b = ready_on k p k.reads.slice b refl refl
