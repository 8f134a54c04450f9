-- What a change of one thing keeps of a possible state. Assumes nothing.
use mathlib.Core.Path.{◌≡◌, ap, refl, ◌∙◌}
use mathlib.Core.Bool.{Bool, true, false}
use mathlib.Core.List.{List}
use Prim.Native.Nat.{ℕ, ◌≤◌, ◌<◌}
use native.Mathlib.Omega.{arith}
use native.Mathlib.Decide.{dec_lt}
use borrow.Author.Tests.{eqb-true, eqb-false}
use lib.Dec.{eqb}
use lib.IntN.{ℤ, pos}
use lib.ListN.{get_or, replicate, get_or-replicate, length, set}
use lib.Seq.{set_out, get_or-set_same, get_or-set_other}
use Rattle.coefficients.specs.Dcs.{dc_in_range}
use Rattle.picture_state.specs.declared.types.{Motion.Motion, Slice.Slice}
use Rattle.picture_state.specs.State.{zeroed, with_is_set, with_scale, with_motions, dc_reset, with_predictors}
use Rattle.picture_state.specs.Possible.{PossibleMotion, PossibleSlice}

pub zeroed-kept : {m : Motion} → PossibleMotion m → PossibleMotion (zeroed m)
zeroed-kept k =
    record {
      size = k.size;
      h = record { low = record { le = tt }; high = record { lt = tt } };
      v =
          record { low = record { le = tt }; high = record { lt = tt } };
    }

pub set-kept : {m : Motion} (b : Bool) → PossibleMotion m → PossibleMotion (with_is_set b m)
set-kept b k = record { size = k.size; h = k.h; v = k.v }

module _ {s : Slice} (k : PossibleSlice s) where
  pub scale_kept : {q : ℕ} → q ≤ 31 → PossibleSlice (with_scale q s)
  scale_kept h = record { scale = h; address = k.address; forward = k.forward; backward = k.backward; predictors = k.predictors }

  pub motions-kept : {f b : Motion} → PossibleMotion f → PossibleMotion b → PossibleSlice (with_motions f b s)
  motions-kept f b = record { scale = k.scale; address = k.address; forward = f; backward = b; predictors = k.predictors }

  pub predictors-kept : {d : List ℤ} → ((i : ℕ) → i < 3 → dc_in_range (get_or d i (pos 0)) ≡ true) → PossibleSlice (with_predictors d s)
  predictors-kept d = record { scale = k.scale; address = k.address; forward = k.forward; backward = k.backward; predictors = d }

-- the DC predictors at 128
pub predictors-reset : (i : ℕ) → i < 3 → dc_in_range (get_or (replicate 3 (pos 128)) i (pos 0)) ≡ true
predictors-reset i h = ap dc_in_range (get_or-replicate 3 i (pos 128) (pos 0) h)

pub reset-kept : {s : Slice} → PossibleSlice s → PossibleSlice (dc_reset s)
reset-kept k = predictors-kept k predictors-reset

-- a DC predictor is put in its place
pub predictors-set : (d : List ℤ) (j : ℕ) (x : ℤ) → ((i : ℕ) → i < 3 → dc_in_range (get_or d i (pos 0)) ≡ true) → dc_in_range x ≡ true → (i : ℕ)
    → i < 3 → dc_in_range (get_or (set d j x) i (pos 0)) ≡ true
predictors-set d j x h e i l = go (eqb i j) refl (dec_lt j (length d))
  where
    go : (t : Bool) → eqb i j ≡ t → Dec (j < length d) → dc_in_range (get_or (set d j x) i (pos 0)) ≡ true
    go true q (yes k) = ap dc_in_range (ap (λ (m : ℕ). get_or (set d j x) m (pos 0)) (eqb-true i j q) ∙ get_or-set_same d j x (pos 0) k) ∙ e
    go true q (no k) = ap (λ (c : List ℤ). dc_in_range (get_or c i (pos 0))) (set_out d j x (omega arith)) ∙ h i l
    go false q k = ap dc_in_range (get_or-set_other d j i x (pos 0) (eqb-false i j q)) ∙ h i l
