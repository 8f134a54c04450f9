-- What our state is while the standard's is v: the statement's relation. Assumes nothing.
use mathlib.Core.Path.{◌≡◌, refl}
use mathlib.Core.Bool.{Bool, true, false, cond}
use mathlib.Core.List.{List, [], ◌∷◌}
use Prim.Native.Nat.{ℕ, ◌^◌}
use lib.Dec.{eqb}
use lib.IntN.{ℤ, pos, ◌+ℤ◌, ◌*ℤ◌}
use lib.Signed.{lt_z, le_z}
use Rattle.coefficients.specs.Dequantise.{quantiser, dequantised}
use Rattle.coefficients.proofs.Standard.{same-recon}
use Rattle.motion.specs.Displacement.{InRange}
use Rattle.picture_state.specs.declared.types.{Context.Context, Matrices.Matrices, Motion.Motion, Slice.Slice}
use Rattle.picture_state.specs.State.{SliceState, slice_state, fresh_block}
use Rattle.picture_state.specs.Flags.{flag}
use Rattle.standard.specs.Standard as S
use Rattle.standard.specs.Standard.{Direction, Vector, Coding, Pasts, pasts, Variables, no_intra_just_before}
use Rattle.standard.specs.Rules as R

-- the components are in the range of their f code
pub record In (d : Direction) (x : Vector) : Type 0 where
  pub right : InRange (2 ^ d.r_size) x.right
  pub down : InRange (2 ^ d.r_size) x.down

-- our vector; `set` is the flag of RULES 7.13
abbrev pub motion_of : Direction → Bool → Vector → Motion
motion_of d set x = record { full_px = d.full_pel_vector; is_set = set; r_size = d.r_size; h = x.right; v = x.down }

-- our flags and DC predictors, which the standard does not have in this form
pub record Own : Type 0 where
  pub for_set : Bool
  pub back_set : Bool
  pub y : ℤ
  pub cb : ℤ
  pub cr : ℤ

abbrev pub own : Bool → Bool → ℤ → ℤ → ℤ → Own
own f b y cb cr = record { for_set = f; back_set = b; y = y; cb = cb; cr = cr }

-- our slice
abbrev pub slice_of : Coding → ℤ → ℕ → Vector → Vector → Own → Slice
slice_of g address scale for back o = record {
  quantizer_scale = scale;
  macroblock_address = address;
  motion_forward = motion_of g.forward o.for_set for;
  motion_backward = motion_of g.backward o.back_set back;
  dc_predictor = o.y ∷ o.cb ∷ o.cr ∷ [];
}

-- 2.4.4.1 in units of 8: our predictors are pasts
abbrev pub eights : Own → Pasts
eights o = pasts (pos 8 *ℤ o.y) (pos 8 *ℤ o.cb) (pos 8 *ℤ o.cr)

-- 2.4.4.1: the pasts as an intra macroblock at this address uses them
abbrev pub past_start : ℤ → Variables → Pasts
past_start address v = cond (no_intra_just_before address v) (pasts (pos 1024) (pos 1024) (pos 1024)) v.past

-- the vectors that the next macroblock starts from
abbrev pub for_next : Coding → Bool → Variables → Vector
for_next g first v = S.for_start g first v.macroblock_type v

abbrev pub back_next : Coding → Bool → Variables → Vector
back_next g first v = S.back_start g first v.macroblock_type v

-- before a macroblock: vectors and predictors as they are used if it is the next in the picture, and nothing left over; the flags are those of the last
-- type, as a skip in a B picture needs them
pub record Related (g : Coding) (first : Bool) (v : Variables) (w : SliceState) : Type 0 where
  pub o : Own
  pub is : w ≡ slice_state (slice_of g v.previous_macroblock_address v.quantizer_scale (for_next g first v) (back_next g first v) o) fresh_block v.pels
  pub for : In g.forward (for_next g first v)
  pub back : In g.backward (back_next g first v)
  pub flags : eqb g.context.picture_type 3 ≡ true → first ≡ false
      → (o.for_set ≡ flag v.macroblock_type 8) × (o.back_set ≡ flag v.macroblock_type 4)
  pub past : past_start (v.previous_macroblock_address +ℤ pos 1) v ≡ eights o
  pub order : le_z v.past_intra_address v.previous_macroblock_address ≡ true
  pub start : first ≡ true → lt_z v.past_intra_address v.previous_macroblock_address ≡ true

-- ---- the two rules that the standard's text here leaves open

-- a rule of reconstruction that is ours wherever it admits something
pub record Rule : Type 0 where
  pub rules : S.Rules
  pub same : (intra : Bool) (level : ℤ) (scale quant : ℕ) → rules.admitted intra level scale quant ≡ true
      → rules.dct_recon intra level scale quant ≡ dequantised (quantiser intra scale) level quant
  pub transform : (recon : List ℤ) → rules.transform recon ≡ R.transformed recon

pub rust : Rule
rust = record { rules = R.rust; same = λ i z s q e. refl; transform = λ recon. refl }

pub printed : Rule
printed = record { rules = R.printed; same = same-recon; transform = λ recon. refl }

abbrev pub coding : Rule → Context → Matrices → Direction → Direction → Coding
coding rule g m f b = record { context = g; matrices = m; forward = f; backward = b; rules = rule.rules }
