-- RULES 6.1 to 6.9: the prediction of one block of a plane.
use Rattle.std.specs.Prelude.{◌≡◌, Bool, cond, ◌||◌, List, ◌⊎◌, ℕ, ◌+◌, ◌-◌, ◌*◌, ◌/◌, ◌%◌, ◌≤◌, ◌<◌, ltb, ℤ, pos, nat_abs, ◌+ℤ◌, ◌*ℤ◌, get_or}
use Rattle.std.specs.Prelude.{Option, Some, None, Result, Ok, Err}
use Rattle.std.specs.Int.Signed.{lt_z, shr_z}
use Rattle.laws.specs.Signed.{odd, half_toward_zero}
use Rattle.laws.specs.Stores.{store_rows}
use Rattle.prediction.specs.declared.position.{HalfSampleOutside.HalfSampleOutside, Macroblock.Macroblock, BlockPosition.BlockPosition}
use Rattle.prediction.specs.Samples.{sample, stored_sample}

-- RULES S.7, 7.5: the macroblock with this address in a picture of so many across and down; addresses go by rows
abbrev pub macroblock_at : ℕ → ℕ → ℕ → Macroblock
macroblock_at across down address = record { across = across; down = down; row = address / across; column = address % across }

-- the block of a macroblock in a plane of this block size
abbrev pub block_position_of : Macroblock → ℕ → BlockPosition
block_position_of m size = record { size = size; across = m.across; down = m.down; row = m.row; column = m.column }

-- and the macroblock of a block
abbrev pub macroblock_of : BlockPosition → Macroblock
macroblock_of p = record { across = p.across; down = p.down; row = p.row; column = p.column }

-- what the picture layer's macroblocks keep to: at most 256 of them each way
pub record MacroblockInPicture (m : Macroblock) : Type 0 where
  pub across : m.across ≤ 256
  pub down : m.down ≤ 256
  pub row : m.row < m.down
  pub column : m.column < m.across

-- and the places of their blocks, of 8 or 16 samples
pub record BlockInPlane (p : BlockPosition) : Type 0 where
  pub size : (p.size ≡ 8) ⊎ (p.size ≡ 16)
  pub inside : MacroblockInPicture (macroblock_of p)

-- the plane's width and height in samples
abbrev pub width : BlockPosition → ℕ
width p = p.across * p.size

abbrev pub height : BlockPosition → ℕ
height p = p.down * p.size

-- bytes of the plane
abbrev pub bytes : BlockPosition → ℕ
bytes p = width p * height p

-- the address of the block itself
abbrev pub address : BlockPosition → ℕ
address p = p.row * p.size * width p + p.column * p.size

-- RULES 6.4: the start of the block that is copied, for a vector of half samples
abbrev pub start : BlockPosition → ℤ → ℤ → ℤ
start p h v = (pos (p.row * p.size) +ℤ shr_z v 2) *ℤ pos (width p) +ℤ pos (p.column * p.size) +ℤ shr_z h 2

-- RULES 6.5
abbrev pub max_address : BlockPosition → ℕ
max_address p = width p * (height p - p.size + 1) - p.size

-- RULES 6.9: how far past the start a prediction by half samples reaches
abbrev pub reach : BlockPosition → ℤ → ℤ → ℕ
reach p h v = cond (odd v) (width p) 0 + cond (odd h) 1 0

-- RULES 6.9, Q9: the one refusal of a prediction
abbrev pub half_sample_outside : HalfSampleOutside
half_sample_outside = record {}

-- what a prediction does with its block: copies the samples from an address on, leaves it alone (None), or is refused
abbrev pub PredictionSource : Type 0
PredictionSource = Result (Option ℕ) HalfSampleOutside

-- RULES 6.6, 6.9: a block outside is left alone, one that reaches past the last is refused
unfoldable pub prediction_source : BlockPosition → ℤ → ℤ → PredictionSource
prediction_source p h v =
    cond (lt_z (start p h v) (pos 0) || lt_z (pos (max_address p)) (start p h v)) (Ok None)
    (cond (ltb (max_address p) (nat_abs (start p h v) + reach p h v)) (Err half_sample_outside) (Ok (Some (nat_abs (start p h v)))))

-- RULES 6.7, 6.8: the plane d with the block written from the plane s, whose block begins at `from`
unfoldable pub predicted : BlockPosition → List ℕ → List ℕ → ℤ → ℤ → Bool → ℕ → List ℕ
predicted p s d h v interpolate from =
    store_rows d (address p) (width p) p.size
    (λ y x. stored_sample interpolate (get_or d (address p + y * width p + x) 0) (sample s (width p) (odd h) (odd v) (from + y * width p + x))) p.size

-- RULES 6.2: a full-pel component is doubled
abbrev pub in_halves : Bool → ℤ → ℤ
in_halves full z = cond full (z *ℤ pos 2) z

-- RULES 6.2: for Cr and Cb it is then halved toward zero
abbrev pub chroma : ℤ → ℤ
chroma = half_toward_zero
