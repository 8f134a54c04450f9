-- What a picture's slices are given, the variables of the decoding process (2.4.4), and macroblock_type.
use Rattle.codes.specs.Standard.{Code, macroblock_type_intra_codes, macroblock_type_predictive_codes, macroblock_type_b_codes}
use Rattle.std.specs.Prelude.{Bool, false, ◌||◌, List, [], ◌∷◌, ℕ, eqb, ℤ, pos}
use Rattle.standard.specs.Standard.Prelude.{when◌then◌else◌, Context, Matrices, flag}

-- 2.4.4.2: a vector in the units of the stream: recon_right_.., recon_down_..
pub record Vector : Type 0 where
  pub right : ℤ
  pub down : ℤ

abbrev pub zero-vector : Vector
zero-vector = record { right = pos 0; down = pos 0 }

-- 2.4.3.4, of one direction: full_pel_.._vector, and .._r_size, with .._f = 2 ^ .._r_size
pub record Direction : Type 0 where
  pub full_pel_vector : Bool
  pub r_size : ℕ

-- two rules left open: dct_recon from macroblock_intra, dct_zz, quantizer_scale and quant, where it is `admitted` (2.4.4.1, 2.4.4.2), and Annex A's transform
pub record Rules : Type 0 where
  pub dct_recon : Bool → ℤ → ℕ → ℕ → ℤ
  pub admitted : Bool → ℤ → ℕ → ℕ → Bool
  pub transform : List ℤ → List ℤ

-- of sequence header and picture header (2.4.3.2, 2.4.3.4): picture_coding_type is `picture_type` in `context`, beside sizes and the roles of the stores
pub record Coding : Type 0 where
  pub context : Context
  pub matrices : Matrices
  pub forward : Direction
  pub backward : Direction
  pub rules : Rules

-- 2.4.4.1: dct_dc_y_past, dct_dc_cb_past, dct_dc_cr_past
pub record Pasts : Type 0 where
  pub y : ℤ
  pub cb : ℤ
  pub cr : ℤ

abbrev pub pasts : ℤ → ℤ → ℤ → Pasts
pasts y cb cr = record { y = y; cb = cb; cr = cr }

-- what lives from one macroblock to the next: `past` is dct_dc_.._past, `for_prev` recon_.._for_prev, `back_prev` recon_.._back_prev, the type that of the last
pub record Variables : Type 0 where
  pub previous_macroblock_address : ℤ
  pub past_intra_address : ℤ
  pub quantizer_scale : ℕ
  pub macroblock_type : ℕ
  pub past : Pasts
  pub for_prev : Vector
  pub back_prev : Vector
  pub pels : List ℕ

-- Table B.2: the five columns of macroblock_type
abbrev pub macroblock_quant : ℕ → Bool
macroblock_quant t = flag t 16

abbrev pub macroblock_motion_forward : ℕ → Bool
macroblock_motion_forward t = flag t 8

abbrev pub macroblock_motion_backward : ℕ → Bool
macroblock_motion_backward t = flag t 4

abbrev pub macroblock_pattern : ℕ → Bool
macroblock_pattern t = flag t 2

abbrev pub macroblock_intra : ℕ → Bool
macroblock_intra t = flag t 1

-- is t the value of a row of the table?
abbrev pub row_of : List (Code ℕ) → ℕ → Bool
row_of [] t = false
row_of (c ∷ cs) t = eqb c.value t || row_of cs t

-- Tables B.2a, B.2b, B.2c
unfoldable pub in_table : ℕ → ℕ → Bool
in_table type t =
    when eqb type 1 then row_of macroblock_type_intra_codes t
    else when eqb type 2 then row_of macroblock_type_predictive_codes t
    else when eqb type 3 then row_of macroblock_type_b_codes t else false
