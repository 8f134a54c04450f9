-- RULES Q8, Q9, by computation: a picture that leaves with 9 in Cr, of which the Rust says nothing, since it panics within that plane; and the pictures of
-- Example.antt whose values are just inside come to no stop.
use mathlib.Core.Path.{◌≡◌, refl, sym, ap, ◌∙◌}
use mathlib.Core.Bool.{true, true≢false}
use mathlib.Core.List.{List, [], ◌∷◌, ◌++◌}
use Prim.Native.Nat.{ℕ}
use lib.IntN.{pos, negsuc}
use lib.ListN.{replicate}
use Rattle.laws.specs.Signed.{odd, half_toward_zero}
use Rattle.laws.specs.Stores.{store_row, store_rows}
use Rattle.bits.specs.Bits.{bit_at, bits_at, read_at, after_read, code_prefix, code_from, found}
use Rattle.bits.specs.Programs.{run, bind, loop}
use Rattle.codes.specs.Tables.{macroblock_address_increment_index, macroblock_address_increment_value}
use Rattle.codes.specs.Tables.{macroblock_type_predictive_index, macroblock_type_predictive_value}
use Rattle.codes.specs.Tables.{motion_index, motion_value}
use Rattle.codes.specs.Walk.{walk_step, walk, vlc}
use Rattle.codes.specs.Codes as Codes
use Rattle.motion.specs.Displacement.{corrected}
use Rattle.motion.specs.Vector.{displacement, motion_vector}
use Rattle.prediction.specs.declared.planes.Plane.TheVariants.{Cr}
use Rattle.prediction.specs.Predict.{prediction_source, predicted}
use Rattle.prediction.specs.Samples.{sample}
use Rattle.prediction.specs.Planes.{predict_from_source, and_then_plane as following, predicted_planes}
use Rattle.picture_state.specs.declared.types.{Matrices.Matrices, Sizes.Sizes}
use Rattle.picture_state.specs.Result.{if_ok, bind_result, lift, error}
use Rattle.picture_state.specs.Stop.{Stop, stop, prediction_outside}
use Rattle.macroblock_head.specs.Increments.{increment_step, increment}
use Rattle.macroblock_head.specs.Predictions.{unless_refused, predict_from, predict}
use Rattle.macroblock_head.specs.Heads.{macroblock_type, scale, vector, forward, backward, vectors, head}
use Rattle.macroblock.specs.Macroblocks.{predict_unless_intra, body, first_macroblock, macroblock}
use Rattle.slice.specs.Slices.{extra_step, extra, after_macroblock, slice_step, slice}
use Rattle.picture.specs.Pictures as P
use Rattle.picture.specs.Stops.{PictureStop}
use Rattle.picture.proofs.Stops.{picture-stops}
use Rattle.picture.proofs.Example.{fresh, none, one, matrices, given, is_ok, inside_dc, dc-of-255, still_vector, no_half-sample}

-- one macroblock across, two down: 16 × 32 samples
abbrev two : Sizes
two = record { mb_width = 1; mb_height = 2; mb_size = 2 }

-- a P picture with f code 1: slice 2, so the macroblock 1, of the type 001, a forward vector, and the motion codes 0010 and 0011: (2, -2) in half samples
abbrev past_in_cr : List ℕ
past_in_cr = 0x00 ∷ 0x17 ∷ 0xff ∷ 0xf8 ∷ 0x80 ∷ 0x00 ∷ 0x00 ∷ 0x01 ∷ 0x02 ∷ 0x0a ∷ 0x48 ∷ 0xc0 ∷ []

-- the store that is predicted from, with another sample from the place 241 of Y on
abbrev from241 : List ℕ
from241 = replicate 241 90 ++ replicate 527 91

abbrev given_two : P.PictureState
given_two = P.picture_state fresh none (replicate 768 7 ++ replicate 768 50 ++ from241)

-- the store with Y of the macroblock 1
abbrev with_y : List ℕ
with_y = replicate 256 7 ++ replicate 256 91 ++ replicate 256 7 ++ replicate 768 50 ++ from241

-- RULES Q9: Y is copied from 241, of max_address 256; Cr, by (1, -1), begins at 56 and reaches 9 further, past max_address 64. Cr and Cb are as they were
pub nine_in-cr : run (P.picture two matrices given_two) past_in_cr 0
    ≡ record { value = error (stop (prediction_outside 1 Cr (pos 1) (negsuc 0)) with_y); at = 90 }
unfolding odd half_toward_zero store_row store_rows sample predicted bit_at bits_at read_at after_read code_prefix code_from found run bind loop
    macroblock_address_increment_index macroblock_address_increment_value macroblock_type_predictive_index macroblock_type_predictive_value motion_index
    motion_value walk_step walk vlc Codes.macroblock_address_increment Codes.macroblock_type_predictive Codes.motion displacement motion_vector corrected
    prediction_source predict_from_source following predicted_planes if_ok bind_result lift increment_step increment unless_refused predict_from predict
    macroblock_type scale vector forward backward vectors head predict_unless_intra body first_macroblock macroblock extra_step extra after_macroblock
    slice_step slice P.direction P.picture_header P.after_slice P.slices_step P.slices P.slices_in_roles P.picture
nine_in-cr = refl

-- ---- pictures that come to none

none-by : {z : Sizes} {m : Matrices} {f : P.PictureState} {s : List ℕ} → is_ok (run (P.picture z m f) s 0).value ≡ true → {e : Stop} → PictureStop z m f s 0 e
    → ⊥
none-by {z} {m} {f} {s} h k = true≢false (sym h ∙ ap is_ok (picture-stops z m f s 0 k))

-- a DC value of 255
pub dc-in-range : {e : Stop} → PictureStop one matrices given inside_dc 0 e → ⊥
dc-in-range = none-by dc-of-255

-- a prediction from max_address by whole samples
pub prediction-inside : {e : Stop} → PictureStop one matrices given still_vector 0 e → ⊥
prediction-inside = none-by no_half-sample
