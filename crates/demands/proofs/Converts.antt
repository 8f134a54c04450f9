-- RULES C.4, W.13: a conversion that is not refused writes its pixel, by computation: one sample of Y 235 without colour, from store 1.
use mathlib.Core.Path.{◌≡◌, refl}
use mathlib.Core.Bool.{true}
use mathlib.Core.List.{List, [], ◌∷◌, ◌++◌}
use Prim.Native.Nat.{ℕ}
use lib.ListN.{replicate}
use Rattle.laws.specs.Signed.{clamp255}
use Rattle.laws.specs.Stores.{store_row}
use Rattle.codes.specs.Matrices.{premultiplier_matrix, bounded}
use Rattle.argb.specs.Pixel.{luma, red, green, blue, argb}
use Rattle.argb.specs.Scaled.{sample_pixel, output_pixel, pixel_at, scaled}
use Rattle.laws.specs.Each.{all_below}
use Rattle.header.specs.Possible.{sizes_of}
use Rattle.decoder.specs.declared.record.Decoder.{Decoder}
use Rattle.decoder.specs.declared.answers.Converted.TheVariants.{Written}
use Rattle.playback.specs.State.{fresh_state, possible_display}
use Rattle.decoder.specs.Record.{fresh, with_sequence}
use Rattle.decoder.specs.Possible.{possible}
use Rattle.decoder.specs.Conversion.{area, converted}

-- the fresh record with a header of 1 × 1 samples
abbrev pub one : Decoder
one = with_sequence (record { has_sequence_header = true; width = 1; height = 1; sizes = sizes_of 1 1; matrices = fresh.sequence.matrices }) fresh

-- store 1 is white without colour, the others are 0
abbrev pub stores : List ℕ
stores = replicate 384 0 ++ (replicate 256 235 ++ (replicate 128 128 ++ replicate 384 0))

pub writes : converted one stores 1 (7 ∷ 7 ∷ []) 1 1 ≡ area Written (0xfffefefe ∷ 7 ∷ [])
unfolding clamp255 store_row premultiplier_matrix bounded luma red green blue argb sample_pixel output_pixel pixel_at scaled
    all_below fresh fresh_state possible_display possible converted
writes = refl
