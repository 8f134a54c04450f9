-- RULES Q2: are width, height and the sizes possible?
use Rattle.std.specs.Prelude.{Bool, cond, ◌&&◌, ℕ, ◌+◌, ◌*◌, ◌/◌, eqb, leb}
use Rattle.picture_state.specs.declared.types.Sizes.{Sizes}
use Rattle.header.specs.declared.state.Sequence.{Sequence}

-- RULES O.4: macroblocks in a row, and rows of them
abbrev pub across : ℕ → ℕ
across width = (width + 15) / 16

-- RULES O.4: the macroblock sizes of a picture
abbrev pub sizes_of : ℕ → ℕ → Sizes
sizes_of width height = record { mb_width = across width; mb_height = across height; mb_size = across width * across height }

-- RULES Q2: are they the same?
abbrev pub same_sizes : Sizes → Sizes → Bool
same_sizes x z = eqb x.mb_width z.mb_width && eqb x.mb_height z.mb_height && eqb x.mb_size z.mb_size

-- width and height, and the macroblock sizes that follow from them; these are 0 with no header
abbrev pub possible_sequence : Sequence → Bool
possible_sequence q =
    leb q.width 4095 && leb q.height 4095 &&
    cond q.has_sequence_header
    (leb 1 q.width && leb 1 q.height && same_sizes q.sizes (sizes_of q.width q.height))
    (same_sizes q.sizes (record { mb_width = 0; mb_height = 0; mb_size = 0 }))
