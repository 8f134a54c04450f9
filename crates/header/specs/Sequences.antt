-- RULES O.3 (11172-2, 2.4.2.3): the sequence header, from behind its start code on.
use Rattle.std.specs.Prelude.{List, ℕ, min, ◌-◌, eqb, Float, get_or, set, replicate}
use Rattle.bits.specs.Programs.{Prog, done, bits, for_below, ◌>>=◌, when◌then◌else◌}
use Rattle.codes.specs.Matrices.{zig_zag, intra_quant_matrix, non_intra_quant_matrix}
use Rattle.codes.specs.Rates.{pixel_aspect_ratio, picture_rate}
use Rattle.header.specs.declared.sequences.Size.{Size}
use Rattle.header.specs.declared.sequences.Rest.{Rest}
use Rattle.header.specs.State.{zero_float}

-- 8 bits: the entry of a matrix with this number in zig-zag order
abbrev pub entry : ℕ → List ℕ → Prog (List ℕ)
entry i m = do
  b ← bits 8
  done (set m (get_or zig_zag i 0) b)

-- all 64
unfoldable pub entries : Prog (List ℕ)
entries = for_below 64 entry (replicate 64 0)

-- one bit: if 1, a matrix of 64 bytes, else the default one
unfoldable pub matrix : List ℕ → Prog (List ℕ)
matrix default = do
  loaded ← bits 1
  when eqb loaded 0 then done default else entries

-- RULES O.3: 12 bits of width, 12 bits of height
unfoldable pub size : Prog Size
size = do
  width ← bits 12
  height ← bits 12
  done (record { width = width; height = height })

-- 11172-2, 2.4.2.3: what follows the size, in the standard's names and order, with the two matrices in one field
-- RULES O.3, Q4: a call reads this with 1,088 bits left before the size, so that no read of it is refused
unfoldable pub rest : Prog Rest
rest = do
  aspect ← bits 4
  rate ← bits 4
  bit_rate ← bits 18
  marker ← bits 1
  buffer ← bits 10
  constrained ← bits 1
  intra ← matrix intra_quant_matrix
  other ← matrix non_intra_quant_matrix
  done (record {
    pel_aspect_ratio = aspect;
    picture_rate = rate;
    bit_rate = bit_rate;
    marker_bit = marker;
    vbv_buffer_size = buffer;
    constrained_parameters_flag = constrained;
    matrices = record { intra_quant_matrix = intra; non_intra_quant_matrix = other };
  })

-- RULES 2.8: code 0 gives what 1 gives, and 15 what 14 gives
abbrev pub aspect_of : ℕ → Float
aspect_of code = get_or pixel_aspect_ratio (min (code - 1) 13) zero_float

-- RULES 2.9
abbrev pub rate_of : ℕ → Float
rate_of code = get_or picture_rate code zero_float
