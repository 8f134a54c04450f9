-- RULES O.1: the sequence of a fresh record.
use Rattle.std.specs.Prelude.{false, pos, Float, replicate}
use Rattle.std.specs.Float.{binary64}
use Rattle.std.specs.Float.Ieee.{of_int}
use Rattle.header.specs.declared.state.Sequence.{Sequence}

abbrev pub fresh_sequence : Sequence
fresh_sequence = record {
  has_sequence_header = false;
  width = 0;
  height = 0;
  sizes = record { mb_width = 0; mb_height = 0; mb_size = 0 };
  matrices = record { intra_quant_matrix = replicate 64 0; non_intra_quant_matrix = replicate 64 0 };
}

-- 0.0
abbrev pub zero_float : Float
zero_float = of_int binary64 (pos 0)
