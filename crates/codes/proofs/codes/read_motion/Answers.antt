-- The part of the tables at VECTOR.
use Rattle.std.proofs.Common.{arith, take, drop, List, ℕ}
use Rattle.codes.specs.Codes.{motion}
use Rattle.codes.specs.DecodingTables.{DecodingTables, IsMergedTable}
use Rattle.codes.specs.Tables.{motion_index, motion_value}
use Rattle.codes.proofs.Good.{good-motion}
use Rattle.codes.proofs.Joined.{joined_leading}
use Rattle.codes.proofs.Parts.{places, lent-part}
use Rattle.codes.proofs.codes.read_motion.Goals as goal

here : {t : List ℕ} → DecodingTables t → IsMergedTable motion_index motion_value (take 68 (drop 246 t))
unfolding motion_index motion_value
here l = record { is = lent-part l 246 68 (omega arith) places.vector; places = tt; values = tt }

pub read_vlc-requires-clause-valid_merged_table : goal.read_vlc-requires-clause-valid_merged_table
read_vlc-requires-clause-valid_merged_table c = joined_leading (here c.entries.ensures.decoding_tables) good-motion

pub returns : goal.returns
unfolding motion motion_value
returns c = c.read_vlc.ensures motion_index motion_value (here c.entries.ensures.decoding_tables) tt
