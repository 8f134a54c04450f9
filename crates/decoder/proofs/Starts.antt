-- RULES O.1: what holds of the record that opening begins with. The theorems on opening ask no more of it, and the fresh record has it.
use mathlib.Core.Path.{◌≡◌, refl}
use mathlib.Core.Bool.{true}
use lib.IntN.{negsuc}
use Rattle.laws.specs.Each.{all_below}
use Rattle.codes.specs.Matrices.{premultiplier_matrix, bounded}
use Rattle.picture_state.specs.Possible.{possible_picture}
use Rattle.playback.specs.State.{frames, fresh_state, possible_display}
use Rattle.playback.proofs.Displays.{fresh-possible}
use Rattle.decoder.specs.declared.record.Decoder.{Decoder}
use Rattle.decoder.specs.Record.{fresh, position, start_code}

-- nothing is read, nothing is handed out, and what a picture changes is possible
pub record Starts (d : Decoder) : Type 0 where
  pub unread : position d ≡ 0
  pub code : start_code d ≡ negsuc 0
  pub picture : possible_picture d.state.picture ≡ true
  pub block : bounded d.block_data ≡ true
  pub display : possible_display d.state.display ≡ true
  pub none : frames d.state ≡ 0
  pub mark : d.stop ≡ 0

pub fresh-starts : Starts fresh
unfolding fresh fresh_state all_below premultiplier_matrix bounded
fresh-starts = record { unread = refl; code = refl; picture = refl; block = refl; display = fresh-possible; none = refl; mark = refl }
