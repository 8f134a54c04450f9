use Rattle.std.proofs.Common.{sym, ◌∙◌, w32}
use mir.Facts.{to_z-of_z}
use Rattle.bits.proofs.Codes.{code_fits}
use Rattle.bits.proofs.Rules.{from_reader}
use Rattle.playback.proofs.Seeking.{seek-has, seek_finds}
use Rattle.playback.proofs.search.next_code.Goals as goal

pub returns-then-has_code : goal.returns-then-has_code
returns-then-has_code c =
    let same = to_z-of_z {w = w32} {z = c.args.code} c.ranges.code in
    seek-has c.args.code _ c.args.d (sym (rw same at c.has_code.ensures) ∙ c.if-has_code.true)

pub returns : goal.returns
returns c =
    let f = c.find_start_code-found.ensures in
    let found = to_z-of_z {w = w32} {z = c.find_start_code-found.result.value} (code_fits _ f.code_bound) in
    let same = to_z-of_z {w = w32} {z = c.args.code} c.ranges.code in
    rw found at c.searched.ensures
    ∙ seek_finds c.args.code _ c.args.d (sym (rw same at c.has_code.ensures) ∙ c.if-has_code.false)
    (from_reader c.from_position.ensures (rw same at f.runs_in_bounds.runs))
