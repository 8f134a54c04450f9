-- The value that stands above the indices, as it was before.
use Rattle.std.proofs.Common.{ℕ, ◌<◌, arith, get_or, pos, ◌-ℤ◌, to_z, w32}
use Rattle.laws.proofs.Bytes.{natural-num}
use Rattle.laws.proofs.Nums.{Num, con, rd, ◌⊟◌}
use Rattle.bits.proofs.Rules.{reading}
use Rattle.codes.proofs.Joined.{joined-runs}
use Rattle.codes.proofs.walk.read_vlc.Goals as goal

moved : (entry : ℕ) → entry < 65536 → Num (to_z w32 entry -ℤ pos 1024) (pos entry -ℤ pos 1024) 66559
moved entry h = natural-num w32 entry 65535 (omega arith) tt ⊟ con 1024

pub returns : goal.returns
returns c ix vs j n =
    let leaf = c.walk-leaf.ensures in
    let entry = get_or c.args.table.now c.walk-leaf.result.value 0 in
    rw (c.from-found.ensures, (rd w32 (moved entry (omega (arith, c.type_inv.table c.walk-leaf.result.value))) tt).is)
    (reading c.requires.reader_in_bounds (joined-runs j n leaf.runs_in_bounds.runs leaf.position_in_bounds leaf.bound))
