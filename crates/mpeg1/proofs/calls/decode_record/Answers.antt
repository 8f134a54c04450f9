use Rattle.memory.specs.Memory.{memory}
use Rattle.memory.proofs.Room.{record-roomy}
use Rattle.mpeg1.proofs.calls.decode_record.Goals as goal

pub save-requires : goal.save-requires
save-requires c =
    let s = c.args in record-roomy (memory s.numbers.now s.integers.now s.matrices.now s.clock.now) c.requires
