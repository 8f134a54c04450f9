use Rattle.std.proofs.Common.{ap, length, sym, ◌∙◌}
use Rattle.std.proofs.lemmas.List.{length-take-le}
use Rattle.memory.proofs.writing.put_numbers.Goals as goal

pub copy_from_slice-requires : goal.copy_from_slice-requires
copy_from_slice-requires c = length-take-le 21 c.args.numbers.now c.requires ∙ sym (ap length c.numbers_of.ensures.0)
