use Rattle.std.proofs.Common.{sym, subst}
use Rattle.memory.specs.Fields.{Typed}
use Rattle.memory.specs.Memory.{Memory, memory, HoldsRecord}
use Rattle.memory.proofs.RoundTrip.{held, wrote-all}
use Rattle.memory.proofs.writing.save.Goals as goal

pub returns : goal.returns
returns c =
    let d = c.args.d in
    let x = memory c.args.numbers.now c.args.integers.now c.args.matrices.now c.args.clock.now in
    let wrote = wrote-all d x c.put_numbers.ensures.0 c.put_integers.ensures.0 c.put_matrices.ensures.0 c.put_clock.ensures in
    let typed : Typed d = record { numbers = c.put_numbers.ensures.1; integers = c.put_integers.ensures.1; matrices = c.put_matrices.ensures.1 } in
    record { clock_after = wrote; holds_record = subst (λ (z : Memory). HoldsRecord z d) (sym wrote) (held d typed x) }
