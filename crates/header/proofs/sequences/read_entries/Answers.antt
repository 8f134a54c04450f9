use Rattle.std.proofs.Common.{◌≡◌, arith, get_or}
use Rattle.bits.proofs.Gives.{given_by, g-reads}
use Rattle.bits.proofs.Rules.{r-reads}
use Rattle.codes.specs.Matrices.{zig_zag}
use Rattle.codes.proofs.Bounds.{zig_zag-inside}
use Rattle.header.proofs.Entries.{entry-start, entry-on, entry-end}
use Rattle.header.proofs.sequences.read_entries.Goals as goal

pub loop-position-init : goal.loop-position-init
loop-position-init c = entry-start c.requires

pub overflow_cast-read : goal.overflow_cast-read
overflow_cast-read c = omega (arith, given_by (g-reads 8) c.read-entry.ensures.runs)

pub bounds-read-from : goal.bounds-read-from
bounds-read-from c =
    let i = c.loop-position.position-index in
    let e : c.from.result ≡ get_or zig_zag i 0 = cc in
    omega (arith, e, zig_zag-inside i)

pub loop-position-preserved : goal.loop-position-preserved
loop-position-preserved c =
    let r = c.read-entry.ensures in
    let e : c.from.result ≡ get_or zig_zag c.loop-position.position-index 0 = cc in
    rw e (entry-on c.loop-position.invariant c.loop-position-test.true (record { runs = r-reads 8 (omega arith) r.runs; inside = r.inside }))

pub returns : goal.returns
returns c = entry-end c.loop-position.invariant (omega arith)
