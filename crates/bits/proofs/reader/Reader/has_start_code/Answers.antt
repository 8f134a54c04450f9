-- The value alone, of the search from here on.
use Rattle.std.proofs.Common.{sym, refl, to_z-of_z}
use Rattle.bits.proofs.Codes.{code_fits}
use Rattle.bits.proofs.Rules.{r-value}
use Rattle.bits.proofs.reader.Reader.has_start_code.Goals as goal

pub returns : goal.returns
returns c =
    let found = c.find_start_code-found.ensures in
    let runs = rw (to_z-of_z c.ranges.code) at found.runs_in_bounds.runs in
    rw (to_z-of_z (code_fits c.find_start_code-found.result.value found.code_bound))
    (record { code_value = (sym (r-value runs), refl); code_bound = found.code_bound })
