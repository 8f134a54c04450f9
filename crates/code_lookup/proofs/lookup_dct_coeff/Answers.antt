-- The default arm gives what the table gives from 128 on.
use mathlib.Core.Path.{refl}
use lib.ListN.{get_or}
use Rattle.laws.specs.Each.{all_below}
use Rattle.code_lookup.specs.ByteTables.{dct_coeff_lookup}
use Rattle.code_lookup.proofs.Arms.{rest}
use Rattle.code_lookup.proofs.lookup_dct_coeff.Goals as goal

pub returns-in_default : goal.returns-in_default
unfolding all_below dct_coeff_lookup
returns-in_default c = rest 128 256 17 (λ x. get_or dct_coeff_lookup x 0) refl c.in_default.in_default-own.rest c.requires
