-- A number over 256, to the nearest.
use Rattle.std.proofs.Common.{◌∷◌, []}
use mir.Syntax.{w32}
use Rattle.laws.proofs.Exprs.{var, signed, value}
use Rattle.transform.specs.Idct.{dc_only}
use Rattle.transform.proofs.Steps.{rnd}
use Rattle.transform.proofs.idct.dc_only.Goals as goal

pub returns-clause-is : goal.returns-clause-is
unfolding dc_only
returns-clause-is c = value (signed w32 c.args.c 65536 c.requires ∷ []) (rnd (var 0)) tt
