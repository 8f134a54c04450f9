-- Each of the eight over 256, at inputs of these sizes.
use Rattle.laws.proofs.Exprs.{var, value}
use Rattle.transform.specs.Bounds.{output_size}
use Rattle.transform.proofs.Steps.{rnd, inputs}
use Rattle.transform.proofs.butterfly.rounded.Goals as goal

pub returns : goal.returns
returns c =
    let i = inputs output_size c.args.o c.requires in
    λ j. record {
      v0 = value i (rnd (var 0)) tt j;
      v1 = value i (rnd (var 1)) tt j;
      v2 = value i (rnd (var 2)) tt j;
      v3 = value i (rnd (var 3)) tt j;
      v4 = value i (rnd (var 4)) tt j;
      v5 = value i (rnd (var 5)) tt j;
      v6 = value i (rnd (var 6)) tt j;
      v7 = value i (rnd (var 7)) tt j;
    }
