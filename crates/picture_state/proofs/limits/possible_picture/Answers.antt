-- Each test is one of the definition.
use Rattle.std.proofs.Common.{◌≡◌, pos, neg_ℤ, rules}
use Rattle.picture_state.specs.Possible.{between}
use Rattle.picture_state.proofs.limits.possible_picture.Goals as goal

pub returns : goal.returns
returns c =
    let inside : c.contains.result ≡ between (neg_ℤ (pos 1)) (pos 255) c.args.p.start_code = search rules in
    rw (inside, c.possible_stores.ensures, c.possible_slice.ensures)
