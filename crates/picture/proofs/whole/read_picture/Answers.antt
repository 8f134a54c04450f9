use Rattle.std.proofs.Common.{refl, sym, ◌∙◌}
use Rattle.picture_state.proofs.Results.{t_call, t-yes, t-no, t-done}
use Rattle.picture.specs.Pictures.{picture}
use Rattle.bits.proofs.Gives.{given_by}
use Rattle.picture.proofs.Header.{header-fits, headed-possible}
use Rattle.picture.proofs.whole.read_picture.Goals as goal

pub returns-then-is_decoded : goal.returns-then-is_decoded
unfolding picture
returns-then-is_decoded c =
    let r = c.read_slices_in_roles.ensures in
    record {
      runs = t_call _ c.read_picture_header-h.ensures.runs
          (t-yes _ (sym c.is_decoded.ensures ∙ c.if-is_decoded.true) (rw c.with_header-headed.ensures at r.runs));
      inside = r.inside;
    }

pub returns : goal.returns
unfolding picture
returns c =
    let r = c.read_picture_header-h.ensures in
    record {
      runs = rw c.with_header-headed.ensures (t_call _ r.runs (t-no _ (sym c.is_decoded.ensures ∙ c.if-is_decoded.false) (t-done refl)));
      inside = r.inside;
    }

pub read_slices_in_roles-requires-clause-possible_picture : goal.read_slices_in_roles-requires-clause-possible_picture
read_slices_in_roles-requires-clause-possible_picture c =
    rw c.with_header-headed.ensures (headed-possible c.requires.possible_picture (given_by header-fits c.read_picture_header-h.ensures.runs))
