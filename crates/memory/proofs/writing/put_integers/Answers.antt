use Rattle.std.proofs.Common.{◌≡◌, List, ℤ, ◌++◌, length, ap, ◌∙◌, arith, rules}
use Rattle.std.proofs.lemmas.List.{length-append, append-nil}
use borrow.Rule.Slice.PartMut.{put_mid}
use Rattle.memory.specs.Fields.{integers_of}
use Rattle.memory.specs.Memory.{over}
use Rattle.memory.proofs.Over.{over_on, over_all}
use Rattle.memory.proofs.Fields.{one}
use Rattle.memory.proofs.writing.put_integers.Goals as goal

pub returns : goal.returns
returns c =
    let l = c.args.integers.now in
    let x = c.single_integers.result in
    let y = c.args.d.now.state.picture.slice.dc_predictor in
    let z = c.args.d.now.block_data in
    let six : length x ≡ 6 = ap length c.single_integers.ensures in
    let e : length y ≡ 3 = search rules in
    let f : length z ≡ 64 = search rules in
    let nine : length (x ++ y) ≡ 9 = length-append x y ∙ omega (arith, six, e) in
    let same : x ++ y ++ z ≡ integers_of c.args.d.now = rw (c.single_integers.ensures, append-nil z) in (
      rw (c.copy_from_slice.ensures.after, c.copy_from_slice-2.ensures.after, c.copy_from_slice-3.ensures.after)
          (ap (λ (u : List ℤ). put_mid 9 64 u z) (over_on 6 3 l x y six)
          ∙ over_on 9 64 l (x ++ y) z nine
          ∙ over_all 73 l (x ++ y ++ z) (length-append (x ++ y) z ∙ omega (arith, nine, f))
          ∙ ap (λ (u : List ℤ). over u l) same),
      (one, (one, (one, (one, (one, (one, (record { is = e }, (record { is = f }, tt)))))))),
    )
