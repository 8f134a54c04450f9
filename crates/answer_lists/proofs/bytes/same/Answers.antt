-- Both tests decide whether the two are the same list.
use Rattle.std.proofs.Common.{◌≡◌, ℕ, List, Decides, true, length, subst, refl}
use Rattle.std.proofs.lemmas.Bool.{and_from}
use Rattle.std.proofs.lemmas.Bool.Decides.{same_from_decides, Decides-eqb}
use Rattle.std.proofs.lemmas.Slice.Eq.{slice_eq-Decides}
use lib.Seq.{ext_get_or}
use Rattle.laws.proofs.Each.{all-at, all-by}
use Rattle.laws.proofs.Tests.{both}
use Rattle.answer_lists.specs.Bytes.{same_byte, same_bytes}
use Rattle.answer_lists.proofs.bytes.same.Goals as goal

same_bytes-Decides : (s t : List ℕ) → Decides (same_bytes s t) (s ≡ t)
unfolding same_bytes
same_bytes-Decides s t = (
  λ e.
      let b = both _ _ e in
      ext_get_or 0 s t ((Decides-eqb _ _).0 b.0) (λ k q. (Decides-eqb _ _).0 (all-at (same_byte s t) (length s) b.1 k q)),
  λ e. subst (λ (l : List ℕ). same_bytes s l ≡ true) e
      (and_from _ _ ((Decides-eqb (length s) (length s)).1 refl) (all-by (same_byte s s) (length s) (λ k q. (Decides-eqb _ _).1 refl))),
)

pub returns : goal.returns
returns c = same_from_decides _ (same_bytes c.args.a.now c.args.b.now) (slice_eq-Decides Decides-eqb _ _ _ c.eq.ensures) (same_bytes-Decides _ _)
