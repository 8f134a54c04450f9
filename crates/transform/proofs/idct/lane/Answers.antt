-- Each of the eight is an entry, and an entry is read as it is.
use Rattle.std.proofs.Common.{◌≡◌, ℕ, ℤ, List, ◌+◌, ◌*◌, ap, ◌∙◌, arith, rules}
use mir.Syntax.{w32}
use Rattle.laws.proofs.Ints.{reread}
use Rattle.transform.specs.declared.butterfly.Eight.{Eight}
use Rattle.transform.specs.Idct.{at, lane}
use Rattle.transform.proofs.idct.lane.Goals as goal

-- the code reads the entry k as it is
abbrev IsRead : List ℤ → ℕ → Type 0
IsRead l k = reread w32 (at l k) ≡ at l k

module _ (l : List ℤ) (s d : ℕ) where
  read_lane : IsRead l s → IsRead l (s + d) → IsRead l (s + 2 * d) → IsRead l (s + 3 * d) → IsRead l (s + 4 * d) → IsRead l (s + 5 * d)
      → IsRead l (s + 6 * d) → IsRead l (s + 7 * d)
      → ◌≡◌ {A = Eight}
      (record {
        v0 = reread w32 (at l s);
        v1 = reread w32 (at l (s + d));
        v2 = reread w32 (at l (s + 2 * d));
        v3 = reread w32 (at l (s + 3 * d));
        v4 = reread w32 (at l (s + 4 * d));
        v5 = reread w32 (at l (s + 5 * d));
        v6 = reread w32 (at l (s + 6 * d));
        v7 = reread w32 (at l (s + 7 * d));
      })
      (lane l s d)
  read_lane e0 e1 e2 e3 e4 e5 e6 e7 =
      let first : s ≡ s + 0 * d = omega arith in
      let second : s + d ≡ s + 1 * d = omega arith in
      λ i. record {
        v0 = (e0 ∙ ap (at l) first) i;
        v1 = (e1 ∙ ap (at l) second) i;
        v2 = e2 i;
        v3 = e3 i;
        v4 = e4 i;
        v5 = e5 i;
        v6 = e6 i;
        v7 = e7 i;
      }

pub returns : goal.returns
returns c =
    read_lane c.args.block.now c.args.start c.args.step (search rules) (search rules) (search rules) (search rules) (search rules) (search rules)
    (search rules) (search rules)
