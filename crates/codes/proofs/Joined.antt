-- A code table as it is lent: its walk is that of its indices, and the value at the end of the walk comes back. Assumes nothing.
use mathlib.Core.Path.{◌≡◌, refl, ap, sym, ◌∙◌, fun_ext}
use mathlib.Core.Bool.{Bool, true, false, cond, ◌&&◌}
use mathlib.Core.List.{List, [], ◌∷◌}
use Prim.Native.Nat.{ℕ, zero, suc, ◌+◌, ◌%◌, ◌≤◌, ◌<◌}
use native.Mathlib.Decide.{dec_lt}
use native.Mathlib.Omega.{arith}
use borrow.Author.Tests.{le-leb, lt-leb}
use lib.Dec.{T, leb, leb→le}
use lib.Ieee.Bits.{is_true}
use lib.IntN.{ℤ, pos, nat_abs, neg_ℤ, ◌-ℤ◌}
use lib.ListN.{length, get_or, get_or-eq_default}
use lib.Signed.{le_z}
use mir.Facts.{and_yes}
use Rattle.laws.specs.Loops.{Step, continue, finish}
use Rattle.laws.proofs.Ints.{up, dn, v, lit, neg, ◌⊕◌, ◌⊖◌, abs-of, cast_is, eq-by, le_yes}
use Rattle.bits.specs.Programs.{Prog, done, bits, loop, ◌>>=◌}
use Rattle.bits.specs.Runs.{Runs}
use Rattle.bits.specs.declared.reader.Reader.{Reader}
use Rattle.bits.proofs.Rules.{r-call, r-done}
use Rattle.codes.specs.DecodingTables.{biased_value, merged_entry, merged_table, index_of, indices, all, abs_below256, is_table_value, IsMergedTable}
use Rattle.codes.specs.DecodingTables.{ValidMergedTable}
use Rattle.codes.specs.TableRule.{ValidIndices}
use Rattle.codes.specs.Walk.{walk_step, walk_from, walk, vlc}
use Rattle.codes.proofs.Entries.{above}
use Rattle.codes.proofs.Lists.{map_at, length-map}

pub joined_length : (ix vs : List ℤ) → length (merged_table ix vs) ≡ length ix
joined_length [] vs = refl
joined_length (i ∷ ix) [] = ap suc (joined_length ix [])
joined_length (i ∷ ix) (x ∷ vs) = ap suc (joined_length ix vs)

pub joined_at : (ix vs : List ℤ) (k : ℕ) → k < length ix → get_or (merged_table ix vs) k 0 ≡ merged_entry (get_or ix k (pos 0)) (get_or vs k (pos 0))
joined_at [] vs k h = let no : ⊥ = omega arith in absurd no
joined_at (i ∷ ix) [] zero h = refl
joined_at (i ∷ ix) [] (suc k) h = joined_at ix [] k (omega arith)
joined_at (i ∷ ix) (x ∷ vs) zero h = refl
joined_at (i ∷ ix) (x ∷ vs) (suc k) h = joined_at ix vs k (omega arith)

-- what all numbers of a list pass, and 0, passes the one at any place
pub all-at : (p : ℤ → Bool) (xs : List ℤ) → T (p (pos 0)) → T (all p xs) → (k : ℕ) → T (p (get_or xs k (pos 0)))
all-at p [] z t k = z
all-at p (x ∷ xs) z t zero = (and_yes (p x) (all p xs) t).0
all-at p (x ∷ xs) z t (suc k) = all-at p xs z (and_yes (p x) (all p xs) t).1 k

pub near-at : (xs : List ℤ) → T (all abs_below256 xs) → (k : ℕ) → nat_abs (get_or xs k (pos 0)) ≤ 255
near-at xs t k = leb→le (nat_abs (get_or xs k (pos 0))) 255 (all-at abs_below256 xs tt t k)

-- a value that is told from an index
pub record Short (x : ℤ) : Type 0 where
  pub least : dn x ≤ up x + 1024
  pub most : up x ≤ dn x + 65535
  pub apart : 256 ≤ biased_value x

short-of : (x : ℤ) → T (is_table_value x) → Short x
short-of x t =
    let a = le_z (neg_ℤ (pos 1024)) x in
    let b = le_z x (pos 65535) in
    let u = and_yes a (b && leb 256 (biased_value x)) t in
    let w = and_yes b (leb 256 (biased_value x)) u.1 in
    let least = le_yes (neg (lit 1024)) (v x) (is_true a u.0) in
    let most = le_yes (v x) (lit 65535) (is_true b w.0) in
    record { least = omega arith; most = omega arith; apart = leb→le 256 (biased_value x) w.1 }

pub short-at : (vs : List ℤ) → T (all is_table_value vs) → (k : ℕ) → Short (get_or vs k (pos 0))
short-at vs t k = short-of (get_or vs k (pos 0)) (all-at is_table_value vs tt t k)

-- a value comes back: with its sign, or as a natural number
signed_back : (x : ℤ) → nat_abs x ≤ 255 → pos (biased_value x) -ℤ pos 1024 ≡ x
signed_back x h =
    let a = abs-of (v x) h in
    let m = cast_is (v x ⊕ lit 1024) (omega arith) in
    eq-by (lit (biased_value x) ⊖ lit 1024) (v x) (omega (arith, m))

pub natural-back : (n : ℕ) → n ≤ 65535 → (biased_value (pos n) + 64512) % 65536 ≡ n
natural-back n h = let m = cast_is (lit n ⊕ lit 1024) (omega arith) in omega (arith, m)

-- the index of an entry is the one that it is made of, or 0 if that is not above 0
module _ (i x : ℤ) (h : nat_abs i ≤ 255) (s : Short x) where
  index-end : le_z i (pos 0) ≡ true → index_of (merged_entry i x) ≡ pos 0
  index-end e =
      ap (λ (b : Bool). index_of (cond b (biased_value x) (nat_abs i))) e
      ∙ ap (λ (b : Bool). cond b (pos 0) (pos (biased_value x))) (le-leb 256 (biased_value x) s.apart)

  index_on : le_z i (pos 0) ≡ false → index_of (merged_entry i x) ≡ i
  index_on e =
      ap (λ (b : Bool). index_of (cond b (biased_value x) (nat_abs i))) e
      ∙ ap (λ (b : Bool). cond b (pos 0) (pos (nat_abs i))) (lt-leb 256 (nat_abs i) (omega arith)) ∙ sym (above i e).0

-- a turn of the walk at an entry
abbrev turn : ℕ → ℤ → Prog (Step ℕ ℕ)
turn k z = cond (le_z z (pos 0)) (done (finish k)) (done (continue (nat_abs z)))

same_step : (k : ℕ) (i x : ℤ) → nat_abs i ≤ 255 → Short x → turn k (index_of (merged_entry i x)) ≡ turn k i
same_step k i x h s = go (le_z i (pos 0)) refl
  where
    go : (b : Bool) → le_z i (pos 0) ≡ b → turn k (index_of (merged_entry i x)) ≡ turn k i
    go true e = ap (turn k) (index-end i x h s e) ∙ sym (ap (λ (c : Bool). cond c (done (finish k)) (done (continue (nat_abs i)))) e)
    go false e = ap (turn k) (index_on i x h s e)

module _ {ix vs : List ℤ} {t : List ℕ} (j : IsMergedTable ix vs t) where
  joined-long : length t ≡ length ix
  joined-long = ap length j.is ∙ joined_length ix vs

  at_entry : (k : ℕ) → k < length ix → get_or t k 0 ≡ merged_entry (get_or ix k (pos 0)) (get_or vs k (pos 0))
  at_entry k h = ap (λ (l : List ℕ). get_or l k 0) j.is ∙ joined_at ix vs k h

  -- past the end both have the index 0
  turns : (k : ℕ) → turn k (get_or (indices t) k (pos 0)) ≡ turn k (get_or ix k (pos 0))
  turns k = ap (turn k) (map_at index_of t 0 k) ∙ go (dec_lt k (length ix))
    where
      go : Dec (k < length ix) → turn k (index_of (get_or t k 0)) ≡ turn k (get_or ix k (pos 0))
      go (yes h) =
          ap (λ (e : ℕ). turn k (index_of e)) (at_entry k h)
          ∙ same_step k (get_or ix k (pos 0)) (get_or vs k (pos 0)) (near-at ix j.places k) (short-at vs j.values k)
      go (no h) =
          ap (λ (e : ℕ). turn k (index_of e)) (get_or-eq_default t 0 {n = k} (omega (arith, joined-long)))
          ∙ ap (turn k) (sym (get_or-eq_default ix (pos 0) {n = k} (omega arith)))

  -- the walk looks only at indices above 0
  pub walk-joined : (i : ℕ) → walk_from (indices t) i ≡ walk_from ix i
  unfolding walk_step
  walk-joined i =
      ap (λ (n : ℕ). loop n (walk_step (indices t)) 0 i) (length-map index_of t ∙ joined-long)
      ∙ ap (λ (f : ℕ → Prog (Step ℕ ℕ)). loop (length ix) f 0 i)
      (fun_ext (λ at. ap (λ (f : ℕ → Prog (Step ℕ ℕ)). bits 1 >>= f) (fun_ext (λ b. turns (at + b)))))

  -- the entry where it ends is the value, as it is lent
  pub ends-joined : (k : ℕ) → k < length t → 256 ≤ get_or t k 0 → get_or t k 0 ≡ biased_value (get_or vs k (pos 0))
  ends-joined k h e = let here = at_entry k (omega (arith, joined-long)) in here ∙ go (le_z i (pos 0)) (rw here at e)
    where
      x : ℤ
      x = get_or vs k (pos 0)

      i : ℤ
      i = get_or ix k (pos 0)

      go : (b : Bool) → 256 ≤ cond b (biased_value x) (nat_abs i) → cond b (biased_value x) (nat_abs i) ≡ biased_value x
      go true f = refl
      go false f = let no : ⊥ = omega (arith, near-at ix j.places k) in absurd no

  -- so the value at the end of the walk is read, with its sign
  pub joined-runs : T (all abs_below256 vs) → {s : List ℕ} {from to : Reader} {k : ℕ} → Runs (walk (indices t)) s from k to → k < length t → 256 ≤ get_or t k 0
      → Runs (vlc ix vs (pos 0)) s from (pos (get_or t k 0) -ℤ pos 1024) to
  unfolding vlc walk
  joined-runs n {k = k} r h l =
      rw (ap (λ (m : ℕ). pos m -ℤ pos 1024) (ends-joined k h l) ∙ signed_back (get_or vs k (pos 0)) (near-at vs n k))
      (r-call _ (rw (walk-joined 0) at r) r-done)

  -- the rule of the indices is that of the table
  pub joined_leading : ValidIndices ix → ValidMergedTable t
  joined_leading g =
      record {
        two = omega (arith, joined-long, g.two);
        rule = λ k h l.
            let up = index k (omega (arith, joined-long)) l in
            let r = g.rule k (get_or t k 0) (omega (arith, joined-long)) up.0 up.1 in
            (r.1, omega (arith, joined-long, r.2));
      }
    where
      index : (k : ℕ) → k < length ix → get_or t k 0 < 256 → (get_or ix k (pos 0) ≡ pos (get_or t k 0)) × (0 < get_or t k 0)
      index k h l = go (le_z i (pos 0)) refl
        where
          i : ℤ
          i = get_or ix k (pos 0)

          x : ℤ
          x = get_or vs k (pos 0)

          here : (b : Bool) → le_z i (pos 0) ≡ b → get_or t k 0 ≡ cond b (biased_value x) (nat_abs i)
          here b e = at_entry k h ∙ ap (λ (c : Bool). cond c (biased_value x) (nat_abs i)) e

          go : (b : Bool) → le_z i (pos 0) ≡ b → (i ≡ pos (get_or t k 0)) × (0 < get_or t k 0)
          go true e = let no : ⊥ = omega (arith, here true e, (short-at vs j.values k).apart) in absurd no
          go false e = let u = above i e in (u.0 ∙ ap pos (sym (here false e)), omega (arith, here false e, u.1))
