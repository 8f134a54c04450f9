-- An entry of 256 or more ends the walk, and a smaller one is the index of a pair further on.
use Rattle.std.proofs.Common.{◌≡◌, ◌∙◌, ap, subst, Bool, true, cond, List, ℕ, ◌+◌, ◌-◌, ◌≤◌, ◌<◌, ℤ, pos, nat_abs, length, get_or, arith, le-leb}
use Rattle.std.proofs.lemmas.Bool.{lt-leb}
use lib.Signed.{le_z}
use Rattle.laws.proofs.Ints.{lit, no_le}
use Rattle.bits.proofs.Gives.{given_by, g-bits}
use Rattle.bits.proofs.Rules.{Loops, loop-start, loop-on, loop-end, r-call, r-yes, r-no, r-done, reading}
use Rattle.codes.specs.DecodingTables.{ValidMergedTable, index_of, indices}
use Rattle.codes.specs.Walk.{walk_step}
use Rattle.codes.proofs.Lists.{map_at, length-map}
use Rattle.codes.proofs.walk.walk_from.Goals as goal

-- the index at a place of a table: 0 where the walk ends, else the entry
index-end : (t : List ℕ) (k : ℕ) → 256 ≤ get_or t k 0 → le_z (get_or (indices t) k (pos 0)) (pos 0) ≡ true
index-end t k h =
    ap (λ (z : ℤ). le_z z (pos 0)) (map_at index_of t 0 k ∙ ap (λ (b : Bool). cond b (pos 0) (pos (get_or t k 0))) (le-leb 256 (get_or t k 0) h))

index_on : (t : List ℕ) (k : ℕ) → get_or t k 0 < 256 → get_or (indices t) k (pos 0) ≡ pos (get_or t k 0)
index_on t k h = map_at index_of t 0 k ∙ ap (λ (b : Bool). cond b (pos 0) (pos (get_or t k 0))) (lt-leb 256 (get_or t k 0) h)

-- where a smaller entry leads
record Further (t : List ℕ) (at bit : ℕ) : Type 0 where
  is : get_or (indices t) (at + bit) (pos 0) ≡ pos (get_or t (at + bit) 0)
  on : at < get_or t (at + bit) 0
  inside : get_or t (at + bit) 0 + 1 < length t

further : {t : List ℕ} {at bit : ℕ} → ValidMergedTable t → at + 1 < length t → bit < 2 → get_or t (at + bit) 0 < 256 → Further t at bit
further {t} {at} {bit} valid pair few below =
    let leads = valid.rule (at + bit) (omega arith) below in
    record { is = index_on t (at + bit) below; on = omega (arith, leads.0); inside = leads.1 }

pub loop-from-init : goal.loop-from-init
loop-from-init c =
    record {
      inside = c.requires.reader_in_bounds;
      pair = c.requires.pair_in_bounds;
      rest = loop-start (omega (arith, c.requires.pair_in_bounds, length-map index_of c.args.table.now));
    }

pub bounds-table-position : goal.bounds-table-position
bounds-table-position c = let bit = given_by (g-bits 1) c.read_bit-bit.ensures.runs in omega (arith, bit)

pub loop-from-smaller : goal.loop-from-smaller
loop-from-smaller c =
    let bit = given_by (g-bits 1) c.read_bit-bit.ensures.runs in
    let next = further c.requires.valid_merged_table c.loop-from.invariant.pair bit c.if-next-ge256.false in
    omega (arith, next.on, next.inside)

pub loop-from-preserved : goal.loop-from-preserved
unfolding walk_step
loop-from-preserved c =
    let t = c.args.table.now in
    let place = c.loop-from.at + c.read_bit-bit.result.value in
    let bit = given_by (g-bits 1) c.read_bit-bit.ensures.runs in
    let next = further c.requires.valid_merged_table c.loop-from.invariant.pair bit c.if-next-ge256.false in
    let to : nat_abs (get_or (indices t) place (pos 0)) ≡ c.from-at.result = omega (arith, ap nat_abs next.is) in
    let goes_on = ap (λ (z : ℤ). le_z z (pos 0)) next.is ∙ no_le (lit (get_or t place 0)) (lit 0) (omega (arith, next.on)) in
    let From : ℕ → Type 0 =
    λ at. Loops (length (indices t)) (walk_step (indices t)) 0 c.args.pair c.args.s.now c.args.reader at c.read_bit-bit.result.reader (length t - 1 - at) in
    record {
      inside = c.read_bit-bit.ensures.inside;
      pair = omega (arith, next.inside);
      rest = subst From to (loop-on c.loop-from.invariant.rest (r-call _ c.read_bit-bit.ensures.runs (r-no _ goes_on r-done)) (rw to (loop-from-smaller c)));
    }

pub returns-then-next-ge256 : goal.returns-then-next-ge256
unfolding walk_step
returns-then-next-ge256 c =
    let place = c.loop-from.at + c.read_bit-bit.result.value in
    let bit = given_by (g-bits 1) c.read_bit-bit.ensures.runs in
    let ends = r-yes _ (index-end c.args.table.now place c.if-next-ge256.true) r-done in
    record {
      runs_in_bounds = reading c.requires.reader_in_bounds (loop-end c.loop-from.invariant.rest (r-call _ c.read_bit-bit.ensures.runs ends));
      position_in_bounds = omega (arith, bit, c.loop-from.invariant.pair);
      bound = c.if-next-ge256.true;
    }
