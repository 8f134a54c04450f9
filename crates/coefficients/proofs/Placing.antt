-- Pairs that are placed as they are read: the loop of the code against the pairs read first and placed then. Assumes nothing.
use mathlib.Core.Path.{◌≡◌, refl, ap, sym, subst, ◌∙◌}
use mathlib.Core.Bool.{Bool, true, false, not}
use mathlib.Core.List.{List, [], ◌∷◌, ◌++◌}
use Prim.Native.Nat.{ℕ, ◌+◌, ◌-◌, ◌≤◌, ◌<◌}
use native.Mathlib.Omega.{arith}
use borrow.Author.Tests.{lt-ltb, le-ltb}
use lib.IntN.{ℤ, ◌+ℤ◌}
use Rattle.laws.proofs.Tests.{if_yes, if_no}
use Rattle.bits.specs.Programs.{done}
use Rattle.bits.specs.Runs.{Runs}
use Rattle.bits.specs.declared.reader.Reader.{Reader}
use Rattle.bits.proofs.Rules.{Loops, loop-start, loop-on, loop-end, r-call, r-yes, r-no, r-done, r_inner}
use Rattle.coefficients.specs.declared.coefficient.Coefficient.TheVariants.{EndOfBlock, RunLevel}
use Rattle.coefficients.specs.declared.block.BlockEnd.{BlockEnd}
use Rattle.coefficients.specs.declared.block.BlockEnd.TheVariants.{Complete, Dropped, DcOutOfRange}
use Rattle.coefficients.specs.declared.quantiser.Quantiser.{Quantiser}
use Rattle.coefficients.specs.Coefficients.{coefficient}
use Rattle.coefficients.specs.Dcs.{dc_difference, dc_in_range}
use Rattle.coefficients.specs.Dequantise.{quantiser}
use Rattle.coefficients.specs.Syntax.{Pair, PairsEnd, pairs_read, pairs_end, coded, pair_step, pairs, intra_coded, non_intra_coded, coded_block}
use Rattle.coefficients.specs.Blocks.{BlockCoefficients, block_coefficients, with_pair, with_pairs, BlockCoefficientsEnd, block_coefficients_end, coefficients}
use Rattle.coefficients.specs.Blocks.{BlockRead, with_dc, reconstructed, block}

-- one pair more, at the end
all_snoc : (q : Quantiser) (m : List ℕ) (f : BlockCoefficients) (ps : List Pair) (p : Pair)
    → with_pairs q m f (ps ++ (p ∷ [])) ≡ with_pair q m (with_pairs q m f ps) p
unfolding with_pairs
all_snoc q m f [] p = refl
all_snoc q m f (x ∷ ps) p = all_snoc q m (with_pair q m f x) ps p

-- between two coefficients: some pairs are read, and their levels are at their places
pub record AtPair (q : Quantiser) (m : List ℕ) (f : BlockCoefficients) (s : List ℕ) (from : Reader) (now : BlockCoefficients) (here : Reader) : Type 0 where
  pub read : List Pair
  pub loops : Loops 65 pair_step (pairs_end [] Dropped) (pairs_read [] f.n) s from (pairs_read read now.n) here (64 - now.n)
  pub most : now.n ≤ 64
  pub is : now ≡ with_pairs q m f read

pub pair-start : {q : Quantiser} {m : List ℕ} {f : BlockCoefficients} {s : List ℕ} {from : Reader} → f.n ≤ 64 → AtPair q m f s from f from
unfolding with_pairs
pair-start h = record { read = []; loops = loop-start (omega arith); most = h; is = refl }

module _ {q : Quantiser} {m : List ℕ} {f : BlockCoefficients} {s : List ℕ} {from : Reader} {now : BlockCoefficients} {here : Reader}
    (x : AtPair q m f s from now here)
    {to : Reader} where
  pub pair-on : {run : ℕ} {level : ℤ} → Runs (coefficient now.n) s here (RunLevel run level) to → now.n + run < 64
      → AtPair q m f s from (with_pair q m now (record { run = run; level = level })) to
  unfolding pair_step
  pair-on {run} {level} r h =
      record {
        read = x.read ++ (record { run = run; level = level } ∷ []);
        loops = loop-on x.loops (r-call _ r (rw (lt-ltb _ _ h) r-done)) (omega arith);
        most = omega arith;
        is = ap (λ (g : BlockCoefficients). with_pair q m g (record { run = run; level = level })) x.is
            ∙ sym (all_snoc q m f x.read (record { run = run; level = level }));
      }

  ends : (end : BlockEnd) → Runs (pairs f.n) s from (pairs_end x.read end) to → Runs (coefficients q m f) s from (block_coefficients_end now end) to
  unfolding coefficients
  ends end r = subst (λ (g : BlockCoefficients). Runs (coefficients q m f) s from (block_coefficients_end g end) to) (sym x.is) (r-call _ r r-done)

  pub pair-whole : Runs (coefficient now.n) s here EndOfBlock to → Runs (coefficients q m f) s from (block_coefficients_end now Complete) to
  unfolding pairs pair_step
  pair-whole r = ends Complete (loop-end x.loops (r-call _ r r-done))

  pub pair-dropped : {run : ℕ} {level : ℤ} → Runs (coefficient now.n) s here (RunLevel run level) to → 64 ≤ now.n + run
      → Runs (coefficients q m f) s from (block_coefficients_end now Dropped) to
  unfolding pairs pair_step
  pair-dropped r h = ends Dropped (loop-end x.loops (r-call _ r (rw (le-ltb _ _ h) r-done)))

-- ---- a block

-- the pairs that a run of coefficients read
module _ (q : Quantiser) (m : List ℕ) (f : BlockCoefficients) {s : List ℕ} {from to : Reader} {g : BlockCoefficients} {end : BlockEnd}
    (w : Runs (coefficients q m f) s from (block_coefficients_end g end) to) where
  read_first : (p : PairsEnd) × Runs (pairs f.n) s from p to × (block_coefficients_end (with_pairs q m f p.pairs) p.end ≡ block_coefficients_end g end)
  unfolding coefficients
  read_first = r_inner (λ p. block_coefficients_end (with_pairs q m f p.pairs) p.end) w

  abbrev out : PairsEnd
  out = read_first.0

  pairs-read : Runs (pairs f.n) s from out to
  pairs-read = read_first.1

  -- what is made of them
  pairs-placed : (predictor : ℤ)
      → ◌≡◌ {A = BlockRead} (record { block_coefficients = with_pairs q m f out.pairs; predictor = predictor; end = out.end })
      (record { block_coefficients = g; predictor = predictor; end = end })
  pairs-placed predictor =
      ap (λ (o : BlockCoefficientsEnd). record { block_coefficients = o.block_coefficients; predictor = predictor; end = o.end }) read_first.2

-- a law of quantisers for intra blocks, or for others, holds of each one that says so
as_kind : (P : Quantiser → Type 0) (q : Quantiser) (intra : Bool) → q.intra ≡ intra → P (quantiser intra q.scale) → P q
as_kind P q intra e x = subst (λ (b : Bool). P (quantiser b q.scale)) (sym e) x

module _ (m : List ℕ) (luminance : Bool) (predictor : ℤ) (left : List ℤ) {s : List ℕ} {from : Reader} where
  module _ (q : Quantiser) (intra : q.intra ≡ true) {x : ℤ} {mid : Reader} (r : Runs (dc_difference luminance) s from x mid) where
    pub dc-outside : dc_in_range (predictor +ℤ x) ≡ false → Runs (block q m luminance predictor left) s from
        (record { block_coefficients = block_coefficients left 0; predictor = predictor; end = DcOutOfRange }) mid
    unfolding block coded_block intra_coded reconstructed
    dc-outside h =
        let o = quantiser true q.scale in
        let end : BlockRead = record { block_coefficients = block_coefficients left 0; predictor = predictor; end = DcOutOfRange } in
        let is : reconstructed o m predictor left (coded x (pairs_end [] DcOutOfRange)) ≡ end = if_yes _ (ap not h) refl in
        as_kind (λ q. Runs (block q m luminance predictor left) s from end mid) q true intra
        (subst (λ (v : BlockRead). Runs (block o m luminance predictor left) s from v mid) is
        (r-call (λ c. done (reconstructed o m predictor left c)) (r-call _ r (r-no _ h r-done)) r-done))

    pub after-dc : {g : BlockCoefficients} {end : BlockEnd} {to : Reader} → dc_in_range (predictor +ℤ x) ≡ true
        → Runs (coefficients q m (with_dc (predictor +ℤ x) left)) s mid (block_coefficients_end g end) to
        → Runs (block q m luminance predictor left) s from (record { block_coefficients = g; predictor = predictor +ℤ x; end = end }) to
    unfolding block coded_block intra_coded reconstructed
    after-dc {g} {end} {to} h =
        as_kind
        (λ q. Runs (coefficients q m (with_dc (predictor +ℤ x) left)) s mid (block_coefficients_end g end) to
        → Runs (block q m luminance predictor left) s from (record { block_coefficients = g; predictor = predictor +ℤ x; end = end }) to)
        q true intra
        (λ w.
        let o = quantiser true q.scale in
        let f = with_dc (predictor +ℤ x) left in
        let whole : BlockRead = record { block_coefficients = with_pairs o m f (out o m f w).pairs; predictor = predictor +ℤ x; end = (out o m f w).end } in
        let is : reconstructed o m predictor left (coded x (out o m f w)) ≡ whole = if_no _ (ap not h) refl in
        subst (λ (v : BlockRead). Runs (block o m luminance predictor left) s from v to) (is ∙ pairs-placed o m f w (predictor +ℤ x))
        (r-call (λ c. done (reconstructed o m predictor left c)) (r-call _ r (r-yes _ h (r-call _ (pairs-read o m f w) r-done))) r-done))

  pub no-dc : (q : Quantiser) {g : BlockCoefficients} {end : BlockEnd} {to : Reader} → q.intra ≡ false
      → Runs (coefficients q m (block_coefficients left 0)) s from (block_coefficients_end g end) to
      → Runs (block q m luminance predictor left) s from (record { block_coefficients = g; predictor = predictor; end = end }) to
  unfolding block coded_block non_intra_coded reconstructed
  no-dc q {g} {end} {to} h =
      as_kind (λ q. Runs (coefficients q m (block_coefficients left 0)) s from (block_coefficients_end g end) to
      → Runs (block q m luminance predictor left) s from (record { block_coefficients = g; predictor = predictor; end = end }) to) q false h
      (λ w. let o = quantiser false q.scale in
      subst (λ (v : BlockRead). Runs (block o m luminance predictor left) s from v to) (pairs-placed o m (block_coefficients left 0) w predictor)
      (r-call (λ c. done (reconstructed o m predictor left c)) (r-call _ (pairs-read o m (block_coefficients left 0) w) r-done) r-done))
