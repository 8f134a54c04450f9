-- 2.4.2.8, 2.4.4.1, 2.4.4.2: the blocks of a macroblock, with the DC prediction. Assumes nothing.
use mathlib.Core.Path.{◌≡◌, refl, sym, ap, ◌∙◌, subst}
use mathlib.Core.Bool.{Bool, true, false, cond, not, ◌&&◌, ◌||◌}
use mathlib.Core.List.{List, [], ◌∷◌}
use Prim.Native.Nat.{ℕ, zero, suc, ◌+◌, ◌-◌, ◌*◌, ◌^◌, ◌≤◌, ◌<◌}
use native.Mathlib.Omega.{arith}
use borrow.Author.Tests.{eqb-true, eqb-false}
use lib.Dec.{eqb, ltb}
use lib.IntN.{ℤ, pos, neg_ℤ, nat_abs, ◌+ℤ◌, ◌*ℤ◌, zero-*ℤ, *ℤ-zero}
use lib.ListN.{get_or, set, replicate, get_or-replicate}
use lib.Seq.{get_or-set_other}
use lib.Signed.{le_z}
use Rattle.laws.proofs.Ints.{v, lit, neg, ◌⊕◌, ◌⊗◌, ◌⊛◌, eq-by, le_yes, yes_le}
use Rattle.laws.proofs.Tests.{both}
use Rattle.bits.specs.Bits.{read_at}
use Rattle.bits.specs.Programs.{Prog, done, run, bind, bits}
use Rattle.bits.proofs.Gives.{g-bits}
use Rattle.codes.specs.Matrices.{zig_zag, down_from, diagonals, premultiplier_matrix}
use Rattle.codes.proofs.Values.{size-luminance-most, size-chrominance-most}
use Rattle.coefficients.specs.declared.block.BlockEnd.{BlockEnd}
use Rattle.coefficients.specs.declared.block.BlockEnd.TheVariants.{Complete, Dropped, DcOutOfRange}
use Rattle.coefficients.specs.Dcs.{dc_size, dc_difference, dc_in_range, added}
use Rattle.coefficients.specs.Dequantise.{quantiser, dequantised}
use Rattle.coefficients.specs.Syntax.{Pair, PairsEnd, pairs_end, pairs, CodedBlock, coded, intra_coded, non_intra_coded, coded_block}
use Rattle.coefficients.specs.Blocks as B
use Rattle.coefficients.specs.Standard.{dct_zz0}
use Rattle.coefficients.proofs.Standard.{dc_as-printed}
use borrow.Rule.Slice.PartMut.{mid_of, put_mid}
use Rattle.laws.specs.Signed.{clamp255}
use Rattle.laws.proofs.Lists.{rows_alike}
use Rattle.transform.specs.Idct.{idct, dc_only}
use Rattle.transform.proofs.LoneDc.{lone-dc}
use Rattle.prediction.specs.Predict.{macroblock_at}
use Rattle.prediction.specs.Planes.{plane_of, plane_length, plane_start}
use Rattle.prediction.specs.Writers.{set_const, overwrite, add_const, add_block, block_width, block_address}
use Rattle.picture_state.specs.declared.types.{Context.Context, Matrices.Matrices}
use Rattle.picture_state.specs.State.{SliceState, slice_state, with_predictors, fresh_block}
use Rattle.picture_state.specs.Result.{Result, ok, error, if_ok, bind_result, lift, from_result, pure}
use Rattle.picture_state.specs.Stop.{Stop}
use Rattle.picture_state.specs.Flags.{flag}
use Rattle.blocks.specs.Blocks as O
use Rattle.standard.specs.Standard as S
use Rattle.standard.specs.Standard.Prelude.{Forbidden}
use Rattle.standard.proofs.Agreement.{ResultIs, Agree, a-same, a-pure, a-lift, a-bind, a-shall, a-code, a-for, lift-bind, lift-bind-on}
use Rattle.standard.proofs.Related.{Own, own, slice_of, eights, Rule, coding}
use Rattle.standard.specs.Rules.{times}

-- ---- coefficients

times-set : (xs ps : List ℤ) (k : ℕ) (x : ℤ) → times (set xs k x) ps ≡ set (times xs ps) k (x *ℤ get_or ps k (pos 0))
times-set [] ps k x = refl
times-set (y ∷ xs) [] zero x = refl
times-set (y ∷ xs) [] (suc k) x = ap (λ (l : List ℤ). (y *ℤ pos 0) ∷ l) (times-set xs [] k x)
times-set (y ∷ xs) (p ∷ ps) zero x = refl
times-set (y ∷ xs) (p ∷ ps) (suc k) x = ap (λ (l : List ℤ). (y *ℤ p) ∷ l) (times-set xs ps k x)

times-at : (xs ps : List ℤ) (k : ℕ) → get_or xs k (pos 0) ≡ pos 0 → get_or (times xs ps) k (pos 0) ≡ pos 0
times-at [] ps k e = refl
times-at (x ∷ xs) [] zero e = *ℤ-zero x
times-at (x ∷ xs) [] (suc k) e = times-at xs [] k e
times-at (x ∷ xs) (p ∷ ps) zero e = ap (λ (z : ℤ). z *ℤ p) e ∙ zero-*ℤ p
times-at (x ∷ xs) (p ∷ ps) (suc k) e = times-at xs ps k e

abbrev premultiplied : List ℤ → List ℤ
premultiplied recon = times recon premultiplier_matrix

times_zero : premultiplied (replicate 64 (pos 0)) ≡ replicate 64 (pos 0)
unfolding premultiplier_matrix
times_zero = refl

-- ours while the standard's is x
abbrev filled_of : S.PartialBlock → B.BlockCoefficients
filled_of x = B.block_coefficients (premultiplied x.recon) x.n

-- RULES 4.3: as long as no place but the first of the zig-zag order is used, all coefficients but that at place 0 are 0
pub record Lone (x : S.PartialBlock) : Type 0 where
  pub zeros : x.n ≤ 1 → (k : ℕ) → 0 < k → get_or x.recon k (pos 0) ≡ pos 0

zeros-at : (n k : ℕ) → get_or (replicate n (pos 0)) k (pos 0) ≡ pos 0
zeros-at zero k = refl
zeros-at (suc n) zero = refl
zeros-at (suc n) (suc k) = zeros-at n k

lone-dc-begins : (z : ℤ) → Lone (record { recon = set (replicate 64 (pos 0)) 0 z; n = 1 })
lone-dc-begins z = record { zeros = λ h k p. get_or-set_other (replicate 64 (pos 0)) 0 k z (pos 0) (λ e. omega arith) ∙ zeros-at 64 k }

lone-begins : Lone (record { recon = replicate 64 (pos 0); n = 0 })
lone-begins = record { zeros = λ h k p. zeros-at 64 k }

zig_zag-first : (n : ℕ) → n ≡ 0 → get_or zig_zag n 0 ≡ 0
unfolding zig_zag down_from diagonals
zig_zag-first n e = rw e

lone-next : (x : S.PartialBlock) (r : ℕ) (z : ℤ) → Lone x → Lone (record { recon = set x.recon (get_or zig_zag (x.n + r) 0) z; n = x.n + r + 1 })
lone-next x r z l =
    record {
      zeros = λ h k p.
          get_or-set_other x.recon (get_or zig_zag (x.n + r) 0) k z (pos 0) (λ e. omega (arith, zig_zag-first (x.n + r) (omega arith)))
          ∙ l.zeros (omega arith) k p;
    }

is_also : {A : Type 0} {P Q : A → Type 0} (w : Result Forbidden A) → ((x : A) → P x → Q x) → ResultIs P w → ResultIs Q w
is_also (ok x) k p = k x p
is_also (error d) k p = tt

-- such a step of the standard's alone
a_way : {A C D : Type 0} {Q : C → D → Type 0} {s : List ℕ} {a : ℕ} {q : Prog (Result Stop D)} (P : A → Type 0) (w : Result Forbidden A)
    (F : A → Prog (Result Forbidden C))
    → ResultIs P w
    → ((x : A) → P x → Agree Q s a (F x) q) → Agree Q s a (bind_result (from_result w) F) q
unfolding bind_result if_ok bind run
a_way P (ok x) F p k = k x p
a_way P (error d) F p k = record { is = tt }

module _ (rule : Rule) (g : Context) (m : Matrices) (f b : S.Direction) (intra : Bool) (scale : ℕ) where
  abbrev their : S.Coding
  their = coding rule g m f b

  abbrev placed_of : S.PartialBlock → List Pair → B.BlockCoefficients
  placed_of x ps = B.with_pairs (quantiser intra scale) (O.matrix_for m intra) (filled_of x) ps

  -- what the standard makes of some pairs is what ours makes of them
  record Placed (x : S.PartialBlock) (ps : List Pair) (y : S.PartialBlock) : Type 0 where
    same : placed_of x ps ≡ filled_of y
    lone : Lone y

  pairs-same : (x : S.PartialBlock) (ps : List Pair) → Lone x → ResultIs (Placed x ps) (S.reconstructed their intra scale x ps)
  unfolding S.reconstructed B.with_pairs
  pairs-same x [] l = record { same = refl; lone = l }
  pairs-same x (p ∷ ps) l =
      go (S.is_level p.level && rule.rules.admitted intra p.level scale quant)
      (λ e. rule.same intra p.level scale quant (both (S.is_level p.level) (rule.rules.admitted intra p.level scale quant) e).1)
      (pairs-same next ps (lone-next x p.run theirs l))
    where
      place : ℕ
      place = get_or zig_zag (x.n + p.run) 0

      quant : ℕ
      quant = get_or (O.matrix_for m intra) place 0

      theirs : ℤ
      theirs = rule.rules.dct_recon intra p.level scale quant

      next : S.PartialBlock
      next = record { recon = set x.recon place theirs; n = x.n + p.run + 1 }

      placed_same : theirs ≡ dequantised (quantiser intra scale) p.level quant → B.with_pair (quantiser intra scale) (O.matrix_for m intra) (filled_of x) p
          ≡ filled_of next
      placed_same e =
          ap (λ (z : ℤ). B.block_coefficients (set (premultiplied x.recon) place (z *ℤ get_or premultiplier_matrix place (pos 0))) (x.n + p.run + 1)) (sym e)
          ∙ ap (λ (l : List ℤ). B.block_coefficients l (x.n + p.run + 1)) (sym (times-set x.recon premultiplier_matrix place theirs))

      go : (t : Bool) → (t ≡ true → theirs ≡ dequantised (quantiser intra scale) p.level quant)
          → ResultIs (Placed next ps) (S.reconstructed their intra scale next ps)
          → ResultIs (Placed x (p ∷ ps)) (cond t (S.reconstructed their intra scale next ps) S.forbidden)
      go true k r =
          is_also (S.reconstructed their intra scale next ps) (λ y q.
          record {
            same = ap (λ (z : B.BlockCoefficients). B.with_pairs (quantiser intra scale) (O.matrix_for m intra) z ps) (placed_same (k refl))
                ∙ q.same;
            lone = q.lone;
          }) r
      go false k r = tt

  coefficients-same : (x : S.PartialBlock) (p : PairsEnd) → Lone x
      → ResultIs (λ y. (p.end ≡ Complete) × Placed x p.pairs y) (S.coefficients their intra scale x p)
  coefficients-same x p l = go p.end
    where
      all : Result Forbidden S.PartialBlock
      all = S.reconstructed their intra scale x p.pairs

      go : (e : BlockEnd) → ResultIs (λ y. (e ≡ Complete) × Placed x p.pairs y)
          (elim e [ Complete ↦ all | Dropped ↦ S.forbidden | DcOutOfRange ↦ S.forbidden ])
      go Complete = is_also all (λ y q. (refl, q)) (pairs-same x p.pairs l)
      go Dropped = tt
      go DcOutOfRange = tt

-- ---- the DC value

size_small : (luminance : Bool) (s : List ℕ) (a : ℕ) → (run (dc_size luminance) s a).value ≤ 8
unfolding dc_size
size_small true s a = let h = (size-luminance-most {s = s}).value a in omega arith
size_small false s a = let h = (size-chrominance-most {s = s}).value a in omega arith

module _ (s : List ℕ) where
  dc-agrees : (i a : ℕ) → Agree ◌≡◌ s a (S.dct_dc i) (lift (dc_difference (ltb i 4)))
  unfolding S.dct_dc dc_difference lift bind bind_result if_ok run
  dc-agrees i a =
      let o = run (dc_size (ltb i 4)) s a in
      a-same (sym (lift-bind (dc_size (ltb i 4)) _ s a)) (
      a-code (S.longest_size (ltb i 4)) (S.is_size_code (ltb i 4)) (dc_size (ltb i 4)) (dc_size (ltb i 4)) _ _ refl (
      go o.value o.at (size_small (ltb i 4) s a) (eqb o.value 0) refl))
    where
      go : (n e : ℕ) → n ≤ 8 → (t : Bool) → eqb n 0 ≡ t
          → Agree ◌≡◌ s e (cond t (pure (pos 0)) (bind_result (lift (bits n)) (λ d. pure (dct_zz0 n d))))
          (lift (cond t (done (pos 0)) (bind (bits n) (λ d. done (added n d)))))
      go n e h true q = a-pure refl
      go n e h false q =
          let l = eqb-false n 0 q in
          record { is = (refl, dc_as-printed n (read_at s e n) (omega arith) h ((g-bits {s = s} n).value e)) }

-- ---- the three predictors

abbrev own_as : ℕ → ℤ → Own → Own
own_as i x o = cond (ltb i 4) (own o.for_set o.back_set x o.cb o.cr)
    (cond (eqb i 4) (own o.for_set o.back_set o.y x o.cr) (own o.for_set o.back_set o.y o.cb x))

abbrev dcs_of : Own → List ℤ
dcs_of o = o.y ∷ o.cb ∷ o.cr ∷ []

-- the pasts as blocks i to 5 use them
abbrev pub left_of : Bool → ℕ → S.Pasts → S.Pasts
left_of is_far i p = S.pasts (cond (eqb i 0 && is_far) (pos 1024) p.y) (cond (ltb i 5 && is_far) (pos 1024) p.cb) (cond (ltb i 6 && is_far) (pos 1024) p.cr)

pub left_six : (is_far : Bool) (p : S.Pasts) → left_of is_far 0 p ≡ cond is_far (S.pasts (pos 1024) (pos 1024) (pos 1024)) p
left_six true p = refl
left_six false p = refl

-- block i with its predictor
record Component (is_far : Bool) (p : S.Pasts) (o : Own) (x : ℤ) (i : ℕ) : Type 0 where
  pred : S.dc_predictor is_far i p ≡ pos 8 *ℤ get_or (dcs_of o) (O.predictor_of i) (pos 0)
  past : left_of is_far (suc i) (S.past_as i (pos 8 *ℤ x) p) ≡ eights (own_as i x o)
  dcs : set (dcs_of o) (O.predictor_of i) x ≡ dcs_of (own_as i x o)

-- what holds of each of six numbers
below_six : (P : ℕ → Type 0) → P 0 → P 1 → P 2 → P 3 → P 4 → P 5 → (k : ℕ) → k < 6 → P k
below_six P a b c d e f zero h = a
below_six P a b c d e f (suc zero) h = b
below_six P a b c d e f (suc (suc zero)) h = c
below_six P a b c d e f (suc (suc (suc zero))) h = d
below_six P a b c d e f (suc (suc (suc (suc zero)))) h = e
below_six P a b c d e f (suc (suc (suc (suc (suc zero))))) h = f
below_six P a b c d e f (suc (suc (suc (suc (suc (suc k)))))) h = let z : ⊥ = omega arith in absurd z

component : (is_far : Bool) (p : S.Pasts) (o : Own) (x : ℤ) (i : ℕ) → i < 6 → left_of is_far i p ≡ eights o → Component is_far p o x i
component is_far p o x =
    below_six (λ i. left_of is_far i p ≡ eights o → Component is_far p o x i)
    (λ e. record { pred = λ j. (e j).y; past = λ j. S.pasts (pos 8 *ℤ x) (e j).cb (e j).cr; dcs = refl })
    (λ e. record { pred = λ j. (e j).y; past = λ j. S.pasts (pos 8 *ℤ x) (e j).cb (e j).cr; dcs = refl })
    (λ e. record { pred = λ j. (e j).y; past = λ j. S.pasts (pos 8 *ℤ x) (e j).cb (e j).cr; dcs = refl })
    (λ e. record { pred = λ j. (e j).y; past = λ j. S.pasts (pos 8 *ℤ x) (e j).cb (e j).cr; dcs = refl })
    (λ e. record { pred = λ j. (e j).cb; past = λ j. S.pasts (e j).y (pos 8 *ℤ x) (e j).cr; dcs = refl })
    (λ e. record { pred = λ j. (e j).cr; past = λ j. S.pasts (e j).y (e j).cb (pos 8 *ℤ x); dcs = refl })

-- a predictor put in its own place
kept-dcs : (o : Own) (i : ℕ) → i < 6 → set (dcs_of o) (O.predictor_of i) (get_or (dcs_of o) (O.predictor_of i) (pos 0)) ≡ dcs_of o
kept-dcs o = below_six (λ i. set (dcs_of o) (O.predictor_of i) (get_or (dcs_of o) (O.predictor_of i) (pos 0)) ≡ dcs_of o) refl refl refl refl refl refl

-- 63 has all six bits
bits-63 : (i : ℕ) → i < 6 → flag 63 (2 ^ (5 - i)) ≡ true
bits-63 = below_six (λ i. flag 63 (2 ^ (5 - i)) ≡ true) refl refl refl refl refl refl

or_true : (t : Bool) → (t || true) ≡ true
or_true true = refl
or_true false = refl

-- ---- in units of 8

eight-add : (p z : ℤ) → (pos 8 *ℤ p) +ℤ pos 8 *ℤ z ≡ pos 8 *ℤ (p +ℤ z)
eight-add p z = eq-by ((8 ⊛ v p) ⊕ (8 ⊛ v z)) (8 ⊛ (v p ⊕ v z)) (omega arith)

eight-32 : (x : ℤ) → (pos 8 *ℤ x) *ℤ pos 32 ≡ x *ℤ pos 256
eight-32 x = eq-by ((8 ⊛ v x) ⊗ lit 32) (v x ⊗ lit 256) (omega arith)

eight-inside : (x : ℤ) → (le_z (neg_ℤ (pos 2048)) (pos 8 *ℤ x) && le_z (pos 8 *ℤ x) (pos 2047)) ≡ true → dc_in_range x ≡ true
eight-inside x e =
    let b = both (le_z (neg_ℤ (pos 2048)) (pos 8 *ℤ x)) (le_z (pos 8 *ℤ x) (pos 2047)) e in
    let l = le_yes (neg (lit 2048)) (8 ⊛ v x) b.0 in
    let h = le_yes (8 ⊛ v x) (lit 2047) b.1 in
    rw (yes_le (neg (lit 256)) (v x) (omega arith), yes_le (v x) (lit 255) (omega arith))

begins : (x : ℤ) → B.block_coefficients (set (replicate 64 (pos 0)) 0 (x *ℤ pos 256)) 1
    ≡ B.block_coefficients (premultiplied (set (replicate 64 (pos 0)) 0 (pos 8 *ℤ x))) 1
unfolding premultiplier_matrix
begins x =
    ap (λ (l : List ℤ). B.block_coefficients l 1) (
    ap (λ (z : ℤ). set (replicate 64 (pos 0)) 0 z) (sym (eight-32 x)) ∙ ap (λ (l : List ℤ). set l 0 (pos 8 *ℤ x *ℤ pos 32)) (sym times_zero)
    ∙ sym (times-set (replicate 64 (pos 0)) premultiplier_matrix 0 (pos 8 *ℤ x)))

-- ---- the pels

-- one number everywhere, or the transform: the standard's two cases are our four
results_same : (intra : Bool) (scale : ℕ) (f : B.BlockCoefficients) (di dw : ℕ) (d : List ℕ)
    → (f.n ≤ 1 → (k : ℕ) → 0 < k → get_or f.coefficients k (pos 0) ≡ pos 0)
    → cond intra (overwrite d di dw (idct f.coefficients)) (add_block d di dw (idct f.coefficients)) ≡ O.results (quantiser intra scale) f di dw d
unfolding O.results overwrite add_block set_const add_const
results_same intra scale f di dw d h = go intra (eqb f.n 1) (λ e. lone-dc c (λ k p q. h (omega (arith, eqb-true f.n 1 e)) k p))
  where
    c : List ℤ
    c = f.coefficients

    x : ℤ
    x = dc_only (get_or c 0 (pos 0))

    go : (i t : Bool) → (t ≡ true → idct c ≡ replicate 64 x) → cond i (overwrite d di dw (idct c)) (add_block d di dw (idct c))
        ≡ cond t (cond i (set_const d di dw (clamp255 x)) (add_const d di dw x)) (cond i (overwrite d di dw (idct c)) (add_block d di dw (idct c)))
    go true true k =
        ap (overwrite d di dw) (k refl)
        ∙ rows_alike d di dw 8 (λ y z. clamp255 (get_or (replicate 64 x) (y * 8 + z) (pos 0))) (λ y z. clamp255 x) 8
        (λ y z p q. ap clamp255 (get_or-replicate 64 (y * 8 + z) x (pos 0) (omega arith)))
    go true false k = refl
    go false true k =
        ap (add_block d di dw) (k refl)
        ∙ rows_alike d di dw 8 (λ y z. clamp255 (pos (get_or d (di + y * dw + z) 0) +ℤ get_or (replicate 64 x) (y * 8 + z) (pos 0)))
        (λ y z. clamp255 (pos (get_or d (di + y * dw + z) 0) +ℤ x)) 8
        (λ y z p q. ap (λ (w : ℤ). clamp255 (pos (get_or d (di + y * dw + z) 0) +ℤ w)) (get_or-replicate 64 (y * 8 + z) x (pos 0) (omega arith)))
    go false false k = refl

written_same : (rule : Rule) (g : Context) (m : Matrices) (f b : S.Direction) (intra : Bool) (scale i address : ℕ) (x : S.PartialBlock) (l : List ℕ) → Lone x
    → O.written g (quantiser intra scale) i address (filled_of x) l ≡ S.written (coding rule g m f b) intra i address x l
unfolding O.written S.written
written_same rule g m f b intra scale i address x l lone =
    let mb = macroblock_at g.sizes.mb_width g.sizes.mb_height address in
    let start = plane_start g.stores.cur (plane_of i) g.sizes.mb_size in
    let size = plane_length (plane_of i) g.sizes.mb_size in
    let before = mid_of start size l in
    let put : List ℤ → List ℕ = λ y. cond intra (overwrite before (block_address mb i) (block_width mb i) y)
    (add_block before (block_address mb i) (block_width mb i) y) in
    ap (put_mid start size l) (
    sym (results_same intra scale (filled_of x) (block_address mb i) (block_width mb i) before
    (λ h k p. times-at x.recon premultiplier_matrix k (lone.zeros h k p)))
    ∙ ap put (sym (rule.transform x.recon)))

-- ---- a block

-- before block i of an intra macroblock: the pasts are our predictors
pub record Intra (is_far : Bool) (i : ℕ) (g : S.Coding) (A : ℤ) (q : ℕ) (for back : S.Vector) (fs bs : Bool) (x : S.Blocks) (w : SliceState) : Type 0 where
  pub y : ℤ
  pub cb : ℤ
  pub cr : ℤ
  pub is : w ≡ slice_state (slice_of g A q for back (own fs bs y cb cr)) fresh_block x.pels
  pub past : left_of is_far i x.past ≡ eights (own fs bs y cb cr)

-- of any other macroblock: pasts and predictors stay
pub record Inter (g : S.Coding) (A : ℤ) (q : ℕ) (for back : S.Vector) (o : Own) (p : S.Pasts) (x : S.Blocks) (w : SliceState) : Type 0 where
  pub is : w ≡ slice_state (slice_of g A q for back o) fresh_block x.pels
  pub past : x.past ≡ p

-- ours of a whole block, while the standard's is y
abbrev whole_of : ℤ → S.PartialBlock → B.BlockRead
whole_of predictor y = record { block_coefficients = filled_of y; predictor = predictor; end = Complete }

module _ (rule : Rule) (g : Context) (m : Matrices) (f b : S.Direction) (A : ℤ) (q : ℕ) (for back : S.Vector) (s : List ℕ) where
  abbrev pub G : S.Coding
  G = coding rule g m f b

  -- our state with the predictors o
  abbrev ours : Own → List ℕ → SliceState
  ours o l = slice_state (slice_of G A q for back o) fresh_block l

  -- behind block i the predictors are dcs, nothing is left over, and the pels are the standard's
  block-ends : (intra : Bool) (i : ℕ) (o : Own) (predictor : ℤ) (dcs : List ℤ) (y : S.PartialBlock) (l : List ℕ) (difference : ℤ) (r : B.BlockRead)
      → r ≡ whole_of predictor y → Lone y
      → set (dcs_of o) (O.predictor_of i) predictor ≡ dcs
      → O.block_result g (quantiser intra q) i (ours o l) difference r
      ≡ ok (slice_state (with_predictors dcs (slice_of G A q for back o)) fresh_block (S.written G intra i (nat_abs A) y l))
  unfolding O.block_result B.block_data_after
  block-ends intra i o predictor dcs y l difference r e lone d =
      let pels = written_same rule g m f b intra q i (nat_abs A) y l lone in
      ap (O.block_result g (quantiser intra q) i (ours o l) difference) e
      ∙ (λ j. ok (slice_state (with_predictors (d j) (slice_of G A q for back o)) fresh_block (pels j)))

  -- intra block i; o has our predictors
  module _ (is_far : Bool) (i : ℕ) (h : i < 6) (x : S.Blocks) (o : Own) (before : left_of is_far i x.past ≡ eights o) where
    abbrev pred : ℤ
    pred = get_or (dcs_of o) (O.predictor_of i) (pos 0)

    abbrev After : S.Blocks → SliceState → Type 0
    After = Intra is_far (suc i) G A q for back o.for_set o.back_set

    -- dct_recon with the DC value alone
    abbrev dc_filled : ℤ → S.PartialBlock
    dc_filled recon = record { recon = set (replicate 64 (pos 0)) 0 recon; n = 1 }

    -- the standard's steps behind the DC value
    abbrev their_end : ℤ → S.PartialBlock → Prog (Result Forbidden S.Blocks)
    their_end recon y = pure (record { past = S.past_as i recon x.past; pels = S.written G true i (nat_abs A) y x.pels })

    abbrev their_pairs : ℤ → Prog (Result Forbidden S.Blocks)
    their_pairs recon = bind_result (lift (pairs 1)) (λ p. bind_result (from_result (S.coefficients G true q (dc_filled recon) p)) (their_end recon))

    -- ours
    abbrev made : CodedBlock → B.BlockRead
    made c = B.reconstructed (quantiser true q) m.intra_quant_matrix pred fresh_block c

    abbrev our_end : CodedBlock → Prog (Result Stop SliceState)
    our_end c = from_result (O.block_result g (quantiser true q) i (ours o x.pels) c.difference (made c))

    abbrev our_pairs : Bool → ℤ → Prog CodedBlock
    our_pairs inside d = cond inside (bind (pairs 1) (λ p. done (coded d p))) (done (coded d (pairs_end [] DcOutOfRange)))

    -- the DC value is pred + d, and in its range
    module _ (d : ℤ) (inside : dc_in_range (pred +ℤ d) ≡ true) where
      abbrev dc : ℤ
      dc = pred +ℤ d

      -- what the standard makes of the pairs p
      abbrev Fills : PairsEnd → S.PartialBlock → Type 0
      Fills p y = (p.end ≡ Complete) × Placed rule g m f b true q (dc_filled (pos 8 *ℤ dc)) p.pairs y

      made-is : (p : PairsEnd) (y : S.PartialBlock) → Fills p y → made (coded d p) ≡ whole_of dc y
      unfolding B.reconstructed
      made-is p y c =
          let placed : B.BlockCoefficients → B.BlockCoefficients = λ z. B.with_pairs (quantiser true q) m.intra_quant_matrix z p.pairs in
          let read : Bool → B.BlockRead = λ t. cond (not t) (record { block_coefficients = B.block_coefficients fresh_block 0; predictor = pred; end = p.end })
          (record { block_coefficients = placed (B.with_dc dc fresh_block); predictor = dc; end = p.end }) in
          let block_coefficients = ap placed (begins dc) ∙ c.1.same in
          ap read inside ∙ (λ j. record { block_coefficients = block_coefficients j; predictor = dc; end = c.0 j })

      end-agrees : (p : PairsEnd) (y : S.PartialBlock) (e : ℕ) → Fills p y → Agree After s e (their_end (pos 8 *ℤ dc) y) (our_end (coded d p))
      end-agrees p y e c =
          let n = own_as i dc o in
          let t = component is_far x.past o dc i h before in
          a-same (ap (λ (w : Result Stop SliceState). run (from_result w) s e)
          (sym (block-ends true i o dc (dcs_of n) y x.pels d (made (coded d p)) (made-is p y c) c.1.lone t.dcs)))
          (a-pure (record { y = n.y; cb = n.cb; cr = n.cr; is = refl; past = t.past }))

      pairs-agree : (e : ℕ) → Agree After s e (their_pairs (pos 8 *ℤ dc)) (bind_result (lift (our_pairs (dc_in_range dc) d)) our_end)
      unfolding bind_result if_ok lift bind
      pairs-agree e =
          let from = dc_filled (pos 8 *ℤ dc) in
          let p = (run (pairs 1) s e).value in
          a-same (ap (λ (t : Bool). run (bind_result (lift (our_pairs t d)) our_end) s e) (sym inside)) (
          a-same (sym (lift-bind-on (pairs 1) (λ p. done (coded d p)) our_end s e)) (
          a-lift (pairs 1) (pairs 1) _ _ refl (
          a_way _ (S.coefficients G true q from p) _ (coefficients-same rule g m f b true q from p (lone-dc-begins (pos 8 *ℤ dc)))
          (λ y c. end-agrees p y (run (pairs 1) s e).at c))))

    -- the DC value with the difference that was read
    recon-is : (zz d : ℤ) → zz ≡ d → S.dc_predictor is_far i x.past +ℤ pos 8 *ℤ zz ≡ pos 8 *ℤ (pred +ℤ d)
    recon-is zz d e =
        ap (λ (z : ℤ). z +ℤ pos 8 *ℤ zz) (component is_far x.past o (pred +ℤ d) i h before).pred ∙ eight-add pred zz
        ∙ ap (λ (z : ℤ). pos 8 *ℤ (pred +ℤ z)) e

    intra-agrees : (a : ℕ) → Agree After s a (S.intra_block G is_far q (nat_abs A) i x) (O.one_block g m true i (ours o x.pels))
    unfolding S.intra_block O.one_block coded_block intra_coded bind_result if_ok lift bind
    intra-agrees a =
        let theirs : ℤ → Prog (Result Forbidden S.Blocks) = λ recon.
        bind_result (S.shall (le_z (neg_ℤ (pos 2048)) recon && le_z recon (pos 2047))) (λ z. their_pairs recon) in
        a-same (sym (lift-bind-on (dc_difference (ltb i 4)) (λ d. our_pairs (dc_in_range (pred +ℤ d)) d) our_end s a)) (
        a-bind _ _ (dc-agrees s i a) (λ zz d e c.
        subst (λ (recon : ℤ). Agree After s e (theirs recon) (bind_result (lift (our_pairs (dc_in_range (pred +ℤ d)) d)) our_end)) (sym (recon-is zz d c))
        (a-shall _ _ (λ z. pairs-agree d (eight-inside (pred +ℤ d) z) e))))

  intra-block : (is_far fs bs : Bool) (i : ℕ) → i < 6 → (x : S.Blocks) (w : SliceState) (a : ℕ) → Intra is_far i G A q for back fs bs x w
      → Agree (Intra is_far (suc i) G A q for back fs bs) s a (S.intra_block G is_far q (nat_abs A) i x) (O.one_block g m true i w)
  intra-block is_far fs bs i h x w a r =
      subst (λ (w : SliceState). Agree (Intra is_far (suc i) G A q for back fs bs) s a (S.intra_block G is_far q (nat_abs A) i x) (O.one_block g m true i w))
      (sym r.is) (intra-agrees is_far i h x (own fs bs r.y r.cb r.cr) r.past a)

  inter-block : (o : Own) (p : S.Pasts) (i : ℕ) → i < 6 → (x : S.Blocks) (w : SliceState) (a : ℕ) → Inter G A q for back o p x w
      → Agree (Inter G A q for back o p) s a (S.non_intra_block G q (nat_abs A) i x) (O.one_block g m false i w)
  unfolding S.non_intra_block O.one_block coded_block non_intra_coded B.reconstructed bind_result if_ok lift bind
  inter-block o past i h x w a r =
      let pred = get_or (dcs_of o) (O.predictor_of i) (pos 0) in
      let Q = quantiser false q in
      let matrix = m.non_intra_quant_matrix in
      let E : CodedBlock → Prog (Result Stop SliceState) = λ c.
      from_result (O.block_result g Q i (ours o x.pels) c.difference (B.reconstructed Q matrix pred fresh_block c)) in
      subst (λ (w : SliceState). Agree (Inter G A q for back o past) s a (S.non_intra_block G q (nat_abs A) i x) (O.one_block g m false i w)) (sym r.is) (
      a-same (sym (lift-bind-on (pairs 0) (λ p. done (coded (pos 0) p)) E s a)) (
      a-lift (pairs 0) (pairs 0) _ _ refl (
      let p = (run (pairs 0) s a).value in
      let from : S.PartialBlock = record { recon = replicate 64 (pos 0); n = 0 } in
      a_way _ (S.coefficients G false q from p) _ (coefficients-same rule g m f b false q from p lone-begins) (λ y c.
      let made : B.BlockRead =
      record { block_coefficients = B.with_pairs Q matrix (B.block_coefficients fresh_block 0) p.pairs; predictor = pred; end = p.end } in
      let block_coefficients = ap (λ (l : List ℤ). B.with_pairs Q matrix (B.block_coefficients l 0) p.pairs) (sym times_zero) ∙ c.1.same in
      let read : made ≡ whole_of pred y = λ j. record { block_coefficients = block_coefficients j; predictor = pred; end = c.0 j } in
      a-same (ap (λ (w : Result Stop SliceState). run (from_result w) s (run (pairs 0) s a).at)
      (sym (block-ends false i o pred (dcs_of o) y x.pels (pos 0) made read c.1.lone (kept-dcs o i h))))
      (a-pure (record { is = refl; past = r.past }))))))

  -- ---- all six

  pub intra-blocks : (is_far fs bs : Bool) (cbp : ℕ) (x : S.Blocks) (w : SliceState) (a : ℕ) → Intra is_far 0 G A q for back fs bs x w
      → Agree (Intra is_far 6 G A q for back fs bs) s a (S.blocks G true is_far cbp q (nat_abs A) x) (O.blocks g m true 63 w)
  unfolding S.blocks O.blocks
  intra-blocks is_far fs bs cbp x w a r =
      a-for (λ i. Intra is_far i G A q for back fs bs) 6 (S.block G true is_far cbp q (nat_abs A)) (O.pattern_block g m true 63) (λ i h x w a r.
      rw (or_true (flag cbp (2 ^ (5 - i))), bits-63 i h) (intra-block is_far fs bs i h x w a r)) r

  pub inter-blocks : (is_far : Bool) (o : Own) (p : S.Pasts) (cbp : ℕ) (x : S.Blocks) (w : SliceState) (a : ℕ) → Inter G A q for back o p x w
      → Agree (Inter G A q for back o p) s a (S.blocks G false is_far cbp q (nat_abs A) x) (O.blocks g m false cbp w)
  unfolding S.blocks O.blocks
  inter-blocks is_far o p cbp x w a r =
      a-for (λ i. Inter G A q for back o p) 6 (S.block G false is_far cbp q (nat_abs A)) (O.pattern_block g m false cbp) (λ i h x w a r.
      some i h x w a r (flag cbp (2 ^ (5 - i)))) r
    where
      some : (i : ℕ) → i < 6 → (x : S.Blocks) (w : SliceState) (a : ℕ) → Inter G A q for back o p x w → (t : Bool)
          → Agree (Inter G A q for back o p) s a (cond (t || false) (S.non_intra_block G q (nat_abs A) i x) (pure x))
          (cond t (O.one_block g m false i w) (pure w))
      some i h x w a r true = inter-block o p i h x w a r
      some i h x w a r false = a-pure r
