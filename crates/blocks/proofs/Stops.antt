-- RULES Q8: a block ends a call exactly where it is intra and its DC value is outside. Assumes nothing.
use mathlib.Core.Path.{◌≡◌, refl, sym, ap, ◌∙◌}
use mathlib.Core.Bool.{Bool, true, false, cond, not, ◌&&◌, true≢false, false≢true}
use mathlib.Core.List.{List, []}
use Prim.Native.Nat.{ℕ, zero, suc, ◌+◌, ◌-◌, ◌^◌, ◌≤◌, ◌<◌}
use native.Mathlib.Omega.{arith}
use lib.Dec.{ltb}
use lib.IntN.{ℤ, pos, nat_abs, ◌+ℤ◌}
use Rattle.laws.proofs.Tests.{by-case}
use Rattle.bits.specs.Programs.{Prog, RunResult, done, run, bind}
use Rattle.bits.specs.Programs as Programs
use Rattle.bits.specs.Runs.{RunsAt}
use Rattle.bits.proofs.Programs.{run_bind}
use Rattle.bits.proofs.Gives.{Gives, OnStep, g-done, g_any, g-bind, g-loop}
use Rattle.bits.proofs.Rules.{at_call, at-run, at_done}
use Rattle.coefficients.specs.declared.coefficient.Coefficient.{Coefficient}
use Rattle.coefficients.specs.declared.coefficient.Coefficient.TheVariants.{EndOfBlock, RunLevel}
use Rattle.coefficients.specs.declared.quantiser.Quantiser.{Quantiser}
use Rattle.coefficients.specs.declared.block.BlockEnd.{BlockEnd}
use Rattle.coefficients.specs.declared.block.BlockEnd.TheVariants.{Complete, Dropped, DcOutOfRange}
use Rattle.coefficients.specs.Coefficients.{coefficient}
use Rattle.coefficients.specs.Dcs.{dc_difference, dc_in_range}
use Rattle.coefficients.specs.Syntax.{PairsRead, PairsEnd, CodedBlock, pairs_end, coded, after_coefficient, pair_step, pairs, intra_coded, non_intra_coded}
use Rattle.coefficients.specs.Syntax.{coded_block}
use Rattle.coefficients.specs.Blocks.{BlockRead, reconstructed, block_data_after}
use Rattle.picture_state.specs.declared.types.{Context.Context, Matrices.Matrices, Slice.Slice}
use Rattle.picture_state.specs.Possible.{PossibleSlice}
use Rattle.picture_state.specs.State.{SliceState, slice_state}
use Rattle.picture_state.specs.Result.{Result, ok, error, if_ok, bind_result, lift, for_below}
use Rattle.picture_state.specs.Stop.{Stop, stop, dc_outside}
use Rattle.picture_state.specs.Flags.{flag}
use Rattle.picture_state.proofs.Results.{error-is_not-ok, error_injective}
use Rattle.blocks.specs.Blocks.{predictor_of, with_dc_predictor, dc_predictor, quantiser_of, matrix_for}
use Rattle.blocks.specs.Blocks.{written, block_result, one_block, pattern_block, blocks}
use Rattle.blocks.specs.Stops.{DcStop, BlocksStop}

-- ---- how a block that is coded ends

abbrev is_outside : BlockEnd → Bool
is_outside e = elim e [ Complete ↦ false | Dropped ↦ false | DcOutOfRange ↦ true ]

-- coefficients never end a block so
abbrev Inside : PairsEnd → Type 0
Inside e = is_outside e.end ≡ false

next-inside : (x : PairsRead) (c : Coefficient) → OnStep (λ (y : PairsRead). Unit {0}) Inside (after_coefficient x c)
next-inside x EndOfBlock = refl
next-inside x (RunLevel n level) = by-case (OnStep (λ (y : PairsRead). Unit {0}) Inside) (ltb (x.n + n) 64) (λ e. tt) (λ e. refl)

pairs-inside : {s : List ℕ} (n : ℕ) → Gives s Inside (pairs n)
unfolding pairs pair_step
pairs-inside n = g-loop (λ (y : PairsRead). Unit {0}) 65 _ _ (λ x i. g-bind _ (g_any (coefficient x.n)) (λ c u. g-done (next-inside x c))) refl _ tt

coded-pairs : {s : List ℕ} (n : ℕ) (d : ℤ) → Gives s (λ (c : CodedBlock). is_outside c.end ≡ false) (bind (pairs n) (λ p. done (coded d p)))
coded-pairs n d = g-bind _ (pairs-inside n) (λ p h. g-done h)

-- it ends outside exactly where it is intra and the DC value is
record CodedEnd (intra : Bool) (predictor d : ℤ) (c : CodedBlock) : Type 0 where
  outside : intra ≡ true → dc_in_range (predictor +ℤ d) ≡ false → (c.end ≡ DcOutOfRange) × (c.difference ≡ d)
  inside : is_outside c.end ≡ true → (intra ≡ true) × (dc_in_range (predictor +ℤ d) ≡ false) × (c.difference ≡ d)

module _ (s : List ℕ) (a : ℕ) (luminance : Bool) (predictor : ℤ) where
  abbrev d : ℤ
  d = (run (dc_difference luminance) s a).value

  -- behind the difference
  abbrev rest : Bool → Prog CodedBlock
  rest t = cond t (bind (pairs 1) (λ p. done (coded d p))) (done (coded d (pairs_end [] DcOutOfRange)))

  intra-run : (run (intra_coded luminance predictor) s a).value ≡ (run (rest (dc_in_range (predictor +ℤ d))) s (run (dc_difference luminance) s a).at).value
  unfolding intra_coded
  intra-run = ap (λ (o : RunResult CodedBlock). o.value) (run_bind (dc_difference luminance) _ s a)

  intra-end : CodedEnd true predictor d (run (intra_coded luminance predictor) s a).value
  unfolding run
  intra-end = rw intra-run (go (dc_in_range (predictor +ℤ d)) refl)
    where
      go : (t : Bool) → dc_in_range (predictor +ℤ d) ≡ t → CodedEnd true predictor d (run (rest t) s (run (dc_difference luminance) s a).at).value
      go true h = record {
        outside = λ i o. absurd (true≢false (sym h ∙ o));
        inside = λ k. absurd (false≢true (sym ((coded-pairs 1 d).value (run (dc_difference luminance) s a).at) ∙ k));
      }
      go false h = record { outside = λ i o. (refl, refl); inside = λ k. (refl, h, refl) }

  coded-end : (intra : Bool) → CodedEnd intra predictor d (run (coded_block intra luminance predictor) s a).value
  unfolding coded_block non_intra_coded
  coded-end true = intra-end
  coded-end false = record { outside = λ i o. absurd (false≢true i); inside = λ k. absurd (false≢true (sym ((coded-pairs 0 (pos 0)).value a) ∙ k)) }

-- ---- a block

reconstructed-end : (q : Quantiser) (matrix : List ℕ) (p : ℤ) (left : List ℤ) (c : CodedBlock) → (reconstructed q matrix p left c).end ≡ c.end
unfolding reconstructed
reconstructed-end q matrix p left c =
    by-case (λ (r : BlockRead). r.end ≡ c.end) (q.intra && not (dc_in_range (p +ℤ c.difference))) (λ e. refl) (λ e. refl)

module _ (g : Context) (m : Matrices) (intra : Bool) (number : ℕ) (w : SliceState) (s : List ℕ) (a : ℕ) where
  abbrev q : Quantiser
  q = quantiser_of g intra w.slice

  abbrev at : ℤ → Stop
  at d = stop (dc_outside (nat_abs w.slice.macroblock_address) number (dc_predictor number w.slice) d) w.store

  abbrev read : CodedBlock
  read = (run (coded_block intra (ltb number 4) (dc_predictor number w.slice)) s a).value

  abbrev made : BlockRead
  made = reconstructed q (matrix_for m intra) (dc_predictor number w.slice) w.block_data read

  one-run : (run (one_block g m intra number w) s a).value ≡ block_result g q number w read.difference made
  unfolding one_block bind_result if_ok lift
  one-run =
      let o : RunsAt (one_block g m intra number w) s a (block_result g q number w read.difference made)
      (run (coded_block intra (ltb number 4) (dc_predictor number w.slice)) s a).at
      = at_call (if_ok _) (at_call _ at-run at_done) at_done in
      ap (λ (o : RunResult (Result Stop SliceState)). o.value) o.is

  end-out : (d : ℤ) (r : BlockRead) → r.end ≡ DcOutOfRange → block_result g q number w d r ≡ error (at d)
  unfolding block_result
  end-out d r k = rw k

  end-error : (d : ℤ) (r : BlockRead) {e : Stop} → block_result g q number w d r ≡ error e → (is_outside r.end ≡ true) × (e ≡ at d)
  unfolding block_result
  end-error d r {e} = go r.end
    where
      go : (k : BlockEnd) → ◌≡◌ {A = Result Stop SliceState} (elim k as (λ x. Result Stop SliceState) [
        | Complete ↦ ok (slice_state (with_dc_predictor number r.predictor w.slice) (block_data_after q r)
            (written g q number (nat_abs w.slice.macroblock_address) r.block_coefficients w.store))
        | Dropped ↦ ok (slice_state (with_dc_predictor number r.predictor w.slice) (block_data_after q r) w.store)
        | DcOutOfRange ↦ error (at d)
      ]) (error e) → (is_outside k ≡ true) × (e ≡ at d)
      go Complete h = absurd (error-is_not-ok (sym h))
      go Dropped h = absurd (error-is_not-ok (sym h))
      go DcOutOfRange h = (refl, sym (error_injective h))

  -- RULES Q8: what ends a block
  pub block-stopped : {e : Stop} → (run (one_block g m intra number w) s a).value ≡ error e → DcStop intra number w s a e
  block-stopped h =
      let k = end-error read.difference made (sym one-run ∙ h) in
      let c = (coded-end s a (ltb number 4) (dc_predictor number w.slice) intra).inside
      (sym (ap is_outside (reconstructed-end q (matrix_for m intra) (dc_predictor number w.slice) w.block_data read)) ∙ k.0) in
      record { is_intra = c.0; outside = c.1; is = k.1 ∙ ap at c.2 }

  -- and that it does
  pub block-stops : {e : Stop} → DcStop intra number w s a e → (run (one_block g m intra number w) s a).value ≡ error e
  block-stops k =
      let c = (coded-end s a (ltb number 4) (dc_predictor number w.slice) intra).outside k.is_intra k.outside in
      one-run
      ∙ end-out read.difference made
      (reconstructed-end q (matrix_for m intra) (dc_predictor number w.slice) w.block_data read ∙ c.0)
      ∙ ap (λ (d : ℤ). error (at d)) c.1 ∙ ap error (sym k.is)

-- the predictor is the state's own, and inside
pub predictor-inside : (x : Slice) → PossibleSlice x → (number : ℕ) → number < 6 → dc_in_range (dc_predictor number x) ≡ true
predictor-inside x k number h = k.predictors (predictor_of number) (omega arith)

-- ---- the blocks of a macroblock

module _ (g : Context) (m : Matrices) (intra : Bool) (pattern : ℕ) (w : SliceState) (s : List ℕ) (a : ℕ) where
  abbrev up_to : ℕ → RunResult (Result Stop SliceState)
  up_to n = run (for_below n (pattern_block g m intra pattern) w) s a

  pattern-stopped : {e : Stop} (n : ℕ) → n < 6 → (x : SliceState) (b : ℕ) → up_to n ≡ record { value = ok x; at = b }
      → (run (pattern_block g m intra pattern n x) s b).value ≡ error e → BlocksStop g m intra pattern w s a e
  unfolding run
  pattern-stopped {e} n h x b r k = go (flag pattern (2 ^ (5 - n))) refl k
    where
      go : (t : Bool) → flag pattern (2 ^ (5 - n)) ≡ t → (run (cond t (one_block g m intra n x) (done (ok x))) s b).value ≡ error e
          → BlocksStop g m intra pattern w s a e
      go true f k = record { number = n; few = h; coded = f; before = x; at = b; read = r; stops = block-stopped g m intra n x s b k }
      go false f k = absurd (error-is_not-ok (sym k))

  -- one more block, behind what those before it give
  abbrev with_next : ℕ → RunResult (Result Stop SliceState) → Result Stop SliceState
  with_next n o = (run (if_ok (pattern_block g m intra pattern n) o.value) s o.at).value

  up-to-next : (n : ℕ) → (up_to (suc n)).value ≡ with_next n (up_to n)
  unfolding Programs.for_below
  up-to-next n =
      ap (λ (o : RunResult (Result Stop SliceState)). o.value)
      (run_bind (for_below n (pattern_block g m intra pattern) w) (if_ok (pattern_block g m intra pattern n)) s a)

  up-to-stopped : {e : Stop} (n : ℕ) → n ≤ 6 → (up_to n).value ≡ error e → BlocksStop g m intra pattern w s a e
  unfolding Programs.for_below if_ok run
  up-to-stopped zero h k = absurd (error-is_not-ok (sym k))
  up-to-stopped {e} (suc n) h k = go (up_to n).value (up_to n).at refl (sym (up-to-next n) ∙ k) (λ k. up-to-stopped n (omega arith) k)
    where
      go : (v : Result Stop SliceState) (b : ℕ) → up_to n ≡ record { value = v; at = b }
          → (run (if_ok (pattern_block g m intra pattern n) v) s b).value ≡ error e
          → ((up_to n).value ≡ error e → BlocksStop g m intra pattern w s a e) → BlocksStop g m intra pattern w s a e
      go (ok x) b r k again = pattern-stopped n (omega arith) x b r k
      go (error d) b r k again = again (ap (λ (o : RunResult (Result Stop SliceState)). o.value) r ∙ k)

  -- RULES Q8: the blocks of a macroblock stop at one of them, with those before it written
  pub blocks-stopped : {e : Stop} → (run (blocks g m intra pattern w) s a).value ≡ error e → BlocksStop g m intra pattern w s a e
  unfolding blocks
  blocks-stopped k = up-to-stopped 6 (omega arith) k

  up-to-on : {e : Stop} (n d : ℕ) → (up_to n).value ≡ error e → (up_to (n + d)).value ≡ error e
  unfolding if_ok run
  up-to-on n zero h = let z : n + 0 ≡ n = omega arith in rw z h
  up-to-on n (suc d) h =
      let z : n + suc d ≡ suc (n + d) = omega arith in
      rw z
      (up-to-next (n + d)
      ∙ ap (λ (v : Result Stop SliceState). (run (if_ok (pattern_block g m intra pattern (n + d)) v) s (up_to (n + d)).at).value) (up-to-on n d h))

  -- and they do
  pub blocks-stops : {e : Stop} → BlocksStop g m intra pattern w s a e → (run (blocks g m intra pattern w) s a).value ≡ error e
  unfolding blocks if_ok
  blocks-stops {e} k =
      let n = k.number in
      let here : (up_to (suc n)).value ≡ error e
      = up-to-next n ∙ ap (with_next n) k.read
      ∙ ap (λ (t : Bool). (run (cond t (one_block g m intra n k.before) (done (ok k.before))) s k.at).value) k.coded
      ∙ block-stops g m intra n k.before s k.at k.stops in
      let z : suc n + (5 - n) ≡ 6 = omega (arith, k.few) in
      rw z at (up-to-on (suc n) (5 - n) here)
